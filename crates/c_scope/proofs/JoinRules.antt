-- What walks give whose parts src/joins.rt joins.
use Rattle.std.proofs.Common.{◌≡◌, ◌++◌, ◌∙◌, Bool, false, List, [], ◌∷◌, Option, Some, None, option_map, map, Result, Ok, Err, IfOk, refl, sym, ap, subst}
use Rattle.std.specs.declared.alloc.Global.{Global}
use Rattle.std.specs.declared.boxed.Box.{Box}
use Rattle.std.specs.declared.vec.Vec.{Vec}
use Rattle.c_scope.specs.Typing.{Typing, typed, both}
use Rattle.c_scope.specs.Walks.{Gives, Walked, found_both, if_both, kept_form, mapped, unless_faulty}
use Rattle.c_scope.specs.declared.fault.TypingFault.{TypingFault}
use Rattle.c_scope.proofs.Gives.{gives_both, gives_form, walked_as, walked_both}

same_form : {A : Type 0} (found : Option A) → option_map (λ form. form) found ≡ found
same_form None = refl
same_form (Some form) = refl

-- what a helper gives that wants no memory
pub walked_plain : {A : Type 0} (E : Type 0) (old new : Option TypingFault) (found : Option A) (t : Typing A) → Gives old new found t → Walked {A = A} {E = E} (λ form. form) old new (Ok found) t
walked_plain E old new found t g = gives_form g (same_form found)

-- of what a walk found, in a box
pub walked_boxed : {A B E : Type 0} (old new : Option TypingFault) (g : A → B) (t : Typing B) (found : Result (Option A) E) (held : Result (Option (Box A Global)) E)
    → Walked g old new found t → IfOk held (λ one. found ≡ Ok (option_map (λ box. box.value) one)) → Walked (λ one. g one.value) old new held t
walked_boxed old new g t found (Err e) w h = tt
walked_boxed old new g t found (Ok None) w h = subst (λ one. Walked g old new one t) h w
walked_boxed old new g t found (Ok (Some one)) w h = subst (λ one. Walked g old new one t) h w

-- of a whole of two parts
pub walked_pair : {A B C D F R E : Type 0} (old mid new : Option TypingFault) (g : A → C) (h : B → D) (k : R → F) (form : C → D → F) (s : Typing C) (t : Typing D)
    (first : Result (Option A) E) (second : Result (Option B) E) (parts : Result (Option (A × B)) E) (result : Result (Option R) E)
    → Walked g old mid first s → Walked h mid new second t → parts ≡ found_both first second
    → mapped k result ≡ mapped {A = A × B} (λ pair. form (g pair.0) (h pair.1)) parts → Walked k old new result (both form s t)
walked_pair {A} {B} old mid new g h k form s t first second parts result p q e r =
    let pure_pair : A × B → _ = λ pair. form (g pair.0) (h pair.1) in
    walked_as old new pure_pair k (both form s t) (found_both first second) result (walked_both old mid new g h form s t first second p q) (r ∙ ap (mapped pure_pair) e)

-- ---- lists

-- the first of a list put before a rest, and so on
abbrev pub placed : {Y Z : Type 0} → (Y → Z → Z) → List Y → Z → Z
placed cons [] z = z
placed cons (y ∷ ys) z = cons y (placed cons ys z)

placed_last : {Y Z : Type 0} (cons : Y → Z → Z) (ys : List Y) (y : Y) (z : Z) → placed cons (ys ++ y ∷ []) z ≡ placed cons ys (cons y z)
placed_last cons [] y z = refl
placed_last cons (x ∷ ys) y z = ap (cons x) (placed_last cons ys y z)

-- the pure forms of what was kept
abbrev pub forms_of : {X Y : Type 0} → (X → Y) → Bool → List X → Option (List Y)
forms_of f one_is xs = option_map (map f) (unless_faulty one_is xs)

-- what is given in the end, by what the others give
abbrev pub SoFar : {X Y Z : Type 0} → (Y → Z → Z) → (X → Y) → Option TypingFault → Option TypingFault → Bool → List X → Typing Z → Typing Z → Type 0
SoFar {Z} cons f old best one_is xs left whole =
    (new : Option TypingFault) (more : Option Z) → Gives best new more left → Gives old new (if_both (placed cons) (forms_of f one_is xs) more) whole

all_first : {Y Z : Type 0} (cons : Y → Z → Z) (more : Option Z) → if_both (placed cons) (Some []) more ≡ more
all_first cons None = refl
all_first cons (Some z) = refl

pub so_far_first : {X Y Z : Type 0} (cons : Y → Z → Z) (f : X → Y) (old : Option TypingFault) (xs : List X) (whole : Typing Z) → xs ≡ [] → SoFar cons f old old false xs whole whole
so_far_first cons f old xs whole e new more g = gives_form g (ap (λ all. if_both (placed cons) (forms_of f false all) more) e ∙ all_first cons more)

map_last : {X Y : Type 0} (f : X → Y) (xs : List X) (x : X) → map f (xs ++ x ∷ []) ≡ map f xs ++ f x ∷ []
map_last f [] x = refl
map_last f (y ∷ xs) x = ap (λ ys. f y ∷ ys) (map_last f xs x)

map_kept : {X Y : Type 0} (f : X → Y) (forms : Option (List X)) (one : Option X) → option_map (map f) (kept_form forms one) ≡ kept_form (option_map (map f) forms) (option_map f one)
map_kept f None one = refl
map_kept f (Some xs) None = refl
map_kept f (Some xs) (Some x) = ap (λ all. Some all) (map_last f xs x)

all_kept : {Y Z : Type 0} (cons : Y → Z → Z) (forms : Option (List Y)) (one : Option Y) (more : Option Z)
    → if_both (placed cons) (kept_form forms one) more ≡ if_both (placed cons) forms (if_both cons one more)
all_kept cons None one more = refl
all_kept cons (Some ys) None more = refl
all_kept cons (Some ys) (Some y) None = refl
all_kept cons (Some ys) (Some y) (Some z) = ap (λ all. Some all) (placed_last cons ys y z)

-- one more
pub so_far_next : {X Y Z : Type 0} (cons : Y → Z → Z) (f : X → Y) (old best next : Option TypingFault) (was is : Bool) (xs ys : List X) (one : Option X) (s : Typing Y) (from left whole : Typing Z)
    → from ≡ both cons s left → Gives best next (option_map f one) s → unless_faulty is ys ≡ kept_form (unless_faulty was xs) one
    → SoFar cons f old best was xs from whole → SoFar cons f old next is ys left whole
so_far_next {Z} cons f old best next was is xs ys one s from left whole e g k so_far new more h =
    let given : Gives best new (if_both cons (option_map f one) more) from = subst (λ t. Gives best new (if_both cons (option_map f one) more) t) (sym e) (gives_both cons s left g h) in
    let form : forms_of f is ys ≡ kept_form (forms_of f was xs) (option_map f one) = ap (option_map (map f)) k ∙ map_kept f (unless_faulty was xs) one in
    gives_form (so_far new (if_both cons (option_map f one) more) given) (ap (λ all. if_both (placed cons) all more) form ∙ all_kept cons (forms_of f was xs) (option_map f one) more)

-- nothing is left
pub so_far_last : {X Y Z : Type 0} (cons : Y → Z → Z) (none : Z) (close : List Y → Z) (f : X → Y) (old best : Option TypingFault) (is : Bool) (xs : List X) (left whole : Typing Z) (result : Option (Vec X Global))
    → ((ys : List Y) → placed cons ys none ≡ close ys) → left ≡ typed none → option_map (λ all. all.items) result ≡ unless_faulty is xs
    → SoFar cons f old best is xs left whole → Gives old best (option_map (λ (all : Vec X Global). close (map f all.items)) result) whole
so_far_last {X} {Y} {Z} cons none close f old best is xs left whole result c e k so_far =
    let start : Gives best best (Some none) left = subst (λ t. Gives best best (Some none) t) (sym e) (record { best = refl; form = refl }) in
    gives_form (so_far best (Some none) start) (by_result result (unless_faulty is xs) k)
  where
    by_result : (result : Option (Vec X Global)) (found : Option (List X)) → option_map (λ all. all.items) result ≡ found
        → option_map (λ (all : Vec X Global). close (map f all.items)) result ≡ if_both (placed cons) (option_map (map f) found) (Some none)
    by_result None found h = subst (λ all. None ≡ if_both (placed cons) (option_map (map f) all) (Some none)) h refl
    by_result (Some all) found h = subst (λ one. Some (close (map f all.items)) ≡ if_both (placed cons) (option_map (map f) one) (Some none)) h (ap (λ one. Some one) (sym (c (map f all.items))))

pub placed_all : {Y : Type 0} (ys : List Y) → placed ◌∷◌ ys [] ≡ ys
placed_all [] = refl
placed_all (y ∷ ys) = ap (λ all. y ∷ all) (placed_all ys)
