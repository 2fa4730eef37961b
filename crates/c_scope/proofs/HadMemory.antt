-- What holds of walks that had memory, as that the scope is then this one, and walks of which more is known where those before them had it.
use Rattle.std.proofs.Common.{◌≡◌, Option, option_map, Result, Ok, Err, IfOk, OnOk, sym, subst}
use Rattle.std.specs.declared.alloc.Global.{Global}
use Rattle.std.specs.declared.boxed.Box.{Box}
use Rattle.c_scope.specs.Typing.{Typing, both}
use Rattle.c_scope.specs.Walks.{Walked, found_both, mapped}
use Rattle.c_scope.specs.declared.fault.TypingFault.{TypingFault}
use Rattle.c_scope.proofs.Gives.{walked_as, walked_both}

-- ---- what holds

-- what follows
pub on_ok : {A E P Q : Type 0} (r : Result A E) → (P → Q) → OnOk r P → OnOk r Q
on_ok (Ok a) f p = f p
on_ok (Err e) f p = tt

-- of two
on_both : {A B E P Q R : Type 0} (first : Result (Option A) E) (second : Result (Option B) E) → OnOk first P → OnOk second Q → (P → Q → R) → OnOk (found_both first second) R
on_both (Err e) second p q f = tt
on_both (Ok a) (Err e) p q f = tt
on_both (Ok a) (Ok b) p q f = f p q

pub on_pair : {A B E P Q R : Type 0} (first : Result (Option A) E) (second : Result (Option B) E) (pair : Result (Option (A × B)) E)
    → pair ≡ found_both first second → OnOk first P → OnOk second Q → (P → Q → R) → OnOk pair R
on_pair {R} first second pair e p q f = subst (λ one. OnOk one R) (sym e) (on_both first second p q f)

-- what holds in any case
pub always : {A E P : Type 0} (r : Result A E) → P → OnOk r P
always (Ok a) p = p
always (Err e) p = tt

-- of the first alone, and of the second
pub on_first : {A B E : Type 0} (P : Type 0) (first : Result (Option A) E) (second : Result (Option B) E) (pair : Result (Option (A × B)) E) → pair ≡ found_both first second → OnOk first P → OnOk pair P
on_first P first second pair e p = on_pair first second pair e p (always second e) (λ (one : P) (_ : pair ≡ found_both first second). one)

pub on_second : {A B E : Type 0} (P : Type 0) (first : Result (Option A) E) (second : Result (Option B) E) (pair : Result (Option (A × B)) E) → pair ≡ found_both first second → OnOk second P → OnOk pair P
on_second P first second pair e p = on_pair first second pair e (always first e) p (λ (_ : pair ≡ found_both first second) (one : P). one)

-- where the same was found
pub on_mapped : {A B C E : Type 0} (P : Type 0) (g : A → C) (h : B → C) (found : Result (Option A) E) (result : Result (Option B) E) → mapped h result ≡ mapped g found → OnOk found P → OnOk result P
on_mapped P g h (Err e) (Err f) k p = tt
on_mapped P g h (Err e) (Ok b) k p = absurd (cc)
on_mapped P g h (Ok a) (Err f) k p = tt
on_mapped P g h (Ok a) (Ok b) k p = p

-- in a box
pub on_boxed : {A E : Type 0} (P : Type 0) (found : Result (Option A) E) (result : Result (Option (Box A Global)) E)
    → OnOk found P → IfOk result (λ held. found ≡ Ok (option_map (λ box. box.value) held)) → OnOk result P
on_boxed P found (Err e) p h = tt
on_boxed P found (Ok held) p h = subst (λ one. OnOk one P) h p

-- ---- one after another

found_after : {A B C D F E : Type 0} (old mid new : Option TypingFault) (g : A → C) (h : B → D) (form : C → D → F) (s : Typing C) (t : Typing D)
    (first : Result (Option A) E) (second : Result (Option B) E)
    → Walked g old mid first s → OnOk first (Walked h mid new second t) → Walked {A = A × B} (λ pair. form (g pair.0) (h pair.1)) old new (found_both first second) (both form s t)
found_after old mid new g h form s t (Err e) second p q = tt
found_after old mid new g h form s t (Ok a) second p q = walked_both old mid new g h form s t (Ok a) second p q

-- a pair
pub pair_after : {A B C D F E : Type 0} (old mid new : Option TypingFault) (g : A → C) (h : B → D) (form : C → D → F) (s : Typing C) (t : Typing D)
    (first : Result (Option A) E) (second : Result (Option B) E) (pair : Result (Option (A × B)) E)
    → Walked g old mid first s → OnOk first (Walked h mid new second t) → pair ≡ found_both first second
    → Walked {A = A × B} (λ one. form (g one.0) (h one.1)) old new pair (both form s t)
pair_after {A} {B} old mid new g h form s t first second pair w v p =
    subst (λ one. Walked {A = A × B} (λ two. form (g two.0) (h two.1)) old new one (both form s t)) (sym p) (found_after old mid new g h form s t first second w v)

-- a whole of two parts
pub joined_after : {A B C D F G E : Type 0} (old mid new : Option TypingFault) (g : A → C) (h : B → D) (f : G → F) (form : C → D → F) (s : Typing C) (t : Typing D)
    (first : Result (Option A) E) (second : Result (Option B) E) (pair : Result (Option (A × B)) E) (result : Result (Option G) E)
    → Walked g old mid first s → OnOk first (Walked h mid new second t) → pair ≡ found_both first second
    → mapped f result ≡ mapped {A = A × B} (λ one. form (g one.0) (h one.1)) pair → Walked f old new result (both form s t)
joined_after {A} {B} old mid new g h f form s t first second pair result w v p k =
    walked_as {A = A × B} old new (λ one. form (g one.0) (h one.1)) f (both form s t) pair result (pair_after old mid new g h form s t first second pair w v p) k
