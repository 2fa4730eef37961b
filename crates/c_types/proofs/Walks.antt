-- What a walk gives of something that may be left out, and what a loop over a list has given so far.
use Rattle.std.proofs.Common.{◌≡◌, Option, Some, None, option_map, refl, ap, ◌∙◌}
use Rattle.c_scope.specs.Typing.{Typing, typed, both, onto}
use Rattle.c_scope.specs.Walks.{Gives, if_both}
use Rattle.c_scope.specs.declared.fault.TypingFault.{TypingFault}
use Rattle.c_scope.proofs.Gives.{gives_both, gives_form, gives_onto}

map_some : {A B : Type 0} (f : A → B) (found : Option A) → option_map (option_map f) (option_map Some found) ≡ option_map Some (option_map f found)
map_some f None = refl
map_some f (Some a) = refl

-- something that may be left out, which is there
pub gives_some : {A B : Type 0} {old new : Option TypingFault} {some : Option (Option A)} (f : A → B) (found : Option A) (t : Typing B) → Gives old new (option_map f found) t
    → some ≡ option_map Some found → Gives old new (option_map (option_map f) some) (onto Some t)
gives_some f found t g e = gives_form (gives_onto Some t g) (ap (option_map (option_map f)) e ∙ map_some f found)

-- ---- loops

-- what is given in the end, by what the others give; `onto_all`: the forms so far before those of the others
abbrev pub SoFar : {F Z : Type 0} → (F → Z → Z) → Option TypingFault → Option TypingFault → Option F → Typing Z → Typing Z → Type 0
SoFar {F} {Z} onto_all old best forms left whole =
    (new : Option TypingFault) (more : Option Z) → Gives best new more left → Gives old new (if_both onto_all forms more) whole

all_first : {F Z : Type 0} (onto_all : F → Z → Z) (none : F) → ((z : Z) → onto_all none z ≡ z) → (more : Option Z) → if_both onto_all (Some none) more ≡ more
all_first onto_all none first None = refl
all_first onto_all none first (Some z) = ap (λ one. Some one) (first z)

pub so_far_first : {F Z : Type 0} (onto_all : F → Z → Z) (none : F) (first : (z : Z) → onto_all none z ≡ z) (old : Option TypingFault) (whole : Typing Z)
    → SoFar onto_all old old (Some none) whole whole
so_far_first onto_all none first old whole new more g = gives_form g (all_first onto_all none first more)

-- by how one is put behind those so far, and before the others
module _ {F Y Z : Type 0} (step : F → Y → F) (cons : Y → Z → Z) (onto_all : F → Z → Z) (one_last : (all : F) (y : Y) (z : Z) → onto_all (step all y) z ≡ onto_all all (cons y z)) where
  all_kept : (forms : Option F) (one : Option Y) (more : Option Z) → if_both onto_all (if_both step forms one) more ≡ if_both onto_all forms (if_both cons one more)
  all_kept None one more = refl
  all_kept (Some all) None more = refl
  all_kept (Some all) (Some y) None = refl
  all_kept (Some all) (Some y) (Some z) = ap (λ one. Some one) (one_last all y z)

  pub so_far_next : {old best next : Option TypingFault} (forms : Option F) {more : Option F} {one : Option Y} (s : Typing Y) (left whole : Typing Z)
      → SoFar onto_all old best forms (both cons s left) whole → Gives best next one s → more ≡ if_both step forms one → SoFar onto_all old next more left whole
  so_far_next forms {more} {one} s left whole so_far g e new others h =
      gives_form (so_far new (if_both cons one others) (gives_both cons s left g h)) (ap (λ all. if_both onto_all all others) e ∙ all_kept forms one others)

pub so_far_last : {F Z : Type 0} (onto_all : F → Z → Z) {old best : Option TypingFault} (forms : Option F) (none : Z) (whole : Typing Z)
    → SoFar onto_all old best forms (typed none) whole → Gives old best (option_map (λ all. onto_all all none) forms) whole
so_far_last {F} {Z} onto_all {old} {best} forms none whole so_far = gives_form (so_far best (Some none) (record { best = refl; form = refl })) (by_forms forms)
  where
    by_forms : (forms : Option F) → option_map (λ all. onto_all all none) forms ≡ if_both onto_all forms (Some none)
    by_forms None = refl
    by_forms (Some all) = refl
