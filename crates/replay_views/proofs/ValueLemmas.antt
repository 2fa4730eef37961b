-- Values that are the same, and that differ.
use Rattle.std.proofs.Common.{◌≡◌, ◌++◌, ◌∷◌, ℕ, ℤ, List, [], Option, Some, None, ap, false, refl, sym, true}
use Rattle.std.proofs.lemmas.Bool.Decides.{Decides-int_eq}
use Rattle.std.proofs.lemmas.List.{append-nil}
use Rattle.std.proofs.lemmas.Slice.Eq.{slice_eq-Decides}
use Rattle.std.specs.Ordering.{int_eq}
use lib.Pointwise.{pointwise}
use Rattle.replay_views.specs.declared.changes.Change.{Change}
use Rattle.replay_views.specs.Watching.{change_between, same_values}

pub same_is : (one other : Option (List ℤ)) → same_values one other ≡ true → one ≡ other
same_is None None h = refl
same_is None (Some others) h = absurd (cc)
same_is (Some values) None h = absurd (cc)
same_is (Some values) (Some others) h = ap Some ((slice_eq-Decides Decides-int_eq values others (pointwise int_eq values others) refl).0 h)

pub no_change : (number : ℕ) (one other : Option (List ℤ)) (changes : List Change) → same_values one other ≡ true
    → changes ≡ changes ++ change_between number one other
no_change number one other changes same = rw same (sym (append-nil changes))

pub one_change : (number : ℕ) (one other : Option (List ℤ)) (changes changes' : List Change) → same_values one other ≡ false
    → changes' ≡ changes ++ (record { number = number; old = one; new = other }) ∷ [] → changes' ≡ changes ++ change_between number one other
one_change number one other changes changes' apart is = rw apart is
