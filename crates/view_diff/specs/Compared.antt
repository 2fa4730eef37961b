-- What is told of each rank of a group whose two histories are compared.
use Rattle.std.specs.Prelude.{◌≡◌, ℕ, List, Bool, true, false, map, length}
use Rattle.mpi_call.specs.Lists.{IsIn}
use Rattle.run_model.specs.declared.event.Event.{Event}
use Rattle.run_model.specs.Views.{view_of}
use Rattle.view_diff.specs.declared.compared.Compared.{Compared}
use Rattle.view_diff.specs.declared.compared.ViewRelation.{ViewRelation}
use Rattle.view_diff.specs.declared.compared.ViewRelation.TheVariants.{Alike, First, Follows}
use Rattle.view_diff.specs.Firsts.{IsFirstParting}
use Rattle.view_diff.specs.Partings.{AreAlike, PartAt}

-- the views of the rank are alike, of so many calls; or they part there, first or in consequence
abbrev pub IsWay : ℕ → List ℕ → List Event → List Event → Compared → Type 0
IsWay n group one other rank = elim rank.way [
  | Alike ↦ AreAlike (view_of one rank.rank) (view_of other rank.rank) × (rank.same ≡ length (view_of one rank.rank))
  | First ↦ IsFirstParting n group one other rank.rank rank.same
  | Follows ↦ PartAt group one other rank.rank rank.same × (IsFirstParting n group one other rank.rank rank.same → ⊥)
]

-- the first of these
abbrev pub is_first_way : ViewRelation → Bool
is_first_way First = true
is_first_way way = false

-- the rank's views part, and no other parting comes before that
abbrev pub comes_first : Compared → Bool
comes_first rank = is_first_way rank.way

-- one for each rank of the group, in order; where any part, some part first
pub record AreCompared (n : ℕ) (group : List ℕ) (one other : List Event) (ranks : List Compared) : Type 0 where
  pub all : map (λ (rank : Compared). rank.rank) ranks ≡ group
  pub each : (rank : Compared) → IsIn rank ranks → IsWay n group one other rank
  pub some : (rank number : ℕ) → PartAt group one other rank number → (first : Compared) × IsIn first ranks × (first.way ≡ First)
