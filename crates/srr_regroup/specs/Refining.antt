-- Which plans a log can be refined by, and why it cannot by others.
use Rattle.std.specs.Prelude.{◌≡◌, ◌≢◌, ◌<◌, ◌&&◌, ℕ, List, [], All, Bool, false, true, not, length}
use Rattle.std.specs.List.{list_any, slice_index_or}
use Rattle.mpi_call.specs.Collectives.{is_member}
use Rattle.group_plan.specs.Plans.{number_of_ranks}
use Rattle.srr_entry.specs.declared.log.Log.{Log}
use Rattle.srr_regroup.specs.declared.refine_fault.RefineFault.{RefineFault}
use Rattle.srr_regroup.specs.declared.refine_fault.RefineFault.TheVariants.{Ranks, Crosses}
use Rattle.srr_regroup.specs.Regrouping.{are_within}

-- some of these ranks are in the group, and not all of them
abbrev pub crosses : List ℕ → List ℕ → Bool
crosses group ranks = list_any (λ rank. is_member group rank) ranks && not (are_within group ranks)

-- the plan is for as many ranks as the log, and each of its groups lies in the log's group or outside it
abbrev pub CanRefine : Log → List (List ℕ) → Type 0
CanRefine log groups = (number_of_ranks groups ≡ log.ranks) × All (λ ranks. crosses log.group ranks ≡ false) groups

-- the least number of a plan's group that crosses the log's group
pub record IsLeastCrossing (group : List ℕ) (groups : List (List ℕ)) (number : ℕ) : Type 0 where
  pub within : number < length groups
  pub here : crosses group (slice_index_or groups number []) ≡ true
  pub least : (other : ℕ) → other < number → crosses group (slice_index_or groups other []) ≡ false

-- why a log cannot be refined by a plan: first the numbers of ranks differ, then a group crosses
abbrev pub IsRefineFault : Log → List (List ℕ) → RefineFault → Type 0
IsRefineFault log groups (Ranks plan ranks) = (plan ≡ number_of_ranks groups) × (ranks ≡ log.ranks) × (plan ≢ ranks)
IsRefineFault log groups (Crosses number) = (number_of_ranks groups ≡ log.ranks) × IsLeastCrossing log.group groups number
