-- The calls that ranks wait with.
use Rattle.std.specs.Prelude.{◌≡◌, ◌<◌, ℕ, List, Option, Some, IfSome, true, length, slice_index_or}
use Rattle.mpi_call.specs.declared.call.Call.{Call}
use Rattle.run_model.specs.Program.{Standing}
use Rattle.run_model.specs.Views.{Next}

-- a call that is kept is the run's next one, and was handed out
abbrev pub IsKeptCall : {P : Type 0} → (P → Next) → Standing P → Option Call → Type 0
IsKeptCall next standing kept = IfSome kept (λ call. (standing.asked ≡ true) × (next standing.program standing.ranks standing.rank standing.replies ≡ Some call))

-- at most one call for each run
pub record AreCallsOfRuns {P R : Type 0} (next : P → Next) (standing : R → Standing P) (runs : List R) (kept : List (Option Call)) : Type 0 where
  pub as_many : length kept ≡ length runs
  pub each : (k : ℕ) (run : R) (call : Option Call) → k < length runs → IsKeptCall next (standing (slice_index_or runs k run)) (slice_index_or kept k call)
