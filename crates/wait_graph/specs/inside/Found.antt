-- What is found of a rank.
use Rattle.std.specs.Prelude.{◌≡◌, ℕ, List, [], ◌∷◌, Option, Some, None}
use Rattle.mpi_call.specs.declared.call.Call.{Call}
use Rattle.run_model.specs.declared.event.Event.{Event}
use Rattle.wait_graph.specs.declared.graph.Blocked.{Blocked}
use Rattle.wait_graph.specs.declared.stuck.RankFinding.{RankFinding}
use Rattle.wait_graph.specs.Going.{going, stopped_call}
use Rattle.wait_graph.specs.Graph.{blocked_at, is_hopeless_at, next_at}

-- one or none, as a list
abbrev pub listed_blocked : Option Blocked → List Blocked
listed_blocked None = []
listed_blocked (Some blocked) = blocked ∷ []

-- of a rank, by the call at which it was stopped
pub record IsFoundAt (n : ℕ) (G : List Event) (rank : ℕ) (call : Option Call) (found : RankFinding) : Type 0 where
  pub blocked : listed_blocked found.blocked ≡ blocked_at n G rank call
  pub next : found.next ≡ next_at n G rank call
  pub hopeless : found.is_hopeless ≡ is_hopeless_at n G rank call

-- of a rank of a run that is stuck
abbrev pub IsRankFinding : ℕ → List Event → ℕ → RankFinding → Type 0
IsRankFinding n events rank found = IsFoundAt n (going events) rank (stopped_call events rank) found
