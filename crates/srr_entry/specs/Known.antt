-- What a rank's entries need of what it has seen: its starts, and the members of the communicators that it knows.
use Rattle.std.specs.Prelude.{◌≡◌, ℕ, List, None, nat_eq}
use Rattle.std.specs.Map.{lookup}
use Rattle.mpi_call.specs.declared.call.Call.{Call}
use Rattle.run_model.specs.Communicators.{known_after}
use Rattle.run_model.specs.Lists.{world}
use Rattle.run_model.specs.Views.{View, starts_of}

-- all ranks, the starts by number, and the members of each communicator that a reply made
pub record KnownSoFar : Type 0 where
  pub world : List ℕ
  pub starts : List Call
  pub members : List (ℕ × List ℕ)

-- this is known of a view of a rank of n
pub record IsKnownOf (n : ℕ) (own : View) (known : KnownSoFar) : Type 0 where
  pub world : known.world ≡ world n 0
  pub starts : known.starts ≡ starts_of own
  pub members : (comm : ℕ) → lookup (nat_eq comm) known.members ≡ known_after comm None own
