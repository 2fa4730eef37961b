-- The members of one colour as the sort sees them.
use Rattle.std.specs.Prelude.{ℕ, ℤ, List}
use Rattle.mpi_call.specs.Made.{key_in}
use Rattle.mpi_call.specs.declared.splits.Candidate.{Candidate}

-- a member beside what it entered, as its rank and key
abbrev pub candidate_of : ℕ × List ℤ → Candidate
candidate_of entry = record { rank = entry.0; key = key_in entry.1 }
