-- No more positions stand below one than there are.
use Rattle.std.proofs.Common.{◌≤◌, ℕ, List, [], ◌∷◌, arith, inl, inr, length, nat_lt}
use Rattle.mpi_call.specs.Lists.{count_below}
use Rattle.run_model.proofs.Views.{test_cases}

pub few_below : (at : ℕ) (places : List ℕ) → count_below at places ≤ length places
few_below at [] = omega arith
few_below at (place ∷ places) =
    let rest = few_below at places in
    elim (test_cases (nat_lt place at)) [
      | inl h ↦ rw h (omega (arith, rest))
      | inr h ↦ rw h (omega (arith, rest))
    ]
