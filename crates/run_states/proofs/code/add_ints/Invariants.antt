use Rattle.std.proofs.Common.{◌≡◌, ◌++◌, ◌∷◌, [], length}
use Rattle.run_states.specs.Codes.{codes_of}
use Rattle.run_states.proofs.code.add_ints.Given as goal

abbrev pub invariant-loop-rest : goal.invariant-loop-rest
invariant-loop-rest l =
    l.code.numbers.items ++ codes_of (λ int. int ∷ []) l.rest ≡ l.initial.code.numbers.items ++ codes_of (λ int. int ∷ []) l.initial.rest

abbrev pub decreases-loop-rest : goal.decreases-loop-rest
decreases-loop-rest l = length l.rest
