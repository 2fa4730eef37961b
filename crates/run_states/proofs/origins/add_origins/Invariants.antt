use Rattle.std.proofs.Common.{◌≡◌, ◌++◌, length}
use Rattle.run_states.specs.Codes.{code_of_origin, codes_of}
use Rattle.run_states.proofs.origins.add_origins.Given as goal

abbrev pub invariant-loop-rest : goal.invariant-loop-rest
invariant-loop-rest l =
    l.code.numbers.items ++ codes_of code_of_origin l.rest ≡ l.initial.code.numbers.items ++ codes_of code_of_origin l.initial.rest

abbrev pub decreases-loop-rest : goal.decreases-loop-rest
decreases-loop-rest l = length l.rest
