use Rattle.std.proofs.Common.{◌≡◌, ◌++◌, map}
use Rattle.run_model.specs.Lists.{world}
use Rattle.run_model.specs.Pairs.{partner_of}
use Rattle.run_states.specs.Codes.{code_of_partner, codes_of}
use Rattle.run_states.proofs.pairs.add_rank.Given as goal

abbrev pub invariant-loop-start : goal.invariant-loop-start
invariant-loop-start l =
    l.code.numbers.items ≡ l.fn.code.numbers.items ++ codes_of code_of_partner (map (λ k. partner_of l.pairs (l.rank, k)) (world l.start 0))
