use Rattle.std.proofs.Common.{◌≡◌, ◌++◌, map}
use Rattle.run_model.specs.Lists.{world}
use Rattle.run_states.specs.Codes.{code_of_list, code_of_partner, codes_of}
use Rattle.run_states.specs.Keys.{partners_in}
use Rattle.run_states.proofs.pairs.add_partners.Given as goal

abbrev pub invariant-loop-rank : goal.invariant-loop-rank
invariant-loop-rank l =
    l.code.numbers.items ≡ l.initial.code.numbers.items ++ codes_of (code_of_list code_of_partner) (map (partners_in l.events) (world l.rank 0))
