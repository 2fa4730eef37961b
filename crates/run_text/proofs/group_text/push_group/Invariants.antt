use Rattle.std.proofs.Common.{◌≡◌, ◌++◌, codes, length, flat_map}
use Rattle.wiz_base.specs.Decimals.{decimal_text}
use Rattle.run_text.proofs.group_text.push_group.Given as goal

abbrev pub invariant-loop-rest : goal.invariant-loop-rest
invariant-loop-rest l = l.out ++ flat_map (λ rank. codes " " ++ decimal_text rank) l.rest ≡ l.initial.out ++ flat_map (λ rank. codes " " ++ decimal_text rank) l.initial.rest

abbrev pub decreases-loop-rest : goal.decreases-loop-rest
decreases-loop-rest l = length l.rest
