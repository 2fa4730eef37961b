use Rattle.std.proofs.Common.{◌≡◌, ◌++◌, codes, flat_map, length}
use Rattle.wiz_base.specs.Decimals.{decimal_text}
use Rattle.svg_text.proofs.endings.push_nexts.Given as goal

abbrev pub invariant-loop-rest : goal.invariant-loop-rest
invariant-loop-rest l = l.out ++ flat_map (λ rank. codes " waits for " ++ decimal_text rank) l.rest ≡ l.initial.out ++ flat_map (λ rank. codes " waits for " ++ decimal_text rank) l.others

abbrev pub decreases-loop-rest : goal.decreases-loop-rest
decreases-loop-rest l = length l.rest
