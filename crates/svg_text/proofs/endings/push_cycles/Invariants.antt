use Rattle.std.proofs.Common.{◌≡◌, ◌+◌, ◌*◌, ◌<◌, ◌^◌, ◌++◌, length}
use Rattle.svg_text.specs.Endings.{cycles_text}
use Rattle.svg_text.proofs.endings.push_cycles.Given as goal

abbrev pub invariant-loop-rest : goal.invariant-loop-rest
invariant-loop-rest l = record {
  low : l.y + 14 * length l.rest < 2 ^ 42;
  cycles : l.out ++ cycles_text l.y l.rest ≡ l.initial.out ++ cycles_text l.initial.y l.cycles;
}

abbrev pub decreases-loop-rest : goal.decreases-loop-rest
decreases-loop-rest l = length l.rest
