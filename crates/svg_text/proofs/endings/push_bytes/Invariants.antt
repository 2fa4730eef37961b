use Rattle.std.proofs.Common.{◌≡◌, ◌++◌, flat_map, length}
use Rattle.svg_text.specs.Endings.{byte_text}
use Rattle.svg_text.proofs.endings.push_bytes.Given as goal

abbrev pub invariant-loop-rest : goal.invariant-loop-rest
invariant-loop-rest l = l.out ++ flat_map (byte_text) l.rest ≡ l.initial.out ++ flat_map (byte_text) l.bytes

abbrev pub decreases-loop-rest : goal.decreases-loop-rest
decreases-loop-rest l = length l.rest
