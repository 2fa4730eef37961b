use Rattle.std.proofs.Common.{◌≡◌, ◌++◌, flat_map, length}
use Rattle.svg_text.specs.Shapes.{received_message_text}
use Rattle.svg_text.proofs.svg.push_messages.Given as goal

abbrev pub invariant-loop-rest : goal.invariant-loop-rest
invariant-loop-rest l = l.out ++ flat_map (received_message_text l.grid l.groups) l.rest ≡ l.initial.out ++ flat_map (received_message_text l.grid l.groups) l.receives

abbrev pub decreases-loop-rest : goal.decreases-loop-rest
decreases-loop-rest l = length l.rest
