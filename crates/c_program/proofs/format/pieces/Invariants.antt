use Rattle.std.proofs.Common.{◌≡◌, ◌++◌, length, option_map}
use Rattle.c_program.specs.FormatReading.{pieces_from, format_pieces}
use Rattle.c_program.proofs.format.pieces.Given as goal

abbrev pub invariant-loop-left : goal.invariant-loop-left
invariant-loop-left l = format_pieces l.format ≡ option_map (λ pieces. l.found.items ++ pieces) (pieces_from l.before l.left)

abbrev pub decreases-loop-left : goal.decreases-loop-left
decreases-loop-left l = length l.left
