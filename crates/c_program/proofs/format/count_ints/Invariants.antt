use Rattle.std.proofs.Common.{◌≡◌, ◌+◌, ◌≤◌, length, option_map}
use Rattle.c_program.specs.Formats.{ints_taken}
use Rattle.c_program.specs.FormatReading.{pieces_from, format_pieces}
use Rattle.c_program.proofs.format.count_ints.Given as goal

abbrev pub invariant-loop-left : goal.invariant-loop-left
invariant-loop-left l = record {
  same : option_map ints_taken (format_pieces l.format) ≡ option_map (λ n. l.count + n) (option_map ints_taken (pieces_from l.before l.left));
  fits : l.count + length l.left ≤ length l.format;
}

abbrev pub decreases-loop-left : goal.decreases-loop-left
decreases-loop-left l = length l.left
