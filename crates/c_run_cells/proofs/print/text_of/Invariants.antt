use Rattle.std.proofs.Common.{◌≡◌, ◌++◌, length}
use Rattle.c_program.specs.Prints.{text_of}
use Rattle.c_run_cells.proofs.print.text_of.Given as goal

abbrev pub invariant-loop-pieces : goal.invariant-loop-pieces
invariant-loop-pieces l = l.text ++ text_of l.pieces l.left ≡ text_of l.format l.ints

abbrev pub decreases-loop-pieces : goal.decreases-loop-pieces
decreases-loop-pieces l = length l.pieces
