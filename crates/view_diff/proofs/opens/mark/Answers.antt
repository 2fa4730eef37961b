use Rattle.std.proofs.Common.{arith}
use Rattle.view_diff.proofs.OpenLemmas.{mark_at, mark_past}
use Rattle.view_diff.proofs.opens.mark.Goals as goal

pub returns-then-number-marks : goal.returns-then-number-marks
returns-then-number-marks c = mark_at c.args.marks.now c.args.number (let less = c.if-number-marks.true in omega (arith, less))

pub returns-else-number-marks : goal.returns-else-number-marks
returns-else-number-marks c = mark_past c.args.marks.now c.args.number (let less = c.if-number-marks.false in omega (arith, less))
