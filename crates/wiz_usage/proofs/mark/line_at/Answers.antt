use Rattle.wiz_usage.proofs.LineLaws.{all_lines, next_lines, no_line_left}
use Rattle.wiz_usage.proofs.mark.line_at.Goals as goal

pub loop-init : goal.loop-init
loop-init c = all_lines c.args.text.now c.new-cursor.result c.args.number c.if-number-eq0.false c.new-cursor.ensures

pub returns-in_err-ended_line : goal.returns-in_err-ended_line
returns-in_err-ended_line c =
    rw c.from_residual.ensures
    (no_line_left c.args.text.now c.loop.cursor c.ended_line.new.self c.args.number c.loop.counter c.ended_line.result c.loop-test.true c.in_err-ended_line.was c.ended_line.ensures c.loop.invariant)

pub loop-preserved : goal.loop-preserved
loop-preserved c =
    next_lines c.args.text.now c.loop.cursor c.ended_line.new.self c.args.number c.loop.counter c.ended_line.result c.in_ok-ended_line.field-0 c.loop-test.true c.in_ok-ended_line.was
    c.ended_line.ensures c.loop.invariant
