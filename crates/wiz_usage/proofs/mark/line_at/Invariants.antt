use Rattle.std.proofs.Common.{◌-◌, suc}
use Rattle.wiz_usage.proofs.LineLaws.{AreLinesFrom}
use Rattle.wiz_usage.proofs.mark.line_at.Given as goal

abbrev pub invariant-loop : goal.invariant-loop
invariant-loop l = AreLinesFrom l.fn.text l.number l.cursor (suc (l.number - l.counter))
