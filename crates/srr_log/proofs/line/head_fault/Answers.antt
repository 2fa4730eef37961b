use Rattle.srr_log.proofs.LineLaws.{other_version, no_version, none_behind, no_decimal}
use Rattle.srr_log.proofs.line.head_fault.Goals as goal

pub returns-then-is_decimal : goal.returns-then-is_decimal
returns-then-is_decimal c = other_version c.args.line.now c.in-Some.version.now c.requires c.in-Some.ensures (c.is_decimal.ensures.0 c.if-is_decimal.true)

pub returns-else-is_decimal : goal.returns-else-is_decimal
returns-else-is_decimal c =
    no_version c.args.line.now (no_decimal c.args.line.now c.in-Some.version.now c.in-Some.ensures (λ decimal. let yes = c.is_decimal.ensures.1 decimal in cc (yes, c.if-is_decimal.false)))

pub returns-in-None : goal.returns-in-None
returns-in-None c = no_version c.args.line.now (none_behind c.args.line.now c.in-None.ensures)
