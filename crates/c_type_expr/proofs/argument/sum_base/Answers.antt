use Rattle.c_type_expr.proofs.ArgumentRules.{sum_many}
use Rattle.c_type_expr.proofs.argument.sum_base.Goals as goal

pub returns-in-len2-up : goal.returns-in-len2-up
returns-in-len2-up c = sum_many c.args.name c.args.links.now c.in-len2-up.len_at_least
