use Rattle.std.proofs.Common.{rules}
use Rattle.c_scope.proofs.Gives.{walked_five, walked_made}
use Rattle.c_type_expr.proofs.mpi_arguments.CallSite.reduction.Goals as goal

pub returns : goal.returns
returns c = walked_made _ _ _ _ _ _ _ _ (walked_five _ _ _ _ _ _ _ _ _ _ _ _ _ _ _ _ _ _ _ _ _ _ _ c.buf_of.ensures c.buf_of-2.ensures c.number.ensures c.datatype.ensures c.op.ensures c.five.ensures) c.made.ensures (λ a b p. search rules)
