use Rattle.c_scope.proofs.Gives.{walked_three, walked_made}
use Rattle.c_type_expr.proofs.mpi_arguments.CallSite.outgoing.Goals as goal

pub returns : goal.returns
returns c = walked_made _ _ _ _ _ _ _ _ (walked_three _ _ _ _ _ _ _ _ _ _ _ _ _ _ _ c.buffer.ensures c.number.ensures c.number-2.ensures c.three.ensures) c.made.ensures (λ a b p. cc)
