use Rattle.c_scope.proofs.Gives.{walked_five, walked_made}
use Rattle.c_type_expr.proofs.mpi_arguments.CallSite.several.Goals as goal

pub returns : goal.returns
returns c = walked_made _ _ _ _ _ _ _ _ (walked_five _ _ _ _ _ _ _ _ _ _ _ _ _ _ _ _ _ _ _ _ _ _ _ c.number.ensures c.requests.ensures c.ints.ensures c.ints-2.ensures c.statuses.ensures c.five.ensures) c.made.ensures (λ a b p. cc)
