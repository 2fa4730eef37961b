use Rattle.std.proofs.Common.{arith, refl}
use Rattle.c_names.specs.declared.function.MpiFunction.TheVariants as f
use Rattle.c_scope.proofs.Gives.{mapped_onto, walked_four}
use Rattle.c_type_expr.proofs.Rows.{made_of, miscounted, of_eight}
use Rattle.c_type_expr.proofs.mpi_arguments.CallSite.scatter.Goals as goal

pub returns-in-len8 : goal.returns-in-len8
returns-in-len8 c =
    rw (of_eight _ _ _ _ _ _ _ _ _ c.in-len8.len_at_least c.in-len8.len_below c.sendbuf-item.is c.sendcount-item.is c.sendtype-item.is c.recvbuf-item.is c.recvcount-item.is c.recvtype-item.is c.root-item.is c.comm-item.is)
    (made_of _ _ _ _ _ _ _ _ (mapped_onto _ _ _ _ _ _
    (walked_four _ _ _ _ _ _ _ _ _ _ _ _ _ _ _ _ _ _ _ c.buffer.ensures c.buffer-in-len8.ensures c.number.ensures c.comm.ensures refl))
    c.call_from_four.ensures (λ a b p. cc))

pub returns-in_default : goal.returns-in_default
returns-in_default c = miscounted f.Scatter c.args.self.now c.args.given.now _ _ _ (λ h. grind arith) c.wrong_count.ensures
