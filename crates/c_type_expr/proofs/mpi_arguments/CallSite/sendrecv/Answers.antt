use Rattle.std.proofs.Common.{arith, refl}
use Rattle.c_names.specs.declared.function.MpiFunction.TheVariants as f
use Rattle.c_scope.proofs.Gives.{mapped_onto, walked_four}
use Rattle.c_type_expr.proofs.Rows.{made_of, miscounted, of_twelve}
use Rattle.c_type_expr.proofs.mpi_arguments.CallSite.sendrecv.Goals as goal

pub returns-in-len12 : goal.returns-in-len12
returns-in-len12 c =
    rw (of_twelve _ _ _ _ _ _ _ _ _ _ _ _ _ c.in-len12.len_at_least c.in-len12.len_below c.sendbuf-item.is c.sendcount-item.is c.sendtype-item.is c.dest-item.is c.sendtag-item.is c.recvbuf-item.is c.recvcount-item.is c.recvtype-item.is c.source-item.is c.recvtag-item.is c.comm-item.is c.status-item.is)
    (made_of _ _ _ _ _ _ _ _ (mapped_onto _ _ _ _ _ _
    (walked_four _ _ _ _ _ _ _ _ _ _ _ _ _ _ _ _ _ _ _ c.outgoing.ensures c.incoming.ensures c.comm.ensures c.status.ensures refl))
    c.call_from_four.ensures (λ a b p. cc))

pub returns-in_default : goal.returns-in_default
returns-in_default c = miscounted f.Sendrecv c.args.self.now c.args.given.now _ _ _ (λ h. grind arith) c.wrong_count.ensures
