use Rattle.std.proofs.Common.{arith, refl}
use Rattle.c_names.specs.declared.function.MpiFunction.TheVariants as f
use Rattle.c_scope.proofs.Gives.{mapped_onto, walked_three}
use Rattle.c_type_expr.proofs.Rows.{made_of, miscounted, of_seven}
use Rattle.c_type_expr.proofs.mpi_arguments.CallSite.alltoall.Goals as goal

pub returns-in-len7 : goal.returns-in-len7
returns-in-len7 c =
    rw (of_seven _ _ _ _ _ _ _ _ c.in-len7.len_at_least c.in-len7.len_below c.sendbuf-item.is c.sendcount-item.is c.sendtype-item.is c.recvbuf-item.is c.recvcount-item.is c.recvtype-item.is c.comm-item.is)
    (made_of _ _ _ _ _ _ _ _ (mapped_onto _ _ _ _ _ _
    (walked_three _ _ _ _ _ _ _ _ _ _ _ _ _ _ _ c.buffer.ensures c.buffer-in-len7.ensures c.comm.ensures refl))
    c.call_from_three.ensures (λ a b p. cc))

pub returns-in_default : goal.returns-in_default
returns-in_default c = miscounted f.Alltoall c.args.self.now c.args.given.now _ _ _ (λ h. grind arith) c.wrong_count.ensures
