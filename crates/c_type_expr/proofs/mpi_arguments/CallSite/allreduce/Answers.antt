use Rattle.std.proofs.Common.{arith, refl}
use Rattle.c_names.specs.declared.function.MpiFunction.TheVariants as f
use Rattle.c_scope.proofs.Gives.{mapped_onto, walked_two}
use Rattle.c_type_expr.proofs.Rows.{made_of, miscounted, of_six}
use Rattle.c_type_expr.proofs.mpi_arguments.CallSite.allreduce.Goals as goal

pub returns-in-len6 : goal.returns-in-len6
returns-in-len6 c =
    rw (of_six _ _ _ _ _ _ _ c.in-len6.len_at_least c.in-len6.len_below c.sendbuf-item.is c.recvbuf-item.is c.count-item.is c.datatype-item.is c.op-item.is c.comm-item.is)
    (made_of _ _ _ _ _ _ _ _ (mapped_onto _ _ _ _ _ _
    (walked_two _ _ _ _ _ _ _ _ _ _ _ c.reduction.ensures c.comm.ensures refl))
    c.call_from_two.ensures (λ a b p. cc))

pub returns-in_default : goal.returns-in_default
returns-in_default c = miscounted f.Allreduce c.args.self.now c.args.given.now _ _ _ (λ h. grind arith) c.wrong_count.ensures
