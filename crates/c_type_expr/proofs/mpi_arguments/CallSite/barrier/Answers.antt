use Rattle.std.proofs.Common.{arith}
use Rattle.c_names.specs.declared.function.MpiFunction.TheVariants as f
use Rattle.c_scope.proofs.Gives.{mapped_onto}
use Rattle.c_type_expr.proofs.Rows.{made_of, miscounted, of_one}
use Rattle.c_type_expr.proofs.mpi_arguments.CallSite.barrier.Goals as goal

pub returns-in-len1 : goal.returns-in-len1
returns-in-len1 c =
    rw (of_one _ _ c.in-len1.len_at_least c.in-len1.len_below c.comm-item.is)
    (made_of _ _ _ _ _ _ _ _ (mapped_onto _ _ _ _ _ _
    (mapped_onto _ _ _ _ _ _ c.comm.ensures))
    c.call_from_one.ensures (λ a b p. cc))

pub returns-in_default : goal.returns-in_default
returns-in_default c = miscounted f.Barrier c.args.self.now c.args.given.now _ _ _ (λ h. grind arith) c.wrong_count.ensures
