use Rattle.std.proofs.Common.{arith, refl}
use Rattle.c_names.specs.declared.function.MpiFunction.TheVariants as f
use Rattle.c_scope.proofs.Gives.{mapped_onto, walked_four}
use Rattle.c_type_expr.proofs.Rows.{made_of, miscounted, of_four}
use Rattle.c_type_expr.proofs.mpi_arguments.CallSite.comm_split.Goals as goal

pub returns-in-len4 : goal.returns-in-len4
returns-in-len4 c =
    rw (of_four _ _ _ _ _ c.in-len4.len_at_least c.in-len4.len_below c.comm-item.is c.color-item.is c.key-item.is c.newcomm-item.is)
    (made_of _ _ _ _ _ _ _ _ (mapped_onto _ _ _ _ _ _
    (walked_four _ _ _ _ _ _ _ _ _ _ _ _ _ _ _ _ _ _ _ c.comm.ensures c.number.ensures c.number-in-len4.ensures c.newcomm.ensures refl))
    c.call_from_four.ensures (λ a b p. cc))

pub returns-in_default : goal.returns-in_default
returns-in_default c = miscounted f.CommSplit c.args.self.now c.args.given.now _ _ _ (λ h. grind arith) c.wrong_count.ensures
