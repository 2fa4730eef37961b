use Rattle.std.proofs.Common.{arith, refl}
use Rattle.c_names.specs.declared.function.MpiFunction.TheVariants as f
use Rattle.c_scope.proofs.Gives.{mapped_onto, walked_five}
use Rattle.c_type_expr.proofs.Rows.{made_of, miscounted, of_five}
use Rattle.c_type_expr.proofs.mpi_arguments.CallSite.iprobe.Goals as goal

pub returns-in-len5 : goal.returns-in-len5
returns-in-len5 c =
    rw (of_five _ _ _ _ _ _ c.in-len5.len_at_least c.in-len5.len_below c.source-item.is c.tag-item.is c.comm-item.is c.flag-item.is c.status-item.is)
    (made_of _ _ _ _ _ _ _ _ (mapped_onto _ _ _ _ _ _
    (walked_five _ _ _ _ _ _ _ _ _ _ _ _ _ _ _ _ _ _ _ _ _ _ _ c.number.ensures c.number-in-len5.ensures c.comm.ensures c.ints.ensures c.status.ensures refl))
    c.call_from_five.ensures (λ a b p. cc))

pub returns-in_default : goal.returns-in_default
returns-in_default c = miscounted f.Iprobe c.args.self.now c.args.given.now _ _ _ (λ h. grind arith) c.wrong_count.ensures
