use Rattle.std.proofs.Common.{arith}
use Rattle.c_names.specs.declared.function.MpiFunction.TheVariants as f
use Rattle.c_scope.proofs.Gives.{mapped_onto}
use Rattle.c_type_expr.proofs.Rows.{made_of, miscounted, of_five}
use Rattle.c_type_expr.proofs.mpi_arguments.CallSite.waitsome.Goals as goal

pub returns-in-len5 : goal.returns-in-len5
returns-in-len5 c =
    rw (of_five _ _ _ _ _ _ c.in-len5.len_at_least c.in-len5.len_below c.incount-item.is c.requests-item.is c.outcount-item.is c.indices-item.is c.statuses-item.is)
    (made_of _ _ _ _ _ _ _ _ (mapped_onto _ _ _ _ _ _
    (mapped_onto _ _ _ _ _ _ c.several.ensures))
    c.call_from_one.ensures (λ a b p. cc))

pub returns-in_default : goal.returns-in_default
returns-in_default c = miscounted f.Waitsome c.args.self.now c.args.given.now _ _ _ (λ h. grind arith) c.wrong_count.ensures
