use Rattle.std.proofs.Common.{arith, refl}
use Rattle.c_names.specs.declared.function.MpiFunction.TheVariants as f
use Rattle.c_scope.proofs.Gives.{mapped_onto, walked_three}
use Rattle.c_type_expr.proofs.Rows.{made_of, miscounted, of_three}
use Rattle.c_type_expr.proofs.mpi_arguments.CallSite.test.Goals as goal

pub returns-in-len3 : goal.returns-in-len3
returns-in-len3 c =
    rw (of_three _ _ _ _ c.in-len3.len_at_least c.in-len3.len_below c.request-item.is c.flag-item.is c.status-item.is)
    (made_of _ _ _ _ _ _ _ _ (mapped_onto _ _ _ _ _ _
    (walked_three _ _ _ _ _ _ _ _ _ _ _ _ _ _ _ c.requests.ensures c.ints.ensures c.status.ensures refl))
    c.call_from_three.ensures (λ a b p. cc))

pub returns-in_default : goal.returns-in_default
returns-in_default c = miscounted f.Test c.args.self.now c.args.given.now _ _ _ (λ h. grind arith) c.wrong_count.ensures
