use Rattle.std.proofs.Common.{arith, refl}
use Rattle.c_names.specs.declared.function.MpiFunction.TheVariants as f
use Rattle.c_scope.proofs.Gives.{mapped_onto, walked_two}
use Rattle.c_type_expr.proofs.Rows.{made_of, miscounted, of_two}
use Rattle.c_type_expr.proofs.mpi_arguments.CallSite.wait.Goals as goal

pub returns-in-len2 : goal.returns-in-len2
returns-in-len2 c =
    rw (of_two _ _ _ c.in-len2.len_at_least c.in-len2.len_below c.request-item.is c.status-item.is)
    (made_of _ _ _ _ _ _ _ _ (mapped_onto _ _ _ _ _ _
    (walked_two _ _ _ _ _ _ _ _ _ _ _ c.requests.ensures c.status.ensures refl))
    c.call_from_two.ensures (λ a b p. cc))

pub returns-in_default : goal.returns-in_default
returns-in_default c = miscounted f.Wait c.args.self.now c.args.given.now _ _ _ (λ h. grind arith) c.wrong_count.ensures
