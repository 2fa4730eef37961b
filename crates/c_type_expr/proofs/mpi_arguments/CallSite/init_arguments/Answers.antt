use Rattle.std.proofs.Common.{sym, ◌∙◌, refl}
use Rattle.c_scope.proofs.Gives.{walked_two}
use Rattle.c_type_expr.proofs.Rows.{made_of}
use Rattle.c_type_expr.proofs.mpi_arguments.CallSite.init_arguments.Goals as goal

pub returns-then-is_null : goal.returns-then-is_null
returns-then-is_null c =
    rw (sym c.is_null.ensures ∙ c.if-is_null.true)
    (made_of _ _ _ _ _ _ _ _ (walked_two _ _ _ _ _ _ _ _ _ _ _ c.null.ensures c.null-then-is_null.ensures refl)
    c.call_from_two.ensures (λ a b p. cc))

pub returns : goal.returns
returns c =
    rw (sym c.is_null.ensures ∙ c.if-is_null.false)
    (made_of _ _ _ _ _ _ _ _ (walked_two _ _ _ _ _ _ _ _ _ _ _ c.argc.ensures c.argv.ensures refl)
    c.call_from_two-2.ensures (λ a b p. cc))
