use Rattle.std.proofs.Common.{Some}
use Rattle.std.specs.Str.{bytes_eq}
use Rattle.c_scope.proofs.Hiding.{set_where}
use Rattle.c_scope.proofs.innermost.Innermost.hide.Goals as goal

pub returns-clause-ok : goal.returns-clause-ok
returns-clause-ok c =
    rw (← c.self.view_is)
    (λ other. set_where (bytes_eq c.args.name.now other) (Some c.args.declaration) _ _ (c.in_ok-insert.ensures.updates.0 (record c.args.name { now = other })))
