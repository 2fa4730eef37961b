use Rattle.std.specs.Str.{bytes_eq}
use Rattle.c_scope.proofs.Hiding.{not_there, set_where, some_there}
use Rattle.c_scope.proofs.innermost.Innermost.put_back.Goals.{in-Some, in_default}
use Rattle.c_scope.proofs.innermost.Innermost.put_back.Goals as goal

pub returns : goal.returns
returns c =
    elim c.match-get_mut.branch [
      | in-Some w ↦ (
          let some = some_there _ w.in-Some.declaration.now w.in-Some.ensures.value in
          rw (w.self-inside-is, ← c.self.view_is)
          (λ other. set_where (bytes_eq c.args.name.now other) c.args.hidden _ _ (((c.get_mut.follows.holds c.args.hidden).3 some).0 (record c.args.name { now = other }))))
      | in_default w ↦ absurd (not_there _ w.in_default.ensures.value (rw (← c.self.view_is) at c.requires))
    ]
