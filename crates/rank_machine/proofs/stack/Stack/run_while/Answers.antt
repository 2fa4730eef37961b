use Rattle.std.proofs.Common.{refl}
use Rattle.rank_machine.proofs.Stacks.{at-is, pushed}
use Rattle.rank_machine.proofs.stack.Stack.run_while.Goals as goal

pub returns-clause-stands : goal.returns-clause-stands
returns-clause-stands c = at-is _ c.args.code.now _ _ _ (pushed c.args.code.now _ _ _ c.in_ok-push.ensures.items) (rw (← c.requires) refl) c.requires
