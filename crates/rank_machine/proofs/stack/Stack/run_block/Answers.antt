use Rattle.std.proofs.Common.{refl}
use Rattle.rank_machine.proofs.Stacks.{at-is, pushed-two}
use Rattle.rank_machine.proofs.stack.Stack.run_block.Goals as goal

pub returns-clause-stands : goal.returns-clause-stands
returns-clause-stands c =
    at-is _ c.args.code.now _ _ _ (pushed-two c.args.code.now _ _ _ _ _ c.in_ok-push.ensures.items c.in_ok-push-2.ensures.items) (rw (c.mark.ensures, ← c.requires) refl) c.requires
