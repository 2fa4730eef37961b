use Rattle.std.proofs.Common.{◌∙◌, Some, refl}
use Rattle.c_program.specs.Meaning.{act, loop, no_update, started, turn_exits}
use Rattle.c_program.specs.State.{State}
use Rattle.c_program.specs.View.{pure_expr, pure_stmt}
use Rattle.rank_machine.specs.Frames.{calls_in, within}
use Rattle.rank_machine.proofs.Stacks.{at-is, pushed-three}
use Rattle.rank_machine.proofs.stack.Stack.run_do.Goals as goal

pub returns-clause-stands : goal.returns-clause-stands
returns-clause-stands c =
    let k = (within c.args.code.now c.args.self.now.frames.items).exits in
    let body = started (act c.args.code.now.rank (calls_in c.args.code.now c.args.self.now.opens) (pure_stmt c.args.body.now)) in
    at-is _ c.args.code.now _ _ _ (pushed-three c.args.code.now _ _ _ _ _ _ _ c.in_ok-push.ensures.items c.in_ok-push-2.ensures.items c.in_ok-push-3.ensures.items)
    (c.in_ok-take_step.ensures.evaluated.at (λ (s : State). body s (turn_exits no_update (λ s. loop (Some (pure_expr c.args.test.now)) no_update body s k) k)) ∙ rw (← c.requires) refl) c.requires
