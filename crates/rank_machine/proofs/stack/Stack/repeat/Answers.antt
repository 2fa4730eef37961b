use Rattle.std.proofs.Common.{◌≡◌, ◌∙◌, ◌-◌, suc, Ok, true, sym, ap, refl, arith, option_copied, option_map}
use Rattle.c_program.specs.Meaning.{test}
use Rattle.c_program.specs.View.{pure_expr}
use Rattle.rank_machine.specs.Frames.{turns_at, within}
use Rattle.rank_machine.proofs.Stacks.{at-is, pushed-three, repeats}
use Rattle.rank_machine.proofs.stack.Stack.repeat.Goals as goal

pub returns-clause-stands : goal.returns-clause-stands
returns-clause-stands c =
    let enough : turns_at c.args.around.turns c.args.self.now.state ≡ suc (c.turns_at-turns.result - 1) = sym c.turns_at-turns.ensures ∙ omega arith in
    let is : test (option_map pure_expr (option_copied c.args.around.test)) c.args.self.now.state ≡ Ok true = sym c.test.ensures ∙ c.in_ok-test.was ∙ ap Ok c.if-not-branch.false in
    at-is _ c.args.code.now _ _ _ (pushed-three c.args.code.now _ _ _ _ _ _ _ c.in_ok-push.ensures.items c.in_ok-push-2.ensures.items c.in_ok-push-3.ensures.items)
    (repeats c.args.code.now c.args.around _ (within c.args.code.now c.args.self.now.frames.items) c.args.self.now.opens (c.turns_at-turns.result - 1) c.args.self.now.state c.take_step.new.state c.requires enough is refl c.in_ok-take_step.ensures.evaluated)
    c.requires
