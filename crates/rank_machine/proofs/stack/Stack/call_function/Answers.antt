use Rattle.std.proofs.Common.{◌≡◌, ◌∙◌, ◌++◌, ◌∷◌, [], ap, arith, refl}
use Rattle.std.proofs.lemmas.Result.{err_from_is_err_and}
use Rattle.c_program.specs.declared.state.StackMark.{StackMark}
use Rattle.c_program.specs.State.{stack_mark}
use Rattle.rank_machine.specs.declared.frame.ContinuationFrame.TheVariants.{Called}
use Rattle.rank_machine.specs.Frames.{given_to, within}
use Rattle.rank_machine.proofs.Stacks.{body_of, call-opens, entry, fails-from}
use Rattle.rank_machine.proofs.stack.Stack.call_function.Goals as goal

pub returns-in_err-enter-clause-stands : goal.returns-in_err-enter-clause-stands
returns-in_err-enter-clause-stands c =
    let p = err_from_is_err_and c.from_residual.result c.from_residual.ensures.1 in
    let go = given_to c.args.target (within c.args.code.now c.args.self.now.frames.items).exits in
    rw (p.1, p.2) (fails-from _ _ _ _
    (entry c.args.code.now c.args.self.now.opens c.args.number c.in-Some.function.now c.args.arguments.now c.args.self.now.state (omega arith) c.in-Some.ensures.some go)
    (c.in_err-enter.ensures (body_of c.args.code.now c.args.self.now.opens c.args.number c.in-Some.function.now c.args.arguments.now c.args.self.now.state (omega arith) c.in-Some.ensures.some go)))

pub returns-clause-stands : goal.returns-clause-stands
returns-clause-stands c =
    let called : c.push.new.self.items ≡ c.args.self.now.frames.items ++ Called (record { mark = stack_mark c.args.self.now.state; target = c.args.target }) ∷ [] =
    c.in_ok-push.ensures.items ∙ ap (λ (mark : StackMark). c.args.self.now.frames.items ++ Called (record { mark = mark; target = c.args.target }) ∷ []) c.mark-mark.ensures in
    call-opens c.args.code.now c.args.self.now.opens c.args.number c.in-Some.function.now c.args.arguments.now c.args.self.now.state (omega arith) c.in-Some.ensures.some
    c.args.self.now.frames.items c.push.new.self.items c.args.target c.deref.result _ c.in_ok-enter.ensures c.deref.ensures.value called c.in_ok-push-2.ensures.items c.requires refl
