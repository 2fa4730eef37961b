use Rattle.std.proofs.Common.{◌≡◌, ◌∙◌, map, refl}
use Rattle.std.proofs.lemmas.Result.{err_from_is_err_and}
use Rattle.c_program.specs.Meaning.{invoke, passed_all, trying}
use Rattle.c_program.specs.State.{State}
use Rattle.c_program.specs.View.{pure_argument, pure_call}
use Rattle.rank_machine.specs.Frames.{calls_in, given_to, within}
use Rattle.rank_machine.proofs.Stacks.{fails-from, stands-from}
use Rattle.rank_machine.proofs.stack.Stack.invoke.Goals as goal

pub returns-in_err-arguments-clause-stands : goal.returns-in_err-arguments-clause-stands
returns-in_err-arguments-clause-stands c =
    let p = err_from_is_err_and c.from_residual-in_err-arguments.result c.from_residual-in_err-arguments.ensures.1 in
    let go = given_to c.args.target (within c.args.code.now c.args.self.now.frames.items).exits in
    let calls = calls_in c.args.code.now c.args.self.now.opens in
    rw (p.1, p.2) (fails-from _ _ _ _
    (c.in_ok-take_step.ensures.evaluated.at (λ (s : State). trying (passed_all (map pure_argument c.args.call.now.arguments.items) s) s (λ arguments. calls c.args.call.now.function arguments s go)) ∙ rw c.deref.ensures.value refl)
    (c.in_err-arguments.ensures (λ arguments s. calls c.args.call.now.function arguments s go)))

pub returns-clause-stands : goal.returns-clause-stands
returns-clause-stands c =
    let go = given_to c.args.target (within c.args.code.now c.args.self.now.frames.items).exits in
    let calls = calls_in c.args.code.now c.args.self.now.opens in
    let took : invoke calls (pure_call c.args.call.now) c.args.self.now.state go ≡ trying (passed_all (map pure_argument c.args.call.now.arguments.items) c.take_step.new.state) c.take_step.new.state (λ arguments. calls c.args.call.now.function arguments c.take_step.new.state go) =
    c.in_ok-take_step.ensures.evaluated.at (λ (s : State). trying (passed_all (map pure_argument c.args.call.now.arguments.items) s) s (λ arguments. calls c.args.call.now.function arguments s go)) in
    let passed : trying (passed_all (map pure_argument c.args.call.now.arguments.items) c.take_step.new.state) c.take_step.new.state (λ arguments. calls c.args.call.now.function arguments c.take_step.new.state go) ≡ calls c.args.call.now.function c.in_ok-arguments.arguments.items c.take_step.new.state go =
    rw c.deref.ensures.value at (c.in_ok-arguments.ensures.at (λ arguments s. calls c.args.call.now.function arguments s go)) in
    stands-from _ _ _ _ _ (took ∙ passed) (rw c.deref-2.ensures.value at c.call_function.ensures.stands)
