use Rattle.std.proofs.Common.{◌≡◌, ◌∙◌, ℤ, ◌+◌, ◌*◌, ◌-◌, ◌<◌, ◌≤◌, true, false, Some, None, Ok, Err, refl, sym, ap, arith, rules, drop, map, option_copied, option_map, w32, FitsSigned}
use Rattle.std.proofs.lemmas.Int.{to_z-of_z}
use denote.Param.Weighed.{most}
use Rattle.c_program.specs.declared.statement.TypedPart.{size-TypedPart}
use Rattle.std.proofs.lemmas.Result.{err_from_is_err_and}
use Rattle.c_program.specs.Courses.{after_replies}
use Rattle.c_program.specs.Meaning.{act, act_parts, act_part, begin, call_at, declare_all, exits_to, for_start, for_update, invoke, leaving, loop, loop_after, no_update, passed_all, return, right, simple, started, test, trying, turn_exits}
use Rattle.c_program.specs.Performing.{Onward}
use Rattle.c_program.specs.State.{State, leave, stack_mark, put}
use Rattle.c_program.specs.Values.{cell_of_place}
use Rattle.c_program.specs.View.{pure_argument, pure_call, pure_expr, pure_function, pure_initial, pure_item, pure_part, pure_parts, pure_place, pure_right, pure_simple, pure_start, pure_stmt}
use Rattle.c_program.proofs.StmtViewed.{pure-block, pure-declare, pure-do_while, pure-for, pure-if_else, pure-if_only, pure-return, pure-simple, pure-stmt, pure-while}
use Rattle.c_eval.specs.inside.Leaving.{exit}
use Rattle.c_eval.specs.inside.Parts.{blocked, calls_of, for_block}
use Rattle.c_run_cells.specs.Parts.{assigned}
use Rattle.c_eval.specs.inside.Statements.{assigns, branch, else_meaning}
use Rattle.c_eval.proofs.Depths.{deepest, deepest-at, fewer-calls, weight}
use Rattle.c_eval.proofs.Evaluations.{fails-stops, from, lifted, stops-from}
use Rattle.c_eval.specs.declared.flow.Flow.TheVariants.{Next, Broke, Back}
use Rattle.c_run_cells.proofs.PartLaws.{entering}
use Rattle.c_eval.proofs.Exits.{block-closes, call-closes, exit-other}
use Rattle.c_run_cells.proofs.Lists.{at, behind_all}
use Rattle.c_eval.proofs.Loops.{turn-goes_on, turn-leaves, turn-stops, turning-ends, turning-fails, turning-leaves, turning-on, turning-stops, update-stops}
use Rattle.c_eval.proofs.evaluate.+statements.Goals as goal

pub act-returns-in_err-run_simple-in-Simple : goal.act-returns-in_err-run_simple-in-Simple
act-returns-in_err-run_simple-in-Simple t c =
    let p = err_from_is_err_and c.from_residual.result c.from_residual.ensures.1 in
    rw (p.1, p.2) (λ k. stops-from _ _ _ _ _ (rw (c.in-Simple.is, pure-simple) refl) (c.in_err-run_simple-in-Simple.ensures k.next))

pub act-returns-in-Return : goal.act-returns-in-Return
act-returns-in-Return t c =
    from exit (act c.args.calls.now.rank (calls_of c.args.calls.now) (pure_stmt c.args.stmt.now)) (return (calls_of c.args.calls.now) (option_map pure_right c.in-Return.value)) c.args.state.now c.args.state.now c.run_return.new.state c.args.replies.now c.args.replies.now c.run_return.new.replies c.run_return.result
    (λ k. rw (c.in-Return.is, pure-return) refl) (omega arith) (c.run_return.ensures)

pub run_return-returns-in_err-given-in-Some : goal.run_return-returns-in_err-given-in-Some
run_return-returns-in_err-given-in-Some t c =
    let p = err_from_is_err_and c.from_residual.result c.from_residual.ensures.1 in
    rw (p.1, p.2) (λ k. stops-from _ _ _ _ _ (rw c.in-Some.is refl) (c.in_err-given-in-Some.ensures (λ v s. k.back v s)))

pub act-returns-in-Block : goal.act-returns-in-Block
act-returns-in-Block t c =
    from exit (act c.args.calls.now.rank (calls_of c.args.calls.now) (pure_stmt c.args.stmt.now)) (blocked (act_parts c.args.calls.now.rank (calls_of c.args.calls.now) (pure_parts c.deref.result.now))) c.args.state.now c.args.state.now c.run_block.new.state c.args.replies.now c.args.replies.now c.run_block.new.replies c.run_block.result
    (λ k. rw (c.in-Block.is, pure-block, c.deref.ensures.value) refl) (omega arith) (c.run_block.ensures)

pub act-returns-in-If : goal.act-returns-in-If
act-returns-in-If t c =
    from exit (act c.args.calls.now.rank (calls_of c.args.calls.now) (pure_stmt c.args.stmt.now)) (branch (pure_expr c.in-If.test) (started (act c.args.calls.now.rank (calls_of c.args.calls.now) (pure_stmt c.deref-in-If.result.now))) (else_meaning c.args.calls.now.rank (calls_of c.args.calls.now) None)) c.args.state.now c.args.state.now c.run_if.new.state c.args.replies.now c.args.replies.now c.run_if.new.replies c.run_if.result
    (λ k. rw (c.in-If.is, pure-if_only, c.deref-in-If.ensures) refl) (omega arith) (c.run_if.ensures)

pub act-returns-in-IfElse : goal.act-returns-in-IfElse
act-returns-in-IfElse t c =
    from exit (act c.args.calls.now.rank (calls_of c.args.calls.now) (pure_stmt c.args.stmt.now)) (branch (pure_expr c.in-IfElse.test) (started (act c.args.calls.now.rank (calls_of c.args.calls.now) (pure_stmt c.deref-in-IfElse.result.now))) (else_meaning c.args.calls.now.rank (calls_of c.args.calls.now) (Some (pure_stmt c.deref-in-IfElse-2.result.now)))) c.args.state.now c.args.state.now c.run_if-in-IfElse.new.state c.args.replies.now c.args.replies.now c.run_if-in-IfElse.new.replies c.run_if-in-IfElse.result
    (λ k. rw (c.in-IfElse.is, pure-if_else, c.deref-in-IfElse.ensures, c.deref-in-IfElse-2.ensures) refl) (omega arith) (c.run_if-in-IfElse.ensures)

pub run_if-returns-then-branch : goal.run_if-returns-then-branch
run_if-returns-then-branch t c =
    let is : test (Some (pure_expr c.args.test.now)) c.args.state.now ≡ Ok true = sym c.test.ensures ∙ c.in_ok-test.was ∙ ap Ok c.if-branch.true in
    from exit (branch (pure_expr c.args.test.now) (started (act c.args.calls.now.rank (calls_of c.args.calls.now) (pure_stmt c.args.then.now))) (else_meaning c.args.calls.now.rank (calls_of c.args.calls.now) (option_map pure_stmt (option_copied c.args.other)))) (started (act c.args.calls.now.rank (calls_of c.args.calls.now) (pure_stmt c.args.then.now))) c.args.state.now c.args.state.now c.run.new.state c.args.replies.now c.args.replies.now c.run.new.replies c.run.result
    (λ k. rw is refl) (omega arith) (c.run.ensures)

pub run_if-returns-in-Some : goal.run_if-returns-in-Some
run_if-returns-in-Some t c =
    let is : test (Some (pure_expr c.args.test.now)) c.args.state.now ≡ Ok false = sym c.test.ensures ∙ c.in_ok-test.was ∙ ap Ok c.if-branch.false in
    from exit (branch (pure_expr c.args.test.now) (started (act c.args.calls.now.rank (calls_of c.args.calls.now) (pure_stmt c.args.then.now))) (else_meaning c.args.calls.now.rank (calls_of c.args.calls.now) (option_map pure_stmt (option_copied c.args.other)))) (started (act c.args.calls.now.rank (calls_of c.args.calls.now) (pure_stmt c.in-Some.stmt.now))) c.args.state.now c.args.state.now c.run-in-Some.new.state c.args.replies.now c.args.replies.now c.run-in-Some.new.replies c.run-in-Some.result
    (λ k. rw (is, c.in-Some.is) refl) (omega arith) (c.run-in-Some.ensures)

pub act-returns-in-While : goal.act-returns-in-While
act-returns-in-While t c =
    from exit (act c.args.calls.now.rank (calls_of c.args.calls.now) (pure_stmt c.args.stmt.now)) (loop (Some (pure_expr c.in-While.test)) (for_update c.args.calls.now.rank (calls_of c.args.calls.now) None) (started (act c.args.calls.now.rank (calls_of c.args.calls.now) (pure_stmt c.deref-in-While.result.now)))) c.args.state.now c.args.state.now c.repeat.new.state c.args.replies.now c.args.replies.now c.repeat.new.replies c.repeat.result
    (λ k. rw (c.in-While.is, pure-while, c.deref-in-While.ensures) refl) (omega arith) (c.repeat.ensures)

pub act-returns-in-Do : goal.act-returns-in-Do
act-returns-in-Do t c =
    from exit (act c.args.calls.now.rank (calls_of c.args.calls.now) (pure_stmt c.args.stmt.now)) (loop_after (pure_expr c.in-Do.test) (started (act c.args.calls.now.rank (calls_of c.args.calls.now) (pure_stmt c.deref-in-Do.result.now)))) c.args.state.now c.args.state.now c.repeat_after.new.state c.args.replies.now c.args.replies.now c.repeat_after.new.replies c.repeat_after.result
    (λ k. rw (c.in-Do.is, pure-do_while, c.deref-in-Do.ensures) refl) (omega arith) (c.repeat_after.ensures)

pub act-returns-in-For : goal.act-returns-in-For
act-returns-in-For t c =
    from exit (act c.args.calls.now.rank (calls_of c.args.calls.now) (pure_stmt c.args.stmt.now)) (for_block c.args.calls.now.rank (calls_of c.args.calls.now) (pure_start c.in-For.start) (option_map pure_expr (option_copied c.as_ref.result)) (option_map pure_simple (option_copied c.as_ref-in-For.result)) (started (act c.args.calls.now.rank (calls_of c.args.calls.now) (pure_stmt c.deref-in-For.result.now)))) c.args.state.now c.args.state.now c.run_for.new.state c.args.replies.now c.args.replies.now c.run_for.new.replies c.run_for.result
    (λ k. rw (c.in-For.is, pure-for, c.deref-in-For.ensures, c.as_ref.ensures.value, c.as_ref-in-For.ensures.value) refl) (omega arith) (c.run_for.ensures)

pub call_function-returns-in_err-enter : goal.call_function-returns-in_err-enter
call_function-returns-in_err-enter t c =
    let p = err_from_is_err_and c.from_residual.result c.from_residual.ensures.1 in
    rw (p.1, p.2) (λ k. stops-from _ _ _ _ _ (ap (λ x. after_replies x c.args.replies.now) (entering c.args.calls.now.rank c.args.calls.now.functions.now c.args.calls.now.depth c.args.number c.in-Some.function.now c.args.arguments.now c.args.state.now k (omega arith) c.in-Some.ensures.some)) (fails-stops _ _ _ c.args.replies.now (c.in_err-enter.ensures (λ s. act_parts c.args.calls.now.rank (call_at c.args.calls.now.rank (map pure_function c.args.calls.now.functions.now) (c.args.calls.now.depth - 1)) (pure_parts c.in-Some.function.now.body.items) s (exits_to (stack_mark c.args.state.now) k)))))

pub call_function-run_list-requires : goal.call_function-run_list-requires
call_function-run_list-requires t c =
    let deep : most size-TypedPart c.in-Some.function.now.body.items ≤ deepest c.args.calls.now.functions.now = deepest-at _ _ _ c.in-Some.ensures.some in
    let same : most size-TypedPart c.deref.result.now ≡ most size-TypedPart c.in-Some.function.now.body.items = ap (most size-TypedPart) c.deref.ensures.value in
    let falls : (c.args.calls.now.depth - 1) * weight c.args.calls.now.functions.now + (16 * most size-TypedPart c.in-Some.function.now.body.items + 32) < c.args.calls.now.depth * weight c.args.calls.now.functions.now = fewer-calls c.args.calls.now.depth (weight c.args.calls.now.functions.now) (16 * most size-TypedPart c.in-Some.function.now.body.items + 32) (omega arith) (omega arith) in
    (omega (arith, same, falls, c.decreases), search rules)

pub call_function-returns-in_err-flow : goal.call_function-returns-in_err-flow
call_function-returns-in_err-flow t c =
    let p = err_from_is_err_and c.from_residual-in_err-flow.result c.from_residual-in_err-flow.ensures.1 in
    rw (p.1, p.2) (λ k. stops-from _ _ _ _ _ (ap (λ x. after_replies x c.args.replies.now) (entering c.args.calls.now.rank c.args.calls.now.functions.now c.args.calls.now.depth c.args.number c.in-Some.function.now c.args.arguments.now c.args.state.now k (omega arith) c.in-Some.ensures.some) ∙ (lifted c.in_ok-enter.ensures c.args.replies.now).at (λ s. act_parts c.args.calls.now.rank (call_at c.args.calls.now.rank (map pure_function c.args.calls.now.functions.now) (c.args.calls.now.depth - 1)) (pure_parts c.in-Some.function.now.body.items) s (exits_to (stack_mark c.args.state.now) k)) ∙ rw c.deref.ensures.value refl) (c.in_err-flow.ensures (exits_to (stack_mark c.args.state.now) k)))

pub call_function-returns : goal.call_function-returns
call_function-returns t c =
    let is : c.leave.new.self ≡ leave (stack_mark c.args.state.now) c.run_list.new.state = cc in
    let fits : FitsSigned w32 c.value_in.result = search rules in
    rw (to_z-of_z w32 c.value_in.result fits, c.value_in.ensures) (call-closes ((calls_of c.args.calls.now) c.args.number c.args.arguments.now) (act_parts c.args.calls.now.rank (call_at c.args.calls.now.rank (map pure_function c.args.calls.now.functions.now) (c.args.calls.now.depth - 1)) (pure_parts c.deref.result.now)) (stack_mark c.args.state.now) c.in_ok-flow.flow c.args.state.now c.enter.new.state c.run_list.new.state c.leave.new.self c.args.replies.now c.args.replies.now c.run_list.new.replies
    (λ k. ap (λ x. after_replies x c.args.replies.now) (entering c.args.calls.now.rank c.args.calls.now.functions.now c.args.calls.now.depth c.args.number c.in-Some.function.now c.args.arguments.now c.args.state.now k (omega arith) c.in-Some.ensures.some) ∙ (lifted c.in_ok-enter.ensures c.args.replies.now).at (λ s. act_parts c.args.calls.now.rank (call_at c.args.calls.now.rank (map pure_function c.args.calls.now.functions.now) (c.args.calls.now.depth - 1)) (pure_parts c.in-Some.function.now.body.items) s (exits_to (stack_mark c.args.state.now) k)) ∙ rw c.deref.ensures.value refl) ((lifted c.in_ok-enter.ensures c.args.replies.now).left) (c.in_ok-flow.ensures) is)

pub declare-returns-in_err-cell : goal.declare-returns-in_err-cell
declare-returns-in_err-cell t c =
    let p = err_from_is_err_and c.from_residual.result c.from_residual.ensures.1 in
    rw (p.1, p.2) (λ k. fails-stops _ _ _ c.args.replies.now (c.in_err-cell.ensures (λ cell s. begin (calls_of c.args.calls.now) (pure_initial c.args.item.now.initial) cell s k)))

pub declare-returns-in-Nothing : goal.declare-returns-in-Nothing
declare-returns-in-Nothing t c = record { at = λ k. (lifted c.in_ok-cell.ensures c.args.replies.now).at (λ cell s. begin (calls_of c.args.calls.now) (pure_initial c.args.item.now.initial) cell s k) ∙ rw c.in-Nothing.is refl; left = (lifted c.in_ok-cell.ensures c.args.replies.now).left }

pub declare-returns-in_err-value-in-Right : goal.declare-returns-in_err-value-in-Right
declare-returns-in_err-value-in-Right t c =
    let p = err_from_is_err_and c.from_residual-in_err-value-in-Right.result c.from_residual-in_err-value-in-Right.ensures.1 in
    rw (p.1, p.2) (λ k. stops-from _ _ _ _ _ ((lifted c.in_ok-cell.ensures c.args.replies.now).at (λ cell s. begin (calls_of c.args.calls.now) (pure_initial c.args.item.now.initial) cell s k) ∙ rw c.in-Right.is refl) (c.in_err-value-in-Right.ensures (λ v s. k (put c.in_ok-cell.cell v s))))

pub declare-returns-in_ok-value-in-Right : goal.declare-returns-in_ok-value-in-Right
declare-returns-in_ok-value-in-Right t c =
    let added : c.add.new.state.left ≤ c.args.state.now.left = (lifted c.in_ok-cell.ensures c.args.replies.now).left in
    let valued : c.value_of.new.state.left ≤ c.add.new.state.left = c.in_ok-value-in-Right.ensures.left in
    let fits : FitsSigned w32 c.in_ok-value-in-Right.value = search rules in
    let is : c.put.new.self ≡ put c.in_ok-cell.cell c.in_ok-value-in-Right.value c.value_of.new.state = c.put.ensures ∙ ap (λ v. put c.in_ok-cell.cell v c.value_of.new.state) (to_z-of_z w32 c.in_ok-value-in-Right.value fits) in
    let same : c.put.new.self.left ≡ c.value_of.new.state.left = ap (λ (u : State). u.left) is in
    record {
      at = λ k. (lifted c.in_ok-cell.ensures c.args.replies.now).at (λ cell s. begin (calls_of c.args.calls.now) (pure_initial c.args.item.now.initial) cell s k) ∙ rw c.in-Right.is (c.in_ok-value-in-Right.ensures.at (λ v s. k (put c.in_ok-cell.cell v s))) ∙ ap (λ u. after_replies (k u) c.value_of.new.replies) (sym is);
      left = omega arith;
    }

pub declare-returns-in_err-put_values_of-in-Values : goal.declare-returns-in_err-put_values_of-in-Values
declare-returns-in_err-put_values_of-in-Values t c =
    let p = err_from_is_err_and c.from_residual-in_err-put_values_of-in-Values.result c.from_residual-in_err-put_values_of-in-Values.ensures.1 in
    rw (p.1, p.2) (λ k. stops-from _ _ _ _ _ ((lifted c.in_ok-cell.ensures c.args.replies.now).at (λ cell s. begin (calls_of c.args.calls.now) (pure_initial c.args.item.now.initial) cell s k) ∙ rw (c.in-Values.is, ← c.deref.ensures.value) refl) (fails-stops _ _ _ c.args.replies.now (c.in_err-put_values_of-in-Values.ensures k)))

pub declare-returns-in_ok-put_values_of-in-Values : goal.declare-returns-in_ok-put_values_of-in-Values
declare-returns-in_ok-put_values_of-in-Values t c =
    let added : c.add.new.state.left ≤ c.args.state.now.left = c.in_ok-cell.ensures.left in
    let put : c.put_values_of.new.state.left ≤ c.add.new.state.left = c.in_ok-put_values_of-in-Values.ensures.left in
    record {
      at = λ k. (lifted c.in_ok-cell.ensures c.args.replies.now).at (λ cell s. begin (calls_of c.args.calls.now) (pure_initial c.args.item.now.initial) cell s k) ∙ rw (c.in-Values.is, ← c.deref.ensures.value) ((lifted c.in_ok-put_values_of-in-Values.ensures c.args.replies.now).at k);
      left = omega arith;
    }

pub declare_all-returns-in_err-declare : goal.declare_all-returns-in_err-declare
declare_all-returns-in_err-declare t c =
    let p = err_from_is_err_and c.from_residual.result c.from_residual.ensures.1 in
    rw (p.1, p.2) (λ k. stops-from _ _ _ _ _ (c.loop-item.invariant.comes k ∙ rw (at c.args.items.now c.loop-item.item-index c.item-item.result c.loop-item-test.true c.item-item.is) refl) (c.in_err-declare.ensures (λ s. declare_all (calls_of c.args.calls.now) (map pure_item (drop (c.loop-item.item-index + 1) c.args.items.now)) s k)))

pub declare_all-loop-item-preserved : goal.declare_all-loop-item-preserved
declare_all-loop-item-preserved t c =
    let few : c.loop-item.state.left ≤ c.args.state.now.left = c.loop-item.invariant.left in
    let fewer : c.declare.new.state.left ≤ c.loop-item.state.left = c.in_ok-declare.ensures.left in
    record {
      comes = λ k. c.loop-item.invariant.comes k ∙ rw (at c.args.items.now c.loop-item.item-index c.item-item.result c.loop-item-test.true c.item-item.is) refl ∙ c.in_ok-declare.ensures.at (λ s. declare_all (calls_of c.args.calls.now) (map pure_item (drop (c.loop-item.item-index + 1) c.args.items.now)) s k);
      left = omega arith;
    }

pub declare_all-returns : goal.declare_all-returns
declare_all-returns t c = record { at = λ k. c.loop-item.invariant.comes k ∙ rw (behind_all c.args.items.now c.loop-item.item-index c.loop-item-test.false) refl; left = c.loop-item.invariant.left }

pub invoke-returns-in_err-arguments : goal.invoke-returns-in_err-arguments
invoke-returns-in_err-arguments t c =
    let p = err_from_is_err_and c.from_residual-in_err-arguments.result c.from_residual-in_err-arguments.ensures.1 in
    rw (p.1, p.2) (λ k. stops-from _ _ _ _ _ (rw c.deref.ensures.value ((lifted c.in_ok-take_step.ensures.evaluated c.args.replies.now).at (λ s. trying (passed_all (map pure_argument c.args.call.now.arguments.items) s) s (λ arguments. (calls_of c.args.calls.now) c.args.call.now.function arguments s k)))) (fails-stops _ _ _ c.args.replies.now (c.in_err-arguments.ensures (λ arguments s. (calls_of c.args.calls.now) c.args.call.now.function arguments s k))))

pub invoke-returns : goal.invoke-returns
invoke-returns t c =
    from {K = ℤ → Onward} {A = ℤ} (λ go v. go v) (invoke (calls_of c.args.calls.now) (pure_call c.args.call.now)) ((calls_of c.args.calls.now) c.args.call.now.function c.deref-2.result.now) c.args.state.now c.take_step.new.state c.call_function.new.state c.args.replies.now c.args.replies.now c.call_function.new.replies c.call_function.result
    (λ k. (lifted c.in_ok-take_step.ensures.evaluated c.args.replies.now).at (λ s. trying (passed_all (map pure_argument c.args.call.now.arguments.items) s) s (λ arguments. (calls_of c.args.calls.now) c.args.call.now.function arguments s k)) ∙ rw (← c.deref.ensures.value, c.deref-2.ensures.value) ((lifted c.in_ok-arguments.ensures c.args.replies.now).at (λ arguments s. (calls_of c.args.calls.now) c.args.call.now.function arguments s k))) ((lifted c.in_ok-take_step.ensures.evaluated c.args.replies.now).left) (c.call_function.ensures)

pub repeat-returns-in_err-test : goal.repeat-returns-in_err-test
repeat-returns-in_err-test t c =
    let p = err_from_is_err_and c.from_residual.result c.from_residual.ensures.1 in
    let is : test (option_map pure_expr (option_copied c.args.test)) c.loop-update.state ≡ Err c.in_err-test.field-0.0 = sym c.test.ensures ∙ c.in_err-test.was in
    rw (p.1, p.2) (turning-fails (option_map pure_expr (option_copied c.args.test)) (for_update c.args.calls.now.rank (calls_of c.args.calls.now) (option_map pure_simple (option_copied c.args.update))) (started (act c.args.calls.now.rank (calls_of c.args.calls.now) (pure_stmt c.args.body.now))) c.args.state.now c.loop-update.state c.args.replies.now c.loop-update.replies c.loop-update.invariant c.in_err-test.field-0.0 is)

pub repeat-returns-then-not-branch : goal.repeat-returns-then-not-branch
repeat-returns-then-not-branch t c =
    let is : test (option_map pure_expr (option_copied c.args.test)) c.loop-update.state ≡ Ok false = sym c.test.ensures ∙ c.in_ok-test.was ∙ ap Ok c.if-not-branch.true in
    turning-ends (option_map pure_expr (option_copied c.args.test)) (for_update c.args.calls.now.rank (calls_of c.args.calls.now) (option_map pure_simple (option_copied c.args.update))) (started (act c.args.calls.now.rank (calls_of c.args.calls.now) (pure_stmt c.args.body.now))) c.args.state.now c.loop-update.state c.args.replies.now c.loop-update.replies c.loop-update.invariant is

pub repeat-returns-in_err-flow : goal.repeat-returns-in_err-flow
repeat-returns-in_err-flow t c =
    let p = err_from_is_err_and c.from_residual-in_err-flow.result c.from_residual-in_err-flow.ensures.1 in
    let is : test (option_map pure_expr (option_copied c.args.test)) c.loop-update.state ≡ Ok true = sym c.test.ensures ∙ c.in_ok-test.was ∙ ap Ok c.if-not-branch.false in
    rw (p.1, p.2) (turning-stops (option_map pure_expr (option_copied c.args.test)) (for_update c.args.calls.now.rank (calls_of c.args.calls.now) (option_map pure_simple (option_copied c.args.update))) (started (act c.args.calls.now.rank (calls_of c.args.calls.now) (pure_stmt c.args.body.now))) c.args.state.now c.loop-update.state c.args.replies.now c.loop-update.replies c.loop-update.invariant c.take_turn.new.state c.take_turn.new.replies is _ c.in_err-flow.ensures.evaluated)

pub repeat-returns-in-Some : goal.repeat-returns-in-Some
repeat-returns-in-Some t c =
    let is : test (option_map pure_expr (option_copied c.args.test)) c.loop-update.state ≡ Ok true = sym c.test.ensures ∙ c.in_ok-test.was ∙ ap Ok c.if-not-branch.false in
    turning-leaves (option_map pure_expr (option_copied c.args.test)) (for_update c.args.calls.now.rank (calls_of c.args.calls.now) (option_map pure_simple (option_copied c.args.update))) (started (act c.args.calls.now.rank (calls_of c.args.calls.now) (pure_stmt c.args.body.now))) c.args.state.now c.loop-update.state c.args.replies.now c.loop-update.replies c.loop-update.invariant c.take_turn.new.state c.take_turn.new.replies is c.in-Some.flow (rw c.in-Some.is at c.in_ok-flow.ensures.evaluated)

pub repeat-loop-update-preserved : goal.repeat-loop-update-preserved
repeat-loop-update-preserved t c =
    let is : test (option_map pure_expr (option_copied c.args.test)) c.loop-update.state ≡ Ok true = sym c.test.ensures ∙ c.in_ok-test.was ∙ ap Ok c.if-not-branch.false in
    turning-on (option_map pure_expr (option_copied c.args.test)) (for_update c.args.calls.now.rank (calls_of c.args.calls.now) (option_map pure_simple (option_copied c.args.update))) (started (act c.args.calls.now.rank (calls_of c.args.calls.now) (pure_stmt c.args.body.now))) c.args.state.now c.loop-update.state c.args.replies.now c.loop-update.replies c.loop-update.invariant c.take_turn.new.state c.take_turn.new.replies is c.in_ok-flow.ensures.fewer (rw c.in-None.is at c.in_ok-flow.ensures.evaluated)

pub repeat_after-returns-in_err-flow : goal.repeat_after-returns-in_err-flow
repeat_after-returns-in_err-flow t c =
    let p = err_from_is_err_and c.from_residual.result c.from_residual.ensures.1 in
    rw (p.1, p.2) (λ k. c.in_err-flow.ensures.evaluated (record { on = λ s. loop (Some (pure_expr c.args.test.now)) no_update (started (act c.args.calls.now.rank (calls_of c.args.calls.now) (pure_stmt c.args.body.now))) s k; out = k }))

pub repeat_after-returns-in-Some : goal.repeat_after-returns-in-Some
repeat_after-returns-in-Some t c =
    let h = rw c.in-Some.is at c.in_ok-flow.ensures.evaluated in
    record { at = λ k. h.at (record { on = λ s. loop (Some (pure_expr c.args.test.now)) no_update (started (act c.args.calls.now.rank (calls_of c.args.calls.now) (pure_stmt c.args.body.now))) s k; out = k }); left = h.left }

pub repeat_after-returns-in-None : goal.repeat_after-returns-in-None
repeat_after-returns-in-None t c =
    let h = rw c.in-None.is at c.in_ok-flow.ensures.evaluated in
    from exit (loop_after (pure_expr c.args.test.now) (started (act c.args.calls.now.rank (calls_of c.args.calls.now) (pure_stmt c.args.body.now)))) (loop (Some (pure_expr c.args.test.now)) no_update (started (act c.args.calls.now.rank (calls_of c.args.calls.now) (pure_stmt c.args.body.now)))) c.args.state.now c.take_turn.new.state c.repeat.new.state c.args.replies.now c.take_turn.new.replies c.repeat.new.replies c.repeat.result
    (λ k. h.at (record { on = λ s. loop (Some (pure_expr c.args.test.now)) no_update (started (act c.args.calls.now.rank (calls_of c.args.calls.now) (pure_stmt c.args.body.now))) s k; out = k })) (h.left) (c.repeat.ensures)

pub run-returns : goal.run-returns
run-returns t c =
    from exit (started (act c.args.calls.now.rank (calls_of c.args.calls.now) (pure_stmt c.args.stmt.now))) (act c.args.calls.now.rank (calls_of c.args.calls.now) (pure_stmt c.args.stmt.now)) c.args.state.now c.take_step.new.state c.act.new.state c.args.replies.now c.args.replies.now c.act.new.replies c.act.result
    (λ k. (lifted c.in_ok-take_step.ensures.evaluated c.args.replies.now).at (λ s. act c.args.calls.now.rank (calls_of c.args.calls.now) (pure_stmt c.args.stmt.now) s k)) ((lifted c.in_ok-take_step.ensures.evaluated c.args.replies.now).left) (c.act.ensures)

pub run_block-returns-in_err-flow : goal.run_block-returns-in_err-flow
run_block-returns-in_err-flow t c =
    let p = err_from_is_err_and c.from_residual.result c.from_residual.ensures.1 in
    rw (p.1, p.2) (λ k. c.in_err-flow.ensures (leaving (stack_mark c.args.state.now) k))

pub run_block-returns : goal.run_block-returns
run_block-returns t c =
    let is : c.leave.new.self ≡ leave (stack_mark c.args.state.now) c.run_list.new.state = cc in
    block-closes (blocked (act_parts c.args.calls.now.rank (calls_of c.args.calls.now) (pure_parts c.args.parts.now))) (act_parts c.args.calls.now.rank (calls_of c.args.calls.now) (pure_parts c.args.parts.now)) (stack_mark c.args.state.now) c.in_ok-flow.flow c.args.state.now c.args.state.now c.run_list.new.state c.leave.new.self c.args.replies.now c.args.replies.now c.run_list.new.replies
    (λ k. refl) (omega arith) (c.in_ok-flow.ensures) is

pub run_for-returns-in_err-start_for : goal.run_for-returns-in_err-start_for
run_for-returns-in_err-start_for t c =
    let p = err_from_is_err_and c.from_residual.result c.from_residual.ensures.1 in
    rw (p.1, p.2) (λ k. c.in_err-start_for.ensures (λ s. loop (option_map pure_expr (option_copied c.args.test)) (for_update c.args.calls.now.rank (calls_of c.args.calls.now) (option_map pure_simple (option_copied c.args.update))) (started (act c.args.calls.now.rank (calls_of c.args.calls.now) (pure_stmt c.args.body.now))) s (leaving (stack_mark c.args.state.now) k)))

pub run_for-returns-in_err-flow : goal.run_for-returns-in_err-flow
run_for-returns-in_err-flow t c =
    let p = err_from_is_err_and c.from_residual-in_err-flow.result c.from_residual-in_err-flow.ensures.1 in
    rw (p.1, p.2) (λ k. stops-from _ _ _ _ _ (c.in_ok-start_for.ensures.at (λ s. loop (option_map pure_expr (option_copied c.args.test)) (for_update c.args.calls.now.rank (calls_of c.args.calls.now) (option_map pure_simple (option_copied c.args.update))) (started (act c.args.calls.now.rank (calls_of c.args.calls.now) (pure_stmt c.args.body.now))) s (leaving (stack_mark c.args.state.now) k))) (c.in_err-flow.ensures (leaving (stack_mark c.args.state.now) k)))

pub run_for-returns : goal.run_for-returns
run_for-returns t c =
    let is : c.leave.new.self ≡ leave (stack_mark c.args.state.now) c.repeat.new.state = cc in
    block-closes (for_block c.args.calls.now.rank (calls_of c.args.calls.now) (pure_start c.args.start.now) (option_map pure_expr (option_copied c.args.test)) (option_map pure_simple (option_copied c.args.update)) (started (act c.args.calls.now.rank (calls_of c.args.calls.now) (pure_stmt c.args.body.now)))) (loop (option_map pure_expr (option_copied c.args.test)) (for_update c.args.calls.now.rank (calls_of c.args.calls.now) (option_map pure_simple (option_copied c.args.update))) (started (act c.args.calls.now.rank (calls_of c.args.calls.now) (pure_stmt c.args.body.now)))) (stack_mark c.args.state.now) c.in_ok-flow.flow c.args.state.now c.start_for.new.state c.repeat.new.state c.leave.new.self c.args.replies.now c.start_for.new.replies c.repeat.new.replies
    (λ k. c.in_ok-start_for.ensures.at (λ s. loop (option_map pure_expr (option_copied c.args.test)) (for_update c.args.calls.now.rank (calls_of c.args.calls.now) (option_map pure_simple (option_copied c.args.update))) (started (act c.args.calls.now.rank (calls_of c.args.calls.now) (pure_stmt c.args.body.now))) s (leaving (stack_mark c.args.state.now) k))) (c.in_ok-start_for.ensures.left) (c.in_ok-flow.ensures) is

pub run_list-returns-in_err-flow : goal.run_list-returns-in_err-flow
run_list-returns-in_err-flow t c =
    let p = err_from_is_err_and c.from_residual.result c.from_residual.ensures.1 in
    rw (p.1, p.2) (λ k. stops-from _ _ _ _ _ (c.loop-part.invariant.comes k ∙ rw (at c.args.parts.now c.loop-part.part-index c.part-item.result c.loop-part-test.true c.part-item.is) refl) (c.in_err-flow.ensures (record k { next = (λ s. act_parts c.args.calls.now.rank (calls_of c.args.calls.now) (pure_parts (drop (c.loop-part.part-index + 1) c.args.parts.now)) s k) })))

pub run_list-returns-in_default : goal.run_list-returns-in_default
run_list-returns-in_default t c =
    let few : c.loop-part.state.left ≤ c.args.state.now.left = c.loop-part.invariant.left in
    let fewer : c.run_part.new.state.left ≤ c.loop-part.state.left = c.in_ok-flow.ensures.left in
    record {
      at = λ k. c.loop-part.invariant.comes k ∙ rw (at c.args.parts.now c.loop-part.part-index c.part-item.result c.loop-part-test.true c.part-item.is) refl ∙ c.in_ok-flow.ensures.at (record k { next = (λ s. act_parts c.args.calls.now.rank (calls_of c.args.calls.now) (pure_parts (drop (c.loop-part.part-index + 1) c.args.parts.now)) s k) }) ∙ ap (λ x. after_replies x c.run_part.new.replies) (exit-other k (λ s. act_parts c.args.calls.now.rank (calls_of c.args.calls.now) (pure_parts (drop (c.loop-part.part-index + 1) c.args.parts.now)) s k) _ c.run_part.new.state c.in_default.not-Next);
      left = omega arith;
    }

pub run_list-loop-part-preserved : goal.run_list-loop-part-preserved
run_list-loop-part-preserved t c =
    let h = rw c.in-Next.is at c.in_ok-flow.ensures in
    let few : c.loop-part.state.left ≤ c.args.state.now.left = c.loop-part.invariant.left in
    let fewer : c.run_part.new.state.left ≤ c.loop-part.state.left = h.left in
    record {
      comes = λ k. c.loop-part.invariant.comes k ∙ rw (at c.args.parts.now c.loop-part.part-index c.part-item.result c.loop-part-test.true c.part-item.is) refl ∙ h.at (record k { next = (λ s. act_parts c.args.calls.now.rank (calls_of c.args.calls.now) (pure_parts (drop (c.loop-part.part-index + 1) c.args.parts.now)) s k) });
      left = omega arith;
    }

pub run_list-returns : goal.run_list-returns
run_list-returns t c = record { at = λ k. c.loop-part.invariant.comes k ∙ rw (behind_all c.args.parts.now c.loop-part.part-index c.loop-part-test.false) refl; left = c.loop-part.invariant.left }

pub run_part-returns-in_err-declare_all-in-Declaration : goal.run_part-returns-in_err-declare_all-in-Declaration
run_part-returns-in_err-declare_all-in-Declaration t c =
    let p = err_from_is_err_and c.from_residual-in_err-declare_all-in-Declaration.result c.from_residual-in_err-declare_all-in-Declaration.ensures.1 in
    rw (p.1, p.2) (λ k. stops-from _ _ _ _ _ ((lifted c.in_ok-take_step.ensures.evaluated c.args.replies.now).at (λ s. act_part c.args.calls.now.rank (calls_of c.args.calls.now) (pure_part c.args.part.now) s k) ∙ rw (c.in-Declaration.is, pure-declare, c.deref.ensures.value) refl) (c.in_err-declare_all-in-Declaration.ensures k.next))

pub run_part-returns-in_ok-declare_all-in-Declaration : goal.run_part-returns-in_ok-declare_all-in-Declaration
run_part-returns-in_ok-declare_all-in-Declaration t c =
    let stepped : c.take_step.new.state.left ≤ c.args.state.now.left = (lifted c.in_ok-take_step.ensures.evaluated c.args.replies.now).left in
    let declared : c.declare_all.new.state.left ≤ c.take_step.new.state.left = c.in_ok-declare_all-in-Declaration.ensures.left in
    record {
      at = λ k. (lifted c.in_ok-take_step.ensures.evaluated c.args.replies.now).at (λ s. act_part c.args.calls.now.rank (calls_of c.args.calls.now) (pure_part c.args.part.now) s k) ∙ rw (c.in-Declaration.is, pure-declare, ← c.deref.ensures.value) (c.in_ok-declare_all-in-Declaration.ensures.at k.next);
      left = omega arith;
    }

pub run_part-returns-in-Stmt : goal.run_part-returns-in-Stmt
run_part-returns-in-Stmt t c =
    from exit (started (act_part c.args.calls.now.rank (calls_of c.args.calls.now) (pure_part c.args.part.now))) (act c.args.calls.now.rank (calls_of c.args.calls.now) (pure_stmt c.in-Stmt.stmt)) c.args.state.now c.take_step.new.state c.act.new.state c.args.replies.now c.args.replies.now c.act.new.replies c.act.result
    (λ k. (lifted c.in_ok-take_step.ensures.evaluated c.args.replies.now).at (λ s. act_part c.args.calls.now.rank (calls_of c.args.calls.now) (pure_part c.args.part.now) s k) ∙ rw (c.in-Stmt.is, pure-stmt) refl) ((lifted c.in_ok-take_step.ensures.evaluated c.args.replies.now).left) (c.act.ensures)

pub assign-returns-in_err-value : goal.assign-returns-in_err-value
assign-returns-in_err-value t c =
    let p = err_from_is_err_and c.from_residual-in_err-value.result c.from_residual-in_err-value.ensures.1 in
    let cell : cell_of_place (pure_place c.args.place.now) c.args.state.now ≡ Ok c.in_ok-cell.cell = sym c.cell_of.ensures.value ∙ c.in_ok-cell.was in
    rw (p.1, p.2) (λ k. stops-from _ _ _ _ _ (rw cell refl) (c.in_err-value.ensures (λ v s. assigned c.args.operator c.in_ok-cell.cell v s k)))

pub assign-returns-in_err-put_assigned : goal.assign-returns-in_err-put_assigned
assign-returns-in_err-put_assigned t c =
    let p = err_from_is_err_and c.from_residual-in_err-put_assigned.result c.from_residual-in_err-put_assigned.ensures.1 in
    let cell : cell_of_place (pure_place c.args.place.now) c.args.state.now ≡ Ok c.in_ok-cell.cell = sym c.cell_of.ensures.value ∙ c.in_ok-cell.was in
    let fits : FitsSigned w32 c.in_ok-value.value = search rules in
    let h = rw (to_z-of_z w32 c.in_ok-value.value fits) at c.in_err-put_assigned.ensures in
    rw (p.1, p.2) (λ k. stops-from _ _ _ _ _ (rw cell (c.in_ok-value.ensures.at (λ v s. assigned c.args.operator c.in_ok-cell.cell v s k))) (fails-stops _ _ _ c.value_of.new.replies (h k)))

pub assign-returns : goal.assign-returns
assign-returns t c =
    let cell : cell_of_place (pure_place c.args.place.now) c.args.state.now ≡ Ok c.in_ok-cell.cell = sym c.cell_of.ensures.value ∙ c.in_ok-cell.was in
    let fits : FitsSigned w32 c.in_ok-value.value = search rules in
    let h = rw (to_z-of_z w32 c.in_ok-value.value fits) at c.in_ok-put_assigned.ensures in
    let valued : c.value_of.new.state.left ≤ c.args.state.now.left = c.in_ok-value.ensures.left in
    let put : c.put_assigned.new.state.left ≤ c.value_of.new.state.left = h.left in
    record {
      at = λ k. rw cell (c.in_ok-value.ensures.at (λ v s. assigned c.args.operator c.in_ok-cell.cell v s k)) ∙ (lifted h c.value_of.new.replies).at k;
      left = omega arith;
    }

pub run_simple-returns-in-Set : goal.run_simple-returns-in-Set
run_simple-returns-in-Set t c =
    from {K = Onward} {A = Unit {0}} (λ go done. go) (simple c.args.calls.now.rank (calls_of c.args.calls.now) (pure_simple c.args.one.now)) (assigns (calls_of c.args.calls.now) (pure_place c.in-Set.place) None (pure_right c.in-Set.right)) c.args.state.now c.args.state.now c.assign.new.state c.args.replies.now c.args.replies.now c.assign.new.replies c.assign.result
    (λ k. rw c.in-Set.is refl) (omega arith) (c.assign.ensures)

pub run_simple-returns-in-Update : goal.run_simple-returns-in-Update
run_simple-returns-in-Update t c =
    from {K = Onward} {A = Unit {0}} (λ go done. go) (simple c.args.calls.now.rank (calls_of c.args.calls.now) (pure_simple c.args.one.now)) (assigns (calls_of c.args.calls.now) (pure_place c.in-Update.place) (Some c.in-Update.operator) (pure_right c.in-Update.right)) c.args.state.now c.args.state.now c.assign-in-Update.new.state c.args.replies.now c.args.replies.now c.assign-in-Update.new.replies c.assign-in-Update.result
    (λ k. rw c.in-Update.is refl) (omega arith) (c.assign-in-Update.ensures)

pub run_simple-returns-in_err-invoke-in-Call : goal.run_simple-returns-in_err-invoke-in-Call
run_simple-returns-in_err-invoke-in-Call t c =
    let p = err_from_is_err_and c.from_residual.result c.from_residual.ensures.1 in
    rw (p.1, p.2) (λ k. stops-from _ _ _ _ _ (rw c.in-Call.is refl) (c.in_err-invoke-in-Call.ensures (λ v s. k s)))

pub run_simple-returns-in_ok-invoke-in-Call : goal.run_simple-returns-in_ok-invoke-in-Call
run_simple-returns-in_ok-invoke-in-Call t c = record { at = λ k. rw c.in-Call.is (c.in_ok-invoke-in-Call.ensures.at (λ v s. k s)); left = c.in_ok-invoke-in-Call.ensures.left }

pub run_simple-returns-in_err-print-in-Print : goal.run_simple-returns-in_err-print-in-Print
run_simple-returns-in_err-print-in-Print t c =
    let p = err_from_is_err_and c.from_residual-in_err-print-in-Print.result c.from_residual-in_err-print-in-Print.ensures.1 in
    rw (p.1, p.2) (λ k. stops-from _ _ _ _ _ (rw (c.in-Print.is, ← c.deref-in-Print.ensures.value, ← c.deref-in-Print-2.ensures.value) refl) (fails-stops _ _ _ c.args.replies.now (c.in_err-print-in-Print.ensures k)))

pub run_simple-returns-in_ok-print-in-Print : goal.run_simple-returns-in_ok-print-in-Print
run_simple-returns-in_ok-print-in-Print t c = record {
  at = λ k. rw (c.in-Print.is, ← c.deref-in-Print.ensures.value, ← c.deref-in-Print-2.ensures.value) ((lifted c.in_ok-print-in-Print.ensures c.args.replies.now).at k);
  left = c.in_ok-print-in-Print.ensures.left;
}

pub start_for-returns-in_ok-take_step-in-Declaration : goal.start_for-returns-in_ok-take_step-in-Declaration
start_for-returns-in_ok-take_step-in-Declaration t c =
    from {K = Onward} {A = Unit {0}} (λ go done. go) (for_start c.args.calls.now.rank (calls_of c.args.calls.now) (pure_start c.args.start.now)) (declare_all (calls_of c.args.calls.now) (map pure_item c.deref.result.now)) c.args.state.now c.take_step.new.state c.declare_all.new.state c.args.replies.now c.args.replies.now c.declare_all.new.replies c.declare_all.result
    (λ k. rw (c.in-Declaration.is, c.deref.ensures.value) ((lifted c.in_ok-take_step-in-Declaration.ensures.evaluated c.args.replies.now).at (λ s. declare_all (calls_of c.args.calls.now) (map pure_item c.in-Declaration.declaration.items.items) s k))) ((lifted c.in_ok-take_step-in-Declaration.ensures.evaluated c.args.replies.now).left) (c.declare_all.ensures)

pub start_for-returns-in-Simple : goal.start_for-returns-in-Simple
start_for-returns-in-Simple t c =
    from {K = Onward} {A = Unit {0}} (λ go done. go) (for_start c.args.calls.now.rank (calls_of c.args.calls.now) (pure_start c.args.start.now)) (simple c.args.calls.now.rank (calls_of c.args.calls.now) (pure_simple c.in-Simple.one)) c.args.state.now c.args.state.now c.run_simple.new.state c.args.replies.now c.args.replies.now c.run_simple.new.replies c.run_simple.result
    (λ k. rw c.in-Simple.is refl) (omega arith) (c.run_simple.ensures)

pub run_update-returns-in-Some : goal.run_update-returns-in-Some
run_update-returns-in-Some t c =
    from {K = Onward} {A = Unit {0}} (λ go done. go) (for_update c.args.calls.now.rank (calls_of c.args.calls.now) (option_map pure_simple (option_copied c.args.update))) (simple c.args.calls.now.rank (calls_of c.args.calls.now) (pure_simple c.in-Some.one.now)) c.args.state.now c.args.state.now c.run_simple.new.state c.args.replies.now c.args.replies.now c.run_simple.new.replies c.run_simple.result
    (λ k. rw c.in-Some.is refl) (omega arith) (c.run_simple.ensures)

pub take_turn-returns-in_err-run-clause-evaluated : goal.take_turn-returns-in_err-run-clause-evaluated
take_turn-returns-in_err-run-clause-evaluated t c =
    let p = err_from_is_err_and c.from_residual-in_err-run.result c.from_residual-in_err-run.ensures.1 in
    rw (p.1, p.2) (turn-stops (for_update c.args.calls.now.rank (calls_of c.args.calls.now) (option_map pure_simple (option_copied c.args.update))) (started (act c.args.calls.now.rank (calls_of c.args.calls.now) (pure_stmt c.args.body.now))) c.args.state.now c.take_step.new.state c.args.replies.now (lifted c.in_ok-take_step.ensures.evaluated c.args.replies.now) _ c.run.new.state c.run.new.replies c.in_err-run.ensures)

pub take_turn-returns-in-Broke-clause-evaluated : goal.take_turn-returns-in-Broke-clause-evaluated
take_turn-returns-in-Broke-clause-evaluated t c =
    turn-leaves (for_update c.args.calls.now.rank (calls_of c.args.calls.now) (option_map pure_simple (option_copied c.args.update))) (started (act c.args.calls.now.rank (calls_of c.args.calls.now) (pure_stmt c.args.body.now))) c.args.state.now c.take_step.new.state c.args.replies.now (lifted c.in_ok-take_step.ensures.evaluated c.args.replies.now) Broke c.run.new.state c.run.new.replies (rw c.in-Broke.is at c.in_ok-run.ensures) Next (λ ways. refl)

pub take_turn-returns-in-Back-clause-evaluated : goal.take_turn-returns-in-Back-clause-evaluated
take_turn-returns-in-Back-clause-evaluated t c =
    let fits : FitsSigned w32 c.in-Back.value = search rules in
    rw (to_z-of_z w32 c.in-Back.value fits) (turn-leaves (for_update c.args.calls.now.rank (calls_of c.args.calls.now) (option_map pure_simple (option_copied c.args.update))) (started (act c.args.calls.now.rank (calls_of c.args.calls.now) (pure_stmt c.args.body.now))) c.args.state.now c.take_step.new.state c.args.replies.now (lifted c.in_ok-take_step.ensures.evaluated c.args.replies.now) (Back c.in-Back.value) c.run.new.state c.run.new.replies (rw c.in-Back.is at c.in_ok-run.ensures) (Back c.in-Back.value) (λ ways. refl))

pub take_turn-returns-in_err-run_update-clause-evaluated : goal.take_turn-returns-in_err-run_update-clause-evaluated
take_turn-returns-in_err-run_update-clause-evaluated t c =
    let p = err_from_is_err_and c.from_residual-in_err-run_update.result c.from_residual-in_err-run_update.ensures.1 in
    rw (p.1, p.2) (update-stops (for_update c.args.calls.now.rank (calls_of c.args.calls.now) (option_map pure_simple (option_copied c.args.update))) (started (act c.args.calls.now.rank (calls_of c.args.calls.now) (pure_stmt c.args.body.now))) c.args.state.now c.take_step.new.state c.args.replies.now (lifted c.in_ok-take_step.ensures.evaluated c.args.replies.now) _ c.run.new.state c.run.new.replies c.in_ok-run.ensures c.in_default.not-Broke c.in_default.not-Back _ c.run_update.new.state c.run_update.new.replies c.in_err-run_update.ensures)

pub take_turn-returns-clause-evaluated : goal.take_turn-returns-clause-evaluated
take_turn-returns-clause-evaluated t c =
    turn-goes_on (for_update c.args.calls.now.rank (calls_of c.args.calls.now) (option_map pure_simple (option_copied c.args.update))) (started (act c.args.calls.now.rank (calls_of c.args.calls.now) (pure_stmt c.args.body.now))) c.args.state.now c.take_step.new.state c.args.replies.now (lifted c.in_ok-take_step.ensures.evaluated c.args.replies.now) _ c.run.new.state c.run.new.replies c.in_ok-run.ensures c.in_default.not-Broke c.in_default.not-Back c.run_update.new.state c.run_update.new.replies c.in_ok-run_update.ensures

pub value_of-returns-in-Call : goal.value_of-returns-in-Call
value_of-returns-in-Call t c =
    from {K = ℤ → Onward} {A = ℤ} (λ go v. go v) (right (calls_of c.args.calls.now) (pure_right c.args.one.now)) (invoke (calls_of c.args.calls.now) (pure_call c.in-Call.call)) c.args.state.now c.args.state.now c.invoke.new.state c.args.replies.now c.args.replies.now c.invoke.new.replies c.invoke.result
    (λ k. rw c.in-Call.is refl) (omega arith) (c.invoke.ensures)

pub invoke-returns-in_err-take_step : goal.invoke-returns-in_err-take_step
invoke-returns-in_err-take_step t c =
    let p = err_from_is_err_and c.from_residual.result c.from_residual.ensures.1 in
    rw (p.1, p.2) (λ k. fails-stops _ _ _ c.args.replies.now (c.in_err-take_step.ensures.evaluated (λ s. trying (passed_all (map pure_argument c.args.call.now.arguments.items) s) s (λ arguments. (calls_of c.args.calls.now) c.args.call.now.function arguments s k))))

pub run-returns-in_err-take_step : goal.run-returns-in_err-take_step
run-returns-in_err-take_step t c =
    let p = err_from_is_err_and c.from_residual.result c.from_residual.ensures.1 in
    rw (p.1, p.2) (λ k. fails-stops _ _ _ c.args.replies.now (c.in_err-take_step.ensures.evaluated (λ s. act c.args.calls.now.rank (calls_of c.args.calls.now) (pure_stmt c.args.stmt.now) s k)))

pub run_part-returns-in_err-take_step : goal.run_part-returns-in_err-take_step
run_part-returns-in_err-take_step t c =
    let p = err_from_is_err_and c.from_residual.result c.from_residual.ensures.1 in
    rw (p.1, p.2) (λ k. fails-stops _ _ _ c.args.replies.now (c.in_err-take_step.ensures.evaluated (λ s. act_part c.args.calls.now.rank (calls_of c.args.calls.now) (pure_part c.args.part.now) s k)))

pub start_for-returns-in_err-take_step-in-Declaration : goal.start_for-returns-in_err-take_step-in-Declaration
start_for-returns-in_err-take_step-in-Declaration t c =
    let p = err_from_is_err_and c.from_residual.result c.from_residual.ensures.1 in
    rw (p.1, p.2) (λ k. stops-from _ _ _ _ _ (rw c.in-Declaration.is refl) (fails-stops _ _ _ c.args.replies.now (c.in_err-take_step-in-Declaration.ensures.evaluated (λ s. declare_all (calls_of c.args.calls.now) (map pure_item c.in-Declaration.declaration.items.items) s k))))

pub take_turn-returns-in_err-take_step-clause-evaluated : goal.take_turn-returns-in_err-take_step-clause-evaluated
take_turn-returns-in_err-take_step-clause-evaluated t c =
    let p = err_from_is_err_and c.from_residual.result c.from_residual.ensures.1 in
    rw (p.1, p.2) (λ ways. fails-stops _ _ _ c.args.replies.now (c.in_err-take_step.ensures.evaluated (λ s. started (act c.args.calls.now.rank (calls_of c.args.calls.now) (pure_stmt c.args.body.now)) s (turn_exits (for_update c.args.calls.now.rank (calls_of c.args.calls.now) (option_map pure_simple (option_copied c.args.update))) ways.on ways.out))))
