use Rattle.std.proofs.Common.{◌≡◌, ◌∙◌, ◌+◌, OnOk, Option, Some, ap, drop, option_map, refl, sym, true}
use Rattle.c_grammar.specs.StmtView.{declaration_view, part_view, parts_view, right_view, simple_view, start_view, stmt_view}
use Rattle.c_grammar.specs.View.{view}
use Rattle.c_grammar.proofs.StmtViewed.{view-block, view-break, view-continue, view-declare, view-do_while, view-empty, view-for, view-if_else, view-if_only, view-return, view-simple, view-stmt, view-while}
use Rattle.c_program.specs.Tree as pure
use Rattle.c_program.specs.View.{pure_declaration, pure_expr, pure_part, pure_parts, pure_right, pure_simple, pure_start, pure_stmt, typed_parts}
use Rattle.c_program.proofs.StmtViewed.{pure-break, pure-continue, pure-empty}
use Rattle.c_scope.specs.Scopes.{Env, opened}
use Rattle.c_scope.specs.Typing.{both}
use Rattle.c_scope.proofs.Gives.{walked_onto}
use Rattle.c_scope.proofs.Lists.{drop_at, drop_past}
use Rattle.c_type_expr.specs.ExprTyping.{int_typing}
use Rattle.c_type_stmt.specs.Declarations.{after_parts, after_start}
use Rattle.c_type_stmt.specs.StmtTyping.{declaration_typing, part_typing, parts_typing, return_typing, simple_typing, start_typing, step_typing, stmt_typing, test_typing}
use Rattle.c_type_stmt.proofs.Closed.{closed_parts, closed_start, closing}
use Rattle.c_scope.proofs.JoinRules.{so_far_first, so_far_last, so_far_next, walked_boxed, walked_pair}
use Rattle.c_scope.proofs.HadMemory.{always, joined_after, on_boxed, on_first, on_mapped, on_ok, on_pair, on_second, pair_after}
use Rattle.c_type_stmt.proofs.Walks.{placed_parts}
use Rattle.c_type_stmt.proofs.statement.+statement.Goals as goal

-- ---- statements

pub stmt_of-returns-in-Block-clause-typed : goal.stmt_of-returns-in-Block-clause-typed
stmt_of-returns-in-Block-clause-typed t c = rw (c.in-Block.is, view-block) (rw c.deref.ensures.value at c.block_of.ensures.typed)

pub stmt_of-returns-in-Empty-clause-typed : goal.stmt_of-returns-in-Empty-clause-typed
stmt_of-returns-in-Empty-clause-typed t c = rw (c.in-Empty.is, view-empty) (record { best = refl; form = ap (λ one. Some one) pure-empty })

pub stmt_of-returns-in-Simple-clause-typed : goal.stmt_of-returns-in-Simple-clause-typed
stmt_of-returns-in-Simple-clause-typed t c =
    rw (c.in-Simple.is, view-simple)
    (walked_onto _ _ pure_simple pure_stmt pure.simple (simple_typing c.args.scope.now (simple_view c.in-Simple.one)) c.simple_of.result c.simple.result c.simple_of.ensures c.simple.ensures)

pub stmt_of-returns-in-Break-clause-typed : goal.stmt_of-returns-in-Break-clause-typed
stmt_of-returns-in-Break-clause-typed t c = rw (c.in-Break.is, view-break) (rw pure-break at c.in_loop.ensures)

pub stmt_of-returns-in-Continue-clause-typed : goal.stmt_of-returns-in-Continue-clause-typed
stmt_of-returns-in-Continue-clause-typed t c = rw (c.in-Continue.is, view-continue) (rw pure-continue at c.in_loop-in-Continue.ensures)

pub stmt_of-returns-in-Return-clause-typed : goal.stmt_of-returns-in-Return-clause-typed
stmt_of-returns-in-Return-clause-typed t c =
    rw (c.in-Return.is, view-return)
    (walked_onto _ _ (option_map pure_right) pure_stmt pure.return (return_typing c.args.scope.now c.args.gives (option_map right_view c.in-Return.value)) c.return_of.result c.returned.result
    c.return_of.ensures c.returned.ensures)

pub stmt_of-returns-in-If-clause-typed : goal.stmt_of-returns-in-If-clause-typed
stmt_of-returns-in-If-clause-typed t c =
    rw (c.in-If.is, view-if_only)
    (walked_pair _ _ _ pure_expr (λ one. pure_stmt one.value) pure_stmt pure.if_only (int_typing c.args.scope.now (view c.in-If.test))
    (stmt_typing c.args.scope.now c.args.gives c.args.loops (stmt_view c.in-If.then.value)) c.int_of.result c.boxed_of.result c.both.result c.if_only.result
    c.int_of.ensures (rw c.deref-in-If.ensures at c.boxed_of.ensures.typed) c.both.ensures c.if_only.ensures)

pub stmt_of-returns-in-If-clause-scope : goal.stmt_of-returns-in-If-clause-scope
stmt_of-returns-in-If-clause-scope t c =
    let same : Type 0 = c.boxed_of.new.scope ≡ c.args.scope.now in
    on_mapped same (λ one. pure.if_only (pure_expr one.0) (pure_stmt one.1.value)) pure_stmt c.both.result c.if_only.result c.if_only.ensures
    (on_second same c.int_of.result c.boxed_of.result c.both.result c.both.ensures c.boxed_of.ensures.scope)

pub stmt_of-returns-in-IfElse-clause-typed : goal.stmt_of-returns-in-IfElse-clause-typed
stmt_of-returns-in-IfElse-clause-typed t c =
    let env = c.args.scope.now in let test = int_typing env (view c.in-IfElse.test) in
    let then = stmt_typing env c.args.gives c.args.loops (stmt_view c.in-IfElse.then.value) in let other = stmt_typing env c.args.gives c.args.loops (stmt_view c.in-IfElse.other.value) in
    rw (c.in-IfElse.is, view-if_else)
    (joined_after _ _ _ (λ two other. pure.if_else (pure_expr two.0) (pure_stmt two.1.value) other) (λ one. pure_stmt one.value) pure_stmt (λ with last. with last) (both (λ test then other. pure.if_else test then other) test then) other
    c.both-in-IfElse.result c.boxed_of-in-IfElse-2.result c.both-in-IfElse-2.result c.if_else.result
    (pair_after _ _ _ pure_expr (λ one. pure_stmt one.value) (λ test then other. pure.if_else test then other) test then c.int_of-in-IfElse.result c.boxed_of-in-IfElse.result c.both-in-IfElse.result
    c.int_of-in-IfElse.ensures (always c.int_of-in-IfElse.result (rw c.deref-in-IfElse.ensures at c.boxed_of-in-IfElse.ensures.typed)) c.both-in-IfElse.ensures)
    (on_ok c.both-in-IfElse.result (λ (e : c.boxed_of-in-IfElse.new.scope ≡ env). rw e at (rw c.deref-in-IfElse-2.ensures at c.boxed_of-in-IfElse-2.ensures.typed))
    (on_second _ c.int_of-in-IfElse.result c.boxed_of-in-IfElse.result c.both-in-IfElse.result c.both-in-IfElse.ensures c.boxed_of-in-IfElse.ensures.scope))
    c.both-in-IfElse-2.ensures c.if_else.ensures)

pub stmt_of-returns-in-IfElse-clause-scope : goal.stmt_of-returns-in-IfElse-clause-scope
stmt_of-returns-in-IfElse-clause-scope t c =
    let env = c.args.scope.now in let mid = c.boxed_of-in-IfElse.new.scope in let new = c.boxed_of-in-IfElse-2.new.scope in
    on_mapped (new ≡ env) (λ all. pure.if_else (pure_expr all.0.0) (pure_stmt all.0.1.value) (pure_stmt all.1.value)) pure_stmt c.both-in-IfElse-2.result c.if_else.result c.if_else.ensures
    (on_pair c.both-in-IfElse.result c.boxed_of-in-IfElse-2.result c.both-in-IfElse-2.result c.both-in-IfElse-2.ensures
    (on_second (mid ≡ env) c.int_of-in-IfElse.result c.boxed_of-in-IfElse.result c.both-in-IfElse.result c.both-in-IfElse.ensures c.boxed_of-in-IfElse.ensures.scope)
    c.boxed_of-in-IfElse-2.ensures.scope (λ (e : mid ≡ env) (d : new ≡ mid). d ∙ e))

pub stmt_of-returns-in-While-clause-typed : goal.stmt_of-returns-in-While-clause-typed
stmt_of-returns-in-While-clause-typed t c =
    rw (c.in-While.is, view-while)
    (walked_pair _ _ _ pure_expr (λ one. pure_stmt one.value) pure_stmt pure.while (int_typing c.args.scope.now (view c.in-While.test))
    (stmt_typing c.args.scope.now c.args.gives true (stmt_view c.in-While.body.value)) c.int_of-in-While.result c.boxed_of-in-While.result c.both-in-While.result c.while_loop.result
    c.int_of-in-While.ensures (rw c.deref-in-While.ensures at c.boxed_of-in-While.ensures.typed) c.both-in-While.ensures c.while_loop.ensures)

pub stmt_of-returns-in-While-clause-scope : goal.stmt_of-returns-in-While-clause-scope
stmt_of-returns-in-While-clause-scope t c =
    let same : Type 0 = c.boxed_of-in-While.new.scope ≡ c.args.scope.now in
    on_mapped same (λ one. pure.while (pure_expr one.0) (pure_stmt one.1.value)) pure_stmt c.both-in-While.result c.while_loop.result c.while_loop.ensures
    (on_second same c.int_of-in-While.result c.boxed_of-in-While.result c.both-in-While.result c.both-in-While.ensures c.boxed_of-in-While.ensures.scope)

pub stmt_of-returns-in-Do-clause-typed : goal.stmt_of-returns-in-Do-clause-typed
stmt_of-returns-in-Do-clause-typed t c =
    rw (c.in-Do.is, view-do_while)
    (joined_after _ _ _ (λ one. pure_stmt one.value) pure_expr pure_stmt pure.do_while (stmt_typing c.args.scope.now c.args.gives true (stmt_view c.in-Do.body.value))
    (int_typing c.args.scope.now (view c.in-Do.test)) c.boxed_of-in-Do.result c.int_of-in-Do.result c.both-in-Do.result c.do_loop.result
    (rw c.deref-in-Do.ensures at c.boxed_of-in-Do.ensures.typed)
    (on_ok c.boxed_of-in-Do.result (λ (e : c.boxed_of-in-Do.new.scope ≡ c.args.scope.now). rw e at c.int_of-in-Do.ensures) c.boxed_of-in-Do.ensures.scope)
    c.both-in-Do.ensures c.do_loop.ensures)

pub stmt_of-returns-in-Do-clause-scope : goal.stmt_of-returns-in-Do-clause-scope
stmt_of-returns-in-Do-clause-scope t c =
    let same : Type 0 = c.boxed_of-in-Do.new.scope ≡ c.args.scope.now in
    on_mapped same (λ one. pure.do_while (pure_stmt one.0.value) (pure_expr one.1)) pure_stmt c.both-in-Do.result c.do_loop.result c.do_loop.ensures
    (on_first same c.boxed_of-in-Do.result c.int_of-in-Do.result c.both-in-Do.result c.both-in-Do.ensures c.boxed_of-in-Do.ensures.scope)

pub stmt_of-returns-in-For-clause-typed : goal.stmt_of-returns-in-For-clause-typed
stmt_of-returns-in-For-clause-typed t c = rw (c.in-For.is, view-for) (rw c.deref-in-For.ensures at c.for_of.ensures.typed)

-- ---- scopes

pub block_of-returns-clause-typed : goal.block_of-returns-clause-typed
block_of-returns-clause-typed t c =
    walked_onto _ _ (λ all. pure_parts all.items) pure_stmt pure.block (parts_typing (opened c.args.scope.now) c.args.gives c.args.loops (parts_view c.args.parts.now)) c.parts_of-found.result c.block.result
    (rw c.in_ok-open.ensures at c.parts_of-found.ensures.typed) c.block.ensures

pub block_of-returns-clause-scope : goal.block_of-returns-clause-scope
block_of-returns-clause-scope t c =
    let parts = parts_view c.args.parts.now in
    on_mapped (c.close.new.self ≡ c.args.scope.now) (λ all. pure.block (pure_parts all.items)) pure_stmt c.parts_of-found.result c.block.result c.block.ensures
    (on_ok c.parts_of-found.result
    (λ (e : c.parts_of-found.new.scope ≡ after_parts c.open.new.self parts). c.close.ensures ∙ ap closing (e ∙ ap (λ env. after_parts env parts) c.in_ok-open.ensures) ∙ closed_parts c.args.scope.now parts)
    c.parts_of-found.ensures.scope)

pub for_of-returns-clause-typed : goal.for_of-returns-clause-typed
for_of-returns-clause-typed t c =
    let outer : Env = opened c.args.scope.now in let inner : Env = after_start outer (start_view c.args.start.now) in let now : Env = c.start_of-start.new.scope in
    let begun = start_typing outer (start_view c.args.start.now) in let test = test_typing inner (option_map view c.args.test.now) in let step = step_typing inner (option_map simple_view c.args.step.now) in
    let started : OnOk c.start_of-start.result (now ≡ inner) = rw c.in_ok-open.ensures at c.start_of-start.ensures.scope in
    let tested = on_first (now ≡ inner) c.start_of-start.result c.test_of.result c.both-test.result c.both-test.ensures started in
    let headed = on_first (now ≡ inner) c.both-test.result c.step_of.result c.both-head.result c.both-head.ensures tested in
    joined_after _ _ _ (λ three body. pure.for (pure_start three.0.0) (option_map pure_expr three.0.1) (option_map pure_simple three.1) body) (λ one. pure_stmt one.value) pure_stmt (λ with last. with last)
    (both (λ with last. with last) (both (λ start test step body. pure.for start test step body) begun test) step) (stmt_typing inner c.args.gives true (stmt_view c.args.body.now))
    c.both-head.result c.boxed_of.result c.both-found.result c.for_loop.result
    (pair_after {C = Option pure.TypedSimple → pure.TypedStmt → pure.TypedStmt} _ _ _ (λ two step body. pure.for (pure_start two.0) (option_map pure_expr two.1) step body) (option_map pure_simple) (λ with last. with last)
    (both (λ start test step body. pure.for start test step body) begun test) step c.both-test.result c.step_of.result c.both-head.result
    (pair_after _ _ _ pure_start (option_map pure_expr) (λ start test step body. pure.for start test step body) begun test c.start_of-start.result c.test_of.result c.both-test.result
    (rw c.in_ok-open.ensures at c.start_of-start.ensures.typed)
    (on_ok c.start_of-start.result (λ (e : now ≡ inner). rw e at c.test_of.ensures) started) c.both-test.ensures)
    (on_ok c.both-test.result (λ (e : now ≡ inner). rw e at c.step_of.ensures) tested) c.both-head.ensures)
    (on_ok c.both-head.result (λ (e : now ≡ inner). rw e at c.boxed_of.ensures.typed) headed) c.both-found.ensures c.for_loop.ensures

pub for_of-returns-clause-scope : goal.for_of-returns-clause-scope
for_of-returns-clause-scope t c =
    let env : Env = c.args.scope.now in let inner : Env = after_start (opened env) (start_view c.args.start.now) in let now : Env = c.start_of-start.new.scope in
    let started : OnOk c.start_of-start.result (now ≡ inner) = rw c.in_ok-open.ensures at c.start_of-start.ensures.scope in
    let tested = on_first (now ≡ inner) c.start_of-start.result c.test_of.result c.both-test.result c.both-test.ensures started in
    let headed = on_first (now ≡ inner) c.both-test.result c.step_of.result c.both-head.result c.both-head.ensures tested in
    on_mapped (c.close.new.self ≡ env)
    (λ all. pure.for (pure_start all.0.0.0) (option_map pure_expr all.0.0.1) (option_map pure_simple all.0.1) (pure_stmt all.1.value)) pure_stmt c.both-found.result c.for_loop.result c.for_loop.ensures
    (on_pair c.both-head.result c.boxed_of.result c.both-found.result c.both-found.ensures headed c.boxed_of.ensures.scope
    (λ (e : now ≡ inner) (d : c.boxed_of.new.scope ≡ now). c.close.ensures ∙ ap closing (d ∙ e) ∙ closed_start env (start_view c.args.start.now)))

-- ---- in a box

pub boxed_of-returns-clause-typed : goal.boxed_of-returns-clause-typed
boxed_of-returns-clause-typed t c =
    walked_boxed _ _ pure_stmt (stmt_typing c.args.scope.now c.args.gives c.args.loops (stmt_view c.args.stmt.now)) c.stmt_of.result c.in_box.result c.stmt_of.ensures.typed c.in_box.ensures

pub boxed_of-returns-clause-scope : goal.boxed_of-returns-clause-scope
boxed_of-returns-clause-scope t c = on_boxed (c.stmt_of.new.scope ≡ c.args.scope.now) c.stmt_of.result c.in_box.result c.stmt_of.ensures.scope c.in_box.ensures

-- ---- parts

pub part_of-returns-in-Declaration-clause-typed : goal.part_of-returns-in-Declaration-clause-typed
part_of-returns-in-Declaration-clause-typed t c =
    rw (c.in-Declaration.is, view-declare)
    (walked_onto _ _ pure_declaration pure_part pure.declare (declaration_typing c.args.scope.now (declaration_view c.in-Declaration.declaration)) c.declaration_of.result c.declared_part.result
    c.declaration_of.ensures.typed c.declared_part.ensures)

pub part_of-returns-in-Declaration-clause-scope : goal.part_of-returns-in-Declaration-clause-scope
part_of-returns-in-Declaration-clause-scope t c =
    rw (c.in-Declaration.is, view-declare)
    (on_mapped _ (λ one. pure.declare (pure_declaration one)) pure_part c.declaration_of.result c.declared_part.result c.declared_part.ensures c.declaration_of.ensures.scope)

pub part_of-returns-in-Stmt-clause-typed : goal.part_of-returns-in-Stmt-clause-typed
part_of-returns-in-Stmt-clause-typed t c =
    rw (c.in-Stmt.is, view-stmt)
    (walked_onto _ _ pure_stmt pure_part pure.stmt (stmt_typing c.args.scope.now c.args.gives c.args.loops (stmt_view c.in-Stmt.stmt)) c.stmt_of.result c.stmt_part.result
    c.stmt_of.ensures.typed c.stmt_part.ensures)

pub part_of-returns-in-Stmt-clause-scope : goal.part_of-returns-in-Stmt-clause-scope
part_of-returns-in-Stmt-clause-scope t c =
    rw (c.in-Stmt.is, view-stmt)
    (on_mapped _ (λ one. pure.stmt (pure_stmt one)) pure_part c.stmt_of.result c.stmt_part.result c.stmt_part.ensures c.stmt_of.ensures.scope)

pub parts_of-loop-part-init : goal.parts_of-loop-part-init
parts_of-loop-part-init t c = record {
  typed = so_far_first pure.part pure_part c.args.best.now _ (parts_typing c.args.scope.now c.args.gives c.args.loops (parts_view c.args.parts.now)) c.new-typed.ensures.items;
  scope = refl;
}

pub parts_of-loop-part-preserved : goal.parts_of-loop-part-preserved
parts_of-loop-part-preserved t c =
    let env = c.loop-part.scope in let next = c.part_of.new.scope in let parts = c.args.parts.now in let i = c.loop-part.part-index in let left = parts_view (drop (i + 1) parts) in
    let one = part_typing env c.args.gives c.args.loops (part_view c.part-item.result) in let at = drop_at parts i c.part-item.result c.loop-part-test.true c.part-item.is in
    record {
      typed = so_far_next pure.part pure_part _ _ _ c.loop-part.faulty _ c.loop-part.typed.items _ c.in_ok-one.one one
          (parts_typing env c.args.gives c.args.loops (parts_view (drop i parts))) (parts_typing next c.args.gives c.args.loops left)
          (parts_typing c.args.scope.now c.args.gives c.args.loops (parts_view parts))
          (ap (λ all. parts_typing env c.args.gives c.args.loops (parts_view all)) at
          ∙ ap (λ after. both pure.part one (parts_typing after c.args.gives c.args.loops left)) (sym c.in_ok-one.ensures.scope))
          c.in_ok-one.ensures.typed c.in_ok-keep.ensures c.loop-part.invariant.typed;
      scope = ap (λ after. after_parts after left) c.in_ok-one.ensures.scope ∙ sym (ap (λ all. after_parts env (parts_view all)) at) ∙ c.loop-part.invariant.scope;
    }

pub parts_of-returns-clause-typed : goal.parts_of-returns-clause-typed
parts_of-returns-clause-typed t c =
    let env = c.loop-part.scope in let parts = c.args.parts.now in let i = c.loop-part.part-index in
    so_far_last pure.part pure.no_part typed_parts pure_part _ _ _ _ (parts_typing env c.args.gives c.args.loops (parts_view (drop i parts)))
    (parts_typing c.args.scope.now c.args.gives c.args.loops (parts_view parts)) _ placed_parts
    (ap (λ all. parts_typing env c.args.gives c.args.loops (parts_view all)) (drop_past parts i c.loop-part-test.false)) c.all.ensures c.loop-part.invariant.typed

pub parts_of-returns-clause-scope : goal.parts_of-returns-clause-scope
parts_of-returns-clause-scope t c =
    sym (ap (λ all. after_parts c.loop-part.scope (parts_view all)) (drop_past c.args.parts.now c.loop-part.part-index c.loop-part-test.false)) ∙ c.loop-part.invariant.scope
