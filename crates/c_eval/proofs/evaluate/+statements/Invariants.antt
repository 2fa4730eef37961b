use Rattle.std.proofs.Common.{◌≡◌, ℕ, ◌+◌, ◌*◌, ◌≤◌, Option, Some, None, drop, map, max, option_copied, option_map}
use denote.Param.Weighed.{most}
use Rattle.c_program.specs.declared.statement.TypedStmt.{TypedStmt, size-TypedStmt}
use Rattle.c_program.specs.declared.statement.TypedPart.{size-TypedPart}
use Rattle.c_program.specs.Courses.{after_replies}
use Rattle.c_program.specs.Meaning.{Exits, act, act_parts, declare_all, for_update, started}
use Rattle.c_program.specs.Performing.{Onward}
use Rattle.c_program.specs.View.{pure_expr, pure_item, pure_parts, pure_simple, pure_stmt}
use Rattle.c_eval.specs.declared.calls.CallContext.{CallContext}
use Rattle.c_eval.specs.inside.Parts.{calls_of}
use Rattle.c_eval.proofs.Depths.{weight}
use Rattle.c_eval.proofs.Loops.{Turning}
use Rattle.c_eval.proofs.evaluate.+statements.Given as goal

-- what the calls of functions may still take
abbrev depths : CallContext → ℕ
depths calls = calls.depth * weight calls.functions.now

abbrev pub decreases-call_function : goal.decreases-call_function
decreases-call_function l = depths l.calls.now

abbrev pub decreases-invoke : goal.decreases-invoke
decreases-invoke l = depths l.calls.now + 1

abbrev pub decreases-value_of : goal.decreases-value_of
decreases-value_of l = depths l.calls.now + 2

abbrev pub decreases-assign : goal.decreases-assign
decreases-assign l = depths l.calls.now + 3

abbrev pub decreases-run_simple : goal.decreases-run_simple
decreases-run_simple l = depths l.calls.now + 4

abbrev pub decreases-declare : goal.decreases-declare
decreases-declare l = depths l.calls.now + 3

abbrev pub decreases-declare_all : goal.decreases-declare_all
decreases-declare_all l = depths l.calls.now + 4

abbrev pub decreases-start_for : goal.decreases-start_for
decreases-start_for l = depths l.calls.now + 5

abbrev pub decreases-run_update : goal.decreases-run_update
decreases-run_update l = depths l.calls.now + 5

abbrev pub decreases-run_return : goal.decreases-run_return
decreases-run_return l = depths l.calls.now + 3

abbrev pub decreases-act : goal.decreases-act
decreases-act l = depths l.calls.now + (16 * size-TypedStmt l.stmt.now + 30)

abbrev pub decreases-run : goal.decreases-run
decreases-run l = depths l.calls.now + (16 * size-TypedStmt l.stmt.now + 31)

-- how deep an `else` is
abbrev other_size : Option TypedStmt → ℕ
other_size None = 0
other_size (Some stmt) = size-TypedStmt stmt

abbrev pub decreases-run_if : goal.decreases-run_if
decreases-run_if l = depths l.calls.now + (16 * max (size-TypedStmt l.then.now) (other_size (option_copied l.other)) + 32)

abbrev pub decreases-run_part : goal.decreases-run_part
decreases-run_part l = depths l.calls.now + (16 * size-TypedPart l.part.now + 31)

abbrev pub decreases-run_list : goal.decreases-run_list
decreases-run_list l = depths l.calls.now + (16 * most size-TypedPart l.parts.now + 32)

abbrev pub decreases-run_block : goal.decreases-run_block
decreases-run_block l = depths l.calls.now + (16 * most size-TypedPart l.parts.now + 33)

abbrev pub decreases-take_turn : goal.decreases-take_turn
decreases-take_turn l = depths l.calls.now + (16 * size-TypedStmt l.body.now + 32)

abbrev pub decreases-repeat : goal.decreases-repeat
decreases-repeat l = depths l.calls.now + (16 * size-TypedStmt l.body.now + 33)

abbrev pub decreases-repeat_after : goal.decreases-repeat_after
decreases-repeat_after l = depths l.calls.now + (16 * size-TypedStmt l.body.now + 34)

abbrev pub decreases-run_for : goal.decreases-run_for
decreases-run_for l = depths l.calls.now + (16 * size-TypedStmt l.body.now + 34)

abbrev pub invariant-declare_all-loop-item : goal.invariant-declare_all-loop-item
invariant-declare_all-loop-item l = record {
  comes : (k : Onward) → after_replies (declare_all (calls_of l.calls) (map pure_item l.items) l.initial.state k) l.initial.replies ≡ after_replies (declare_all (calls_of l.calls) (map pure_item (drop l.item-index l.items)) l.state k) l.replies;
  left : l.state.left ≤ l.initial.state.left;
}

abbrev pub invariant-run_list-loop-part : goal.invariant-run_list-loop-part
invariant-run_list-loop-part l = record {
  comes : (k : Exits) → after_replies (act_parts l.calls.rank (calls_of l.calls) (pure_parts l.parts) l.initial.state k) l.initial.replies ≡ after_replies (act_parts l.calls.rank (calls_of l.calls) (pure_parts (drop l.part-index l.parts)) l.state k) l.replies;
  left : l.state.left ≤ l.initial.state.left;
}

abbrev pub invariant-repeat-loop-update : goal.invariant-repeat-loop-update
invariant-repeat-loop-update l = Turning (option_map pure_expr (option_copied l.test)) (for_update l.calls.rank (calls_of l.calls) (option_map pure_simple (option_copied l.update))) (started (act l.calls.rank (calls_of l.calls) (pure_stmt l.body))) l.initial.state l.state l.initial.replies l.replies

abbrev pub decreases-repeat-loop-update : goal.decreases-repeat-loop-update
decreases-repeat-loop-update l = l.state.left
