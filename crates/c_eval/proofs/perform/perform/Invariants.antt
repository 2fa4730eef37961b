use Rattle.std.proofs.Common.{◌≡◌, ◌≤◌, length}
use Rattle.c_program.specs.Courses.{after_replies}
use Rattle.c_program.specs.Performing.{Onward}
use Rattle.c_run_replies.specs.Questions.{reached}
use Rattle.c_eval.proofs.perform.perform.Given as goal

abbrev pub invariant-loop-found : goal.invariant-loop-found
invariant-loop-found l = record {
  comes : (go : Onward) → after_replies (reached l.rank l.initial.found l.initial.state go) l.initial.replies ≡ after_replies (reached l.rank l.found l.state go) l.replies;
  left : l.state.left ≤ l.initial.state.left;
}

abbrev pub decreases-loop-found : goal.decreases-loop-found
decreases-loop-found l = length l.replies
