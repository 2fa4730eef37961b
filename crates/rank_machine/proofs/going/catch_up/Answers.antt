use Rattle.std.proofs.Common.{◌∙◌, refl, drop}
use Rattle.c_program.specs.Courses.{Over}
use Rattle.c_run_replies.proofs.MoreReplies.{after-over}
use Rattle.rank_machine.proofs.going.catch_up.Goals as goal

pub returns-in-Over : goal.returns-in-Over
returns-in-Over c = let is = c.in-Over.is in record {
  at = λ course h. record {
    is = c.loop-going.invariant.comes course h ∙ rw c.in-Over.is (after-over (Over c.loop-going.going.stack.state) c.loop-going.going.stack.state (drop c.loop-going.going.used c.args.replies.now) refl);
    counted = c.loop-going.invariant.counted;
  };
  ready = record { used = refl; stops = λ e. cc };
}
