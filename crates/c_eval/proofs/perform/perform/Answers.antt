use Rattle.std.proofs.Common.{◌∙◌, ap, refl}
use Rattle.c_program.specs.Courses.{Over, after_replies}
use Rattle.c_run_replies.proofs.MoreReplies.{after-over}
use Rattle.c_eval.proofs.perform.perform.Goals as goal

pub returns-in-Over : goal.returns-in-Over
returns-in-Over c = λ k.
    ap (λ course. after_replies course c.args.replies.now) (c.in_ok-found.ensures.comes k) ∙ c.loop-found.invariant.comes k ∙ rw c.in-Over.is (after-over (Over c.loop-found.state) c.loop-found.state c.loop-found.replies refl)
