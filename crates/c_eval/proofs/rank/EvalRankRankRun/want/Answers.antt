use Rattle.std.proofs.Common.{◌≡◌, ◌∷◌, [], ap, map, pos}
use Rattle.c_program.specs.declared.state.Passed.TheVariants.{Number}
use Rattle.c_program.specs.Courses.{after_replies, ended}
use Rattle.c_program.specs.Meaning.{course_of, start}
use Rattle.c_program.specs.View.{pure_function, pure_program}
use Rattle.c_eval.specs.Ranks.{Wants}
use Rattle.c_eval.proofs.RankLaws.{moved, rank-says, rank-wants}
use Rattle.c_eval.proofs.rank.EvalRankRankRun.want.Goals as goal

pub invariant_of-self : goal.invariant_of-self
invariant_of-self c =
    let w : Wants (after_replies (course_of (pure_program c.self.inside.program.now) c.self.inside.rank) c.self.inside.replies.items) c.in_ok-want.want c.evaluate.new.state =
    moved c.self.inside.rank (map pure_function c.deref.result.now) (map pure_function c.self.inside.program.now.functions.items) 100 c.self.inside.program.now.main (Number (pos 1) ∷ []) (λ v s. ended s)
    c.in_ok-state.state start c.evaluate.new.state c.deref-2.result.now c.self.inside.replies.items c.in_ok-want.want (ap (map pure_function) c.deref.ensures.value) c.in_ok-state.ensures c.deref-2.ensures.value c.in_ok-want.ensures in
    let same : c.swap.new.x ≡ c.evaluate.new.state = c.swap.ensures.x_after in
    rw same (rank-wants (pure_program c.self.inside.program.now) c.self.inside.rank c.self.inside.replies.items c.self.inside.asked c.self.inside.state c.evaluate.new.state c.in_ok-want.want c.self.invariant w)

pub returns-clause-says : goal.returns-clause-says
returns-clause-says c =
    let w : Wants (after_replies (course_of (pure_program c.self.inside.program.now) c.self.inside.rank) c.self.inside.replies.items) c.in_ok-want.want c.evaluate.new.state =
    moved c.self.inside.rank (map pure_function c.deref.result.now) (map pure_function c.self.inside.program.now.functions.items) 100 c.self.inside.program.now.main (Number (pos 1) ∷ []) (λ v s. ended s)
    c.in_ok-state.state start c.evaluate.new.state c.deref-2.result.now c.self.inside.replies.items c.in_ok-want.want (ap (map pure_function) c.deref.ensures.value) c.in_ok-state.ensures c.deref-2.ensures.value c.in_ok-want.ensures in
    rw (← c.self.view_is) (rank-says (pure_program c.self.inside.program.now) c.self.inside.rank c.self.inside.replies.items c.self.inside.asked c.self.inside.state c.evaluate.new.state c.in_ok-want.want c.self.invariant w)
