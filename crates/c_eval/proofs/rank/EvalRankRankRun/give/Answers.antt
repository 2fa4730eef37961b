use Rattle.std.proofs.Common.{◌≡◌, ◌∷◌, ◌++◌, [], ap, ◌∙◌}
use Rattle.run_model.specs.Program.{MayGive}
use Rattle.c_program.specs.Program.{next_of}
use Rattle.c_program.specs.View.{pure_program}
use Rattle.c_eval.proofs.RankLaws.{rank-gives}
use Rattle.c_eval.proofs.rank.EvalRankRankRun.give.Goals as goal

pub invariant_of-self-2 : goal.invariant_of-self-2
invariant_of-self-2 c =
    let replied : c.push.new.self.items ≡ c.self.inside.replies.items ++ c.args.reply.now ∷ [] = c.in_ok-push.ensures.items ∙ ap (λ kept. c.self.inside.replies.items ++ kept ∷ []) c.in_ok-kept.ensures in
    let may : MayGive (next_of (pure_program c.self.inside.program.now)) c.self.inside.rank.ranks c.self.inside.rank.number c.self.inside.replies.items c.args.reply.now = rw (← c.self.view_is) at c.requires.shape in
    rw replied (rank-gives (pure_program c.self.inside.program.now) c.self.inside.rank c.self.inside.replies.items c.args.reply.now _ c.self.inside.state c.self.inside.state c.self.invariant may)
