use Rattle.std.proofs.Common.{◌≡◌, true, ◌∙◌}
use Rattle.c_program.specs.View.{pure_program}
use Rattle.c_eval.proofs.RankLaws.{rank-printed}
use Rattle.c_eval.proofs.rank.EvalRankRankRun.printed.Goals as goal

pub returns : goal.returns
returns c =
    let asked : c.self.inside.asked ≡ true = rw (← c.self.view_is) at c.requires in
    rw (← c.self.view_is) (c.printed.ensures ∙ rank-printed (pure_program c.self.inside.program.now) c.self.inside.rank c.self.inside.replies.items _ c.self.inside.state c.self.invariant asked)
