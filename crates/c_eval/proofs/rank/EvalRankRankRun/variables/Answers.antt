use Rattle.std.proofs.Common.{◌≡◌, Some, true}
use Rattle.c_program.specs.Courses.{listed_of}
use Rattle.c_program.specs.Program.{next_of, variables_of}
use Rattle.c_program.specs.View.{pure_program}
use Rattle.c_eval.proofs.RankLaws.{rank-variables}
use Rattle.c_eval.proofs.rank.EvalRankRankRun.variables.Goals as goal

pub returns : goal.returns
returns c =
    let asked : c.self.inside.asked ≡ true = rw (← c.self.view_is) at c.requires.asked in
    let live : next_of (pure_program c.self.inside.program.now) c.self.inside.rank.ranks c.self.inside.rank.number c.self.inside.replies.items ≡ Some c.requires.live.0 = rw (← c.self.view_is) at c.requires.live.1 in
    let same : listed_of c.self.inside.state c.self.inside.state.slots ≡ variables_of (pure_program c.self.inside.program.now) c.self.inside.rank.ranks c.self.inside.rank.number c.self.inside.replies.items =
    rank-variables (pure_program c.self.inside.program.now) c.self.inside.rank c.self.inside.replies.items c.self.inside.asked c.self.inside.state c.requires.live.0 c.self.invariant asked live in
    rw (← c.self.view_is, ← same) c.variables.ensures
