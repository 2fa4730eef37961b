use Rattle.explore.specs.Courses.{IsCourse}
use Rattle.explore.specs.Explored.{events_of_turns}
use Rattle.explore.specs.Searching.{WentOn}
use Rattle.explore.proofs.quiet.follow_quiet.Given as goal

abbrev pub invariant-loop-rank : goal.invariant-loop-rank
invariant-loop-rank g l =
    record {
      course : IsCourse g.R.RankRun.standing l.setting.program.now l.setting.ranks (events_of_turns (g.P.Program.next l.setting.program.now) l.setting.ranks l.turns) l.course.machine l.course.runs.items;
      went : WentOn (g.P.Program.next l.setting.program.now) (g.P.Program.output l.setting.program.now) l.setting.ranks (events_of_turns (g.P.Program.next l.setting.program.now) l.setting.ranks l.setting.under.now) l.fn.met l.met;
    }
