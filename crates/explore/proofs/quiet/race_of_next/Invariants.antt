use Rattle.explore.specs.Courses.{IsCourse}
use Rattle.explore.specs.Explored.{events_of_turns}
use Rattle.explore.specs.QuietFirst.{AreReckonedBelow}
use Rattle.explore.specs.inside.RaceFlags.{races_of}
use Rattle.explore.proofs.quiet.race_of_next.Given as goal

abbrev pub invariant-loop-rank : goal.invariant-loop-rank
invariant-loop-rank g l =
    record {
      course : IsCourse g.R.RankRun.standing l.setting.program.now l.setting.ranks (events_of_turns (g.P.Program.next l.setting.program.now) l.setting.ranks l.turns) l.course.machine l.course.runs.items;
      reckoned : AreReckonedBelow (g.P.Program.next l.setting.program.now) l.setting.ranks (races_of l.races) (events_of_turns (g.P.Program.next l.setting.program.now) l.setting.ranks l.turns) l.rank;
    }
