use Rattle.explore.specs.Courses.{IsCourse}
use Rattle.explore.specs.Explored.{events_of_turns}
use Rattle.explore.specs.Searching.{HasTriedPicks, IsIndexBelow, WentOn, question_of}
use Rattle.explore.proofs.tries.try_indices.Given as goal

abbrev pub invariant-loop-index : goal.invariant-loop-index
invariant-loop-index g l =
    record {
      course : IsCourse g.R.RankRun.standing l.setting.program.now l.setting.ranks (events_of_turns (g.P.Program.next l.setting.program.now) l.setting.ranks l.turns) l.course.machine l.course.runs.items;
      went : WentOn (g.P.Program.next l.setting.program.now) (g.P.Program.output l.setting.program.now) l.setting.ranks (events_of_turns (g.P.Program.next l.setting.program.now) l.setting.ranks l.setting.under.now) l.fn.met l.met;
      tried : HasTriedPicks (question_of (g.P.Program.next l.setting.program.now) (g.P.Program.output l.setting.program.now) l.setting.ranks l.bounds.polls) l.met (events_of_turns (g.P.Program.next l.setting.program.now) l.setting.ranks l.turns) l.rank (IsIndexBelow l.index) l.made;
    }
