use Rattle.std.proofs.Common.{◌≡◌, ◌++◌, ◌∷◌, [], false}
use Rattle.picked_runs.specs.declared.turn.Turn.{Turn}
use Rattle.explore.specs.declared.quiet.Look.TheVariants.{Followed}
use Rattle.explore.specs.Courses.{IsCourse}
use Rattle.explore.specs.Explored.{events_of_turns}
use Rattle.explore.specs.QuietFirst.{ArePassed, HasLookedAtQuietly, is_hindered}
use Rattle.explore.specs.inside.RaceFlags.{races_of}
use Rattle.explore.specs.Searching.{WentOn, question_of}
use Rattle.explore.proofs.quiet.look_along.Given as goal

abbrev pub invariant-loop : goal.invariant-loop
invariant-loop g l =
    record {
      went : WentOn (g.P.Program.next l.setting.program.now) (g.P.Program.output l.setting.program.now) l.setting.ranks (events_of_turns (g.P.Program.next l.setting.program.now) l.setting.ranks l.setting.under.now) l.fn.met l.met;
      looked : is_hindered l.look ≡ false → HasLookedAtQuietly (question_of (g.P.Program.next l.setting.program.now) (g.P.Program.output l.setting.program.now) l.setting.ranks l.bounds.polls) (races_of l.races) l.met l.fn.turns;
      along : (turn : Turn) → l.look ≡ Followed turn → IsCourse g.R.RankRun.standing l.setting.program.now l.setting.ranks (events_of_turns (g.P.Program.next l.setting.program.now) l.setting.ranks (l.turns ++ turn ∷ [])) l.course.machine l.course.runs.items;
      passed : ArePassed (question_of (g.P.Program.next l.setting.program.now) (g.P.Program.output l.setting.program.now) l.setting.ranks l.bounds.polls) (races_of l.races) l.met l.passed;
    }
