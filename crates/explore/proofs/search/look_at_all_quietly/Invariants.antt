use Rattle.std.proofs.Common.{List, take}
use Rattle.mpi_call.specs.Lists.{IsIn}
use Rattle.picked_runs.specs.declared.turn.Turn.{Turn}
use Rattle.explore.specs.Explored.{events_of_turns}
use Rattle.explore.specs.QuietFirst.{ArePassed, HasLookedAtQuietly}
use Rattle.explore.specs.inside.RaceFlags.{races_of}
use Rattle.explore.specs.Searching.{WentOn, question_of}
use Rattle.explore.proofs.search.look_at_all_quietly.Given as goal

abbrev pub invariant-loop-at : goal.invariant-loop-at
invariant-loop-at g l =
    record {
      went : WentOn (g.P.Program.next l.setting.program.now) (g.P.Program.output l.setting.program.now) l.setting.ranks (events_of_turns (g.P.Program.next l.setting.program.now) l.setting.ranks l.setting.under.now) l.fn.met l.met;
      looked : (turns : List Turn) → IsIn turns (take l.at l.met.states) → HasLookedAtQuietly (question_of (g.P.Program.next l.setting.program.now) (g.P.Program.output l.setting.program.now) l.setting.ranks l.bounds.polls) (races_of l.races) l.met turns;
      passed : ArePassed (question_of (g.P.Program.next l.setting.program.now) (g.P.Program.output l.setting.program.now) l.setting.ranks l.bounds.polls) (races_of l.races) l.met l.passed;
    }
