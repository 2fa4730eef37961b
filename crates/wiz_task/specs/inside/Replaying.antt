-- The replay of a log.
use Rattle.c_program.specs.Tree.{Program}
use Rattle.c_program.specs.Program.{next_of, output_of, variables_of}
use Rattle.replay_model.specs.declared.replayed.Replayed.{Replayed}
use Rattle.replay_model.specs.Laws.{IsReplayOfEveryRun}
use Rattle.replay_model.specs.Replays.{Breakpoint}
use Rattle.replay_model.specs.Stands.{IsReplayed}
use Rattle.srr_entry.specs.declared.log.Log.{Log}

-- a whole replay of a log's group with a program, beside every run of the program with that log
pub record IsReplayBy (program : Program) (log : Log) (stop : Breakpoint) (replayed : Replayed) : Type 0 where
  pub replay : IsReplayed (next_of program) (output_of program) (variables_of program) log stop replayed
  pub runs : IsReplayOfEveryRun (next_of program) (output_of program) log stop replayed
