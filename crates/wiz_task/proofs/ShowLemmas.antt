-- What a replay shows of the runs of a text's programs.
use Rattle.std.proofs.Common.{◌≡◌, ℕ, List, subst}
use Rattle.c_program.specs.Tree.{Program}
use Rattle.c_program.specs.Program.{next_of, output_of}
use Rattle.c_types.specs.Checks.{IsProgramOf}
use Rattle.replay_model.specs.declared.replayed.Replayed.{Replayed}
use Rattle.replay_model.specs.Laws.{IsRunWith, ReplaysInEveryOrder, ShowsInEveryOrder}
use Rattle.replay_model.specs.Replays.{Breakpoint}
use Rattle.run_model.specs.declared.event.Event.{Event}
use Rattle.srr_entry.specs.declared.log.Log.{Log}
use Rattle.wiz_task.specs.Replayings.{IsReplayOf, ShowsRunsOf}
use Rattle.wiz_task.specs.inside.Replaying.{IsReplayBy}

-- a replay by a program, what the law of every order says of that program, and that it is the one program of its text
pub shows_by : (text : List ℕ) (program : Program) (log : Log) (stop : Breakpoint) (replayed : Replayed) → IsProgramOf text program → IsReplayBy program log stop replayed
    → ((other : Program) → IsProgramOf text other → program ≡ other)
    → ((run : List Event) → IsRunWith (next_of program) log run → ShowsInEveryOrder (next_of program) (output_of program) log run)
    → ((run : List Event) → IsRunWith (next_of program) log run → ReplaysInEveryOrder (next_of program) log)
    → IsReplayOf text log stop replayed
shows_by text program log stop replayed is_program is same orders replays = record {
  program = program;
  is_program = is_program;
  replay = is.replay;
  shows = λ other is_other.
      subst (λ (one : Program). ShowsRunsOf one log stop replayed) (same other is_other) (record {
        whole = record { replays = is.replay.replays; exhausted = is.replay.exhausted };
        runs = is.runs;
        orders = orders;
        replays = replays;
      });
}
