use Rattle.std.proofs.Common.{◌≡◌, ◌<◌, ℕ, length, take, true, false, slice_index}
use Rattle.run_model.specs.Lists.{IsPrefixOf}
use Rattle.srr_replay.specs.inside.Kept.{AreCallsOfRuns}
use Rattle.srr_replay.specs.Rounds.{HasNoStep, RunAll, SameReplay, replay_attempts}
use Rattle.srr_replay.proofs.serial.round.Given as goal

abbrev pub invariant-loop-k : goal.invariant-loop-k
invariant-loop-k g l =
    record {
      same : SameReplay l.fn.replay l.replay;
      runs : RunAll g.R.RankRun.standing l.replay.program l.replay.log l.replay.events l.runs;
      kept : AreCallsOfRuns g.P.Program.next g.R.RankRun.standing l.runs l.kept;
      begins : IsPrefixOf l.fn.replay.events l.replay.events;
      grown : l.moved ≡ true → length l.fn.replay.events < length l.replay.events;
      still : l.moved ≡ false → l.replay.events ≡ l.fn.replay.events;
      rests : l.moved ≡ false → (j : ℕ) → j < l.k
          → HasNoStep (g.P.Program.next l.fn.replay.program) l.fn.replay.log l.fn.replay.stop l.replay.events (slice_index l.fn.replay.log.group j);
      goes : l.replay.events ≡ replay_attempts (g.P.Program.next l.fn.replay.program) l.fn.replay.log l.fn.replay.stop l.fn.replay.events (take l.k l.fn.replay.log.group);
    }
