use Rattle.std.proofs.Common.{◌≡◌, ℕ, length, ◌-◌, ◌^◌}
use Rattle.run_model.specs.Lists.{IsPrefixOf}
use Rattle.srr_replay.specs.inside.Kept.{AreCallsOfRuns}
use Rattle.srr_replay.specs.Rounds.{RunAll, SameReplay, replay_rounds}
use Rattle.srr_replay.proofs.serial.exhaust.Given as goal

abbrev pub invariant-loop-replay : goal.invariant-loop-replay
invariant-loop-replay g l =
    record {
      same : SameReplay l.fn.replay l.replay;
      begins : IsPrefixOf l.fn.replay.events l.replay.events;
      runs : RunAll g.R.RankRun.standing l.replay.program l.replay.log l.replay.events l.runs;
      kept : AreCallsOfRuns g.P.Program.next g.R.RankRun.standing l.runs l.kept;
      counted : l.count ≡ length l.replay.events;
      so_far : (made : ℕ) × (l.replay.events ≡ replay_rounds (g.P.Program.next l.fn.replay.program) l.fn.replay.log l.fn.replay.stop made l.fn.replay.events);
    }

abbrev pub decreases-loop-replay : goal.decreases-loop-replay
decreases-loop-replay g l = 2 ^ 32 - l.count
