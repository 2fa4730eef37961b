use Rattle.std.proofs.Common.{◌≡◌, Some, map, take}
use Rattle.srr_replay.specs.Rounds.{RunAll}
use Rattle.replay_model.specs.Stands.{stand_of}
use Rattle.srr_entry.specs.Outputs.{printed_of}
use Rattle.srr_replay.proofs.serial.ends_of.Given as goal

abbrev pub invariant-loop-k : goal.invariant-loop-k
invariant-loop-k g l =
    record {
      replay : l.replay ≡ l.fn.replay;
      runs : RunAll g.R.RankRun.standing l.fn.replay.program l.fn.replay.log l.fn.replay.events l.runs;
      outputs : l.ends.outputs ≡ map (printed_of (g.P.Program.output l.fn.replay.program) l.fn.replay.log.ranks l.fn.replay.events) (take l.k l.fn.replay.log.group);
      stands : map Some l.ends.stands ≡ map (stand_of (g.P.Program.next l.fn.replay.program) (g.P.Program.variables l.fn.replay.program) l.fn.replay.log l.fn.replay.stop l.fn.replay.events) (take l.k l.fn.replay.log.group);
    }
