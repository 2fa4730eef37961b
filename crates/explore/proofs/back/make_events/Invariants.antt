use Rattle.std.proofs.Common.{◌≡◌, take}
use Rattle.explore.proofs.back.make_events.Given as goal

abbrev pub invariant-loop-at : goal.invariant-loop-at
invariant-loop-at g l =
    record {
      program : l.machine.program ≡ l.fn.machine.program;
      ranks : l.machine.ranks ≡ l.fn.machine.ranks;
      made : l.machine.events ≡ take l.at l.history.events;
    }
