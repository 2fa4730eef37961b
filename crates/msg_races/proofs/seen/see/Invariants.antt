use Rattle.std.proofs.Common.{take}
use Rattle.msg_races.specs.inside.Completions.{AreCompletions}
use Rattle.msg_races.specs.Ways.{AreSends}
use Rattle.msg_races.proofs.seen.see.Given as goal

abbrev pub invariant-loop-at : goal.invariant-loop-at
invariant-loop-at l = record {
  sends : AreSends (take l.at l.events) l.sends;
  completions : AreCompletions (take l.at l.events) l.completions;
}
