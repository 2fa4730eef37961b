use Rattle.std.proofs.Common.{take}
use Rattle.msg_races.specs.Ways.{AreSends}
use Rattle.run_drawing.proofs.scene.sends_of.Given as goal

abbrev pub invariant-loop-at : goal.invariant-loop-at
invariant-loop-at l = AreSends (take l.at l.events) l.sends
