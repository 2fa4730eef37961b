use Rattle.std.proofs.Common.{◌≡◌}
use Rattle.msg_races.specs.Listing.{lists_below}
use Rattle.run_drawing.specs.Choices.{choice_beside}
use Rattle.run_drawing.specs.inside.Scenes.{ArePast, basis_of}
use Rattle.run_drawing.proofs.choices.Skipped.choices.Given as goal

abbrev pub invariant-loop-sender : goal.invariant-loop-sender
invariant-loop-sender l = record {
  past : ArePast (basis_of l.scene) l.posted.place l.self;
  found : l.found ≡ lists_below (choice_beside (basis_of l.scene) l.posted l.at l.took) l.sender;
}
