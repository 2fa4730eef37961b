use Rattle.std.proofs.Common.{◌≡◌, ◌≤◌, ◌+◌, ◌++◌, length}
use Rattle.run_model.specs.Views.{View, view_of}
use Rattle.srr_entry.specs.Known.{IsKnownOf}
use Rattle.plan_advice.specs.inside.Pieces.{ArePieces, ints_given, ints_in_pieces}
use Rattle.plan_advice.proofs.pieces.pieces_of.Given as goal

abbrev pub invariant-loop-rest : goal.invariant-loop-rest
invariant-loop-rest l = record {
  own : View;
  known : IsKnownOf l.owner.ranks own l.known;
  seen : view_of l.events l.owner.rank ≡ own ++ view_of l.rest l.owner.rank;
  pieces : ArePieces l.owner.ranks l.owner.rank own l.pieces;
  few : ints_in_pieces l.pieces + ints_given l.rest ≤ ints_given l.events;
}

abbrev pub decreases-loop-rest : goal.decreases-loop-rest
decreases-loop-rest l = length l.rest
