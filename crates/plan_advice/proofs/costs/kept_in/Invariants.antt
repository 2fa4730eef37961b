use Rattle.std.proofs.Common.{◌≡◌, ◌≤◌, take}
use Rattle.plan_advice.specs.inside.Pieces.{ints_in_pieces, kept_in}
use Rattle.plan_advice.proofs.costs.kept_in.Given as goal

abbrev pub invariant-loop-piece : goal.invariant-loop-piece
invariant-loop-piece l = record {
  kept : l.total ≡ kept_in l.begin l.end (take l.piece-index l.pieces);
  few : l.total ≤ ints_in_pieces (take l.piece-index l.pieces);
}
