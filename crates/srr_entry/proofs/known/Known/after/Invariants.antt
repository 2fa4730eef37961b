use Rattle.std.proofs.Common.{◌≡◌, ◌++◌, length}
use Rattle.run_model.specs.Views.{View}
use Rattle.srr_entry.specs.Known.{IsKnownOf}
use Rattle.srr_entry.proofs.known.Known.after.Given as goal

abbrev pub invariant-loop-rest : goal.invariant-loop-rest
invariant-loop-rest l = record {
  own : View;
  known : IsKnownOf l.ranks own l.known;
  all : l.seen ≡ own ++ l.rest;
}

abbrev pub decreases-loop-rest : goal.decreases-loop-rest
decreases-loop-rest l = length l.rest
