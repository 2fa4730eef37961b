use Rattle.std.proofs.Common.{◌≡◌, ℕ, List, None, length, true}
use Rattle.run_model.specs.Views.{view_of}
use Rattle.replay_model.specs.Breaks.{break_marks}
use Rattle.replay_model.specs.Filling.{fill_marks, missing_of}
use Rattle.replay_model.specs.Fits.{marks_fit}
use Rattle.srr_replay.proofs.FillLemmas.{items_before}
use Rattle.srr_replay.proofs.fill.items.Given as goal

abbrev pub invariant-loop-rest : goal.invariant-loop-rest
invariant-loop-rest l = record {
  same : fill_marks l.seen.ranks (view_of l.seen.events) l.rank (view_of l.seen.events l.rank) l.starts l.marks
      ≡ items_before l.found (fill_marks l.seen.ranks (view_of l.seen.events) l.rank (view_of l.seen.events l.rank) l.starts l.rest);
  fit : (group : List ℕ) × (marks_fit l.seen.ranks group l.rank (view_of l.seen.events l.rank) l.starts l.rest ≡ true);
  there : missing_of (fill_marks l.seen.ranks (view_of l.seen.events) l.rank (view_of l.seen.events l.rank) l.starts l.rest) ≡ None;
  agrees : break_marks l.seen.ranks (view_of l.seen.events) l.rank (view_of l.seen.events l.rank) l.starts l.rest ≡ None;
}

abbrev pub decreases-loop-rest : goal.decreases-loop-rest
decreases-loop-rest l = length l.rest
