use Rattle.std.proofs.Common.{◌≡◌, ◌≤◌, None, length, take}
use Rattle.run_model.specs.Views.{view_of}
use Rattle.replay_model.specs.Filling.{fill_marks, missing_of}
use Rattle.srr_replay.proofs.missing.missing_in_marks.Given as goal

abbrev pub invariant-loop-k : goal.invariant-loop-k
invariant-loop-k l = record {
  within : l.k ≤ length l.marks;
  there : missing_of (fill_marks l.seen.ranks (view_of l.seen.events) l.rank (view_of l.seen.events l.rank) l.starts (take l.k l.marks)) ≡ None;
}
