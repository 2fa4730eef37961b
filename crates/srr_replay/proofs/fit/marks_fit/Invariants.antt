use Rattle.std.proofs.Common.{◌≡◌, length}
use Rattle.run_model.specs.Views.{view_of}
use Rattle.replay_model.specs.Fits.{marks_fit}
use Rattle.srr_replay.proofs.fit.marks_fit.Given as goal

abbrev pub invariant-loop-rest : goal.invariant-loop-rest
invariant-loop-rest l =
    marks_fit l.seen.ranks l.group l.rank (view_of l.seen.events l.rank) l.starts l.rest
    ≡ marks_fit l.seen.ranks l.group l.rank (view_of l.seen.events l.rank) l.starts l.marks

abbrev pub decreases-loop-rest : goal.decreases-loop-rest
decreases-loop-rest l = length l.rest
