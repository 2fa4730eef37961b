use Rattle.std.proofs.Common.{◌≡◌, length}
use Rattle.std.specs.List.{list_all}
use Rattle.run_model.specs.Shape.{can_take}
use Rattle.run_model.specs.Views.{view_of}
use Rattle.srr_replay.proofs.fit.are_open.Given as goal

abbrev pub invariant-loop-rest : goal.invariant-loop-rest
invariant-loop-rest l = list_all (λ k. can_take (view_of l.seen.events l.rank) k) l.rest ≡ list_all (λ k. can_take (view_of l.seen.events l.rank) k) l.starts

abbrev pub decreases-loop-rest : goal.decreases-loop-rest
decreases-loop-rest l = length l.rest
