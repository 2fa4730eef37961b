use Rattle.std.proofs.Common.{◌≡◌, ◌∷◌, []}
use Rattle.group_plan.specs.Plans.{group_of}
use Rattle.msg_races.specs.Listing.{lists_below}
use Rattle.run_drawing.proofs.draw.groups_of.Given as goal

abbrev pub invariant-loop-rank : goal.invariant-loop-rank
invariant-loop-rank l = l.groups ≡ lists_below (λ rank. group_of rank l.plan ∷ []) l.rank
