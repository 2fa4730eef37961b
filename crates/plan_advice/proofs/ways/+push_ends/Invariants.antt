use Rattle.plan_advice.proofs.ways.+push_ends.Given as goal

abbrev pub decreases-push_ends : goal.decreases-push_ends
decreases-push_ends l = l.end
