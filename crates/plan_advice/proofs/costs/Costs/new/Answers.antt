use Rattle.run_model.proofs.MemberLists.{AreMembers-world}
use Rattle.plan_advice.proofs.costs.Costs.new.Goals as goal

pub pieces_of-requires : goal.pieces_of-requires
pieces_of-requires c =
    rw c.as_slice.ensures.events (c.requires.views c.loop-rank.rank (AreMembers-world c.args.n c.loop-rank.rank c.loop-rank-test.true).has_me)
