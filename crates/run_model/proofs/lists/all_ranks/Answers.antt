use Rattle.std.proofs.Common.{◌∙◌, sym, ◌++◌, ◌∷◌, [], ap}
use Rattle.run_model.proofs.CommunicatorLaws.{world-last}
use Rattle.run_model.proofs.lists.all_ranks.Goals as goal

pub loop-rank-preserved : goal.loop-rank-preserved
loop-rank-preserved c =
    c.in_ok-push.ensures.ok
    ∙ ap (λ ranks. ranks ++ c.loop-rank.rank ∷ []) c.loop-rank.invariant
    ∙ sym (world-last c.loop-rank.rank)
