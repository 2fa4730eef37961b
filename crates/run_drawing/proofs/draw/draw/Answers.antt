use Rattle.std.proofs.Common.{◌∙◌}
use Rattle.std.proofs.lemmas.Result.{IfOk-weaker}
use Rattle.run_drawing.proofs.SceneLemmas.{drawing_is}
use Rattle.run_drawing.proofs.draw.draw.Goals as goal

pub drawing_of-requires-clause-ranks : goal.drawing_of-requires-clause-ranks
drawing_of-requires-clause-ranks c = c.in_ok-scene.ensures.ranks ∙ c.n.ensures.ranks

pub returns : goal.returns
returns c =
    IfOk-weaker c.drawing_of.result _ _
    (λ drawing.
    drawing_is c.args.plan.now c.args.history.now.events c.in_ok-scene.scene drawing c.in_ok-scene.ensures.scene (c.in_ok-scene.ensures.ranks ∙ c.n.ensures.ranks)
    (c.in_ok-scene.ensures.events ∙ c.as_slice.ensures.events) c.tells.ensures)
    c.drawing_of.ensures
