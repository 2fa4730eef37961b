use Rattle.wiz_runs.proofs.RecordingLemmas.{ranks_below}
use Rattle.wiz_runs.proofs.commands.picture.picture_of.Goals as goal

pub draw-requires : goal.draw-requires
draw-requires c = ranks_below _ _ _ c.requires

pub drawing_text-requires : goal.drawing_text-requires
drawing_text-requires c = rw c.n.ensures.ranks (ranks_below _ _ _ c.requires)
