use Rattle.wiz_runs.proofs.RecordingLemmas.{ranks_below}
use Rattle.wiz_runs.proofs.commands.races.races_of.Goals as goal

pub races-requires : goal.races-requires
races-requires c = record { ranks = rw c.n.ensures.ranks (ranks_below _ _ _ c.requires) }
