use Rattle.wiz_runs.proofs.RaceLemmas.{others_made}
use Rattle.wiz_runs.proofs.commands.races.others_are_recorded.Goals as goal

pub returns : goal.returns
returns c =
    others_made c.args.ready.now c.args.recording.now c.n.result c.requires c.n.ensures.ranks c.others_are_taken.ensures.taken c.others_are_taken.ensures.turns
