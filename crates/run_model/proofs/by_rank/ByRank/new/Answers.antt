use Rattle.run_model.proofs.HandedOut.{handed_first}
use Rattle.run_model.proofs.by_rank.ByRank.new.Goals as goal

pub loop-rest-init : goal.loop-rest-init
loop-rest-init c = rw (c.as_slice-rest.ensures.events, c.in_ok-ranks.ensures) (handed_first c.args.history.now.events)
