use Rattle.std.proofs.Common.{arith}
use Rattle.std.proofs.lemmas.List.{replicate_more}
use Rattle.run_model.proofs.by_rank.no_events.Goals as goal

pub loop-preserved : goal.loop-preserved
loop-preserved c = grind (arith, replicate_more)
