use Rattle.std.proofs.Common.{arith}
use Rattle.std.proofs.lemmas.List.{replicate_more}
use Rattle.srr_replay.proofs.kept.no_calls.Goals as goal

pub loop-run-preserved : goal.loop-run-preserved
loop-run-preserved c = grind (arith, replicate_more)
