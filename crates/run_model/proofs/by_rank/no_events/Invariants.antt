use Rattle.std.proofs.Common.{◌≡◌, [], replicate}
use Rattle.run_model.proofs.by_rank.no_events.Given as goal

abbrev pub invariant-loop : goal.invariant-loop
invariant-loop l = l.ranks.items ≡ replicate l.counter []
