use Rattle.std.proofs.Common.{ℕ, List, length}
use Rattle.run_model.specs.Communicators.{made_in_items}
use Rattle.causes.specs.declared.key.Key.{Key}
use Rattle.causes.specs.Tables.{Learns}
use Rattle.causes.proofs.known.KnownMembers.add_items.Given as goal

abbrev pub invariant-loop-rest : goal.invariant-loop-rest
invariant-loop-rest l =
    (new : List (Key × List ℕ)) → Learns l.rank (λ comm. made_in_items comm l.rest) l.self new → Learns l.rank (λ comm. made_in_items comm l.items) l.initial.self new

abbrev pub decreases-loop-rest : goal.decreases-loop-rest
decreases-loop-rest l = length l.rest
