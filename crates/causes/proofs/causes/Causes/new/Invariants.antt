use Rattle.std.proofs.Common.{take}
use Rattle.causes.specs.inside.Seen.{IsSeenByCauses}
use Rattle.causes.proofs.causes.Causes.new.Given as goal

abbrev pub invariant-loop-at : goal.invariant-loop-at
invariant-loop-at l = IsSeenByCauses l.ranks (take l.at l.events) l.seen
