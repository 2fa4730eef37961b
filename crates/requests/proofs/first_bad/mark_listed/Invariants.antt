use Rattle.std.proofs.Common.{length}
use Rattle.requests.proofs.Marking.{IsRead}
use Rattle.requests.proofs.first_bad.mark_listed.Given as goal

abbrev pub invariant-loop-rest : goal.invariant-loop-rest
invariant-loop-rest l = IsRead l.fn.row l.row l.starts l.rest l.at

abbrev pub decreases-loop-rest : goal.decreases-loop-rest
decreases-loop-rest l = length l.rest
