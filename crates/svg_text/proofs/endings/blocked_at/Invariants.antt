use Rattle.std.proofs.Common.{◌≡◌, length}
use Rattle.svg_text.specs.Endings.{blocked_rank}
use Rattle.svg_text.proofs.endings.blocked_at.Given as goal

abbrev pub invariant-loop-rest : goal.invariant-loop-rest
invariant-loop-rest l = blocked_rank l.rest l.rank ≡ blocked_rank l.all l.rank

abbrev pub decreases-loop-rest : goal.decreases-loop-rest
decreases-loop-rest l = length l.rest
