use Rattle.std.proofs.Common.{◌≡◌, ◌&&◌, length, ℕ}
use Rattle.mpi_call.specs.Needs.{needs}
use Rattle.srr_entry.specs.Entries.{all_within}
use Rattle.srr_entry.proofs.MemberLemmas.{AreAmong}
use Rattle.plan_advice.specs.inside.Pieces.{HasRank, block_ranks, is_within}
use Rattle.plan_advice.proofs.span.needed_span.Given as goal

abbrev pub invariant-loop-rest : goal.invariant-loop-rest
invariant-loop-rest l = record {
  same : (begin end : ℕ) → HasRank l.rank begin end → all_within (block_ranks begin end) (needs l.call l.members l.rank) l.members
      ≡ (is_within begin end l.span.least l.span.greatest && all_within (block_ranks begin end) (needs l.call l.members l.rank) l.rest);
  among : AreAmong l.rest l.members;
}

abbrev pub decreases-loop-rest : goal.decreases-loop-rest
decreases-loop-rest l = length l.rest
