use Rattle.std.proofs.Common.{◌≡◌, length, arith}
use Rattle.mpi_call.proofs.MemberLemmas.{place_of_is}
use Rattle.mpi_call.proofs.members.place_of.Goals as goal

pub returns-then-member-rank-clause-value : goal.returns-then-member-rank-clause-value
returns-then-member-rank-clause-value c =
    place_of_is c.args.members.now c.args.rank c.loop-place.place (omega arith) c.loop-place.invariant (λ h. grind arith)

pub returns-clause-value : goal.returns-clause-value
returns-clause-value c =
    let all : c.loop-place.place ≡ length c.args.members.now = omega arith in
    place_of_is c.args.members.now c.args.rank (length c.args.members.now) (omega arith)
    (λ k h. c.loop-place.invariant k (omega arith)) (λ h. absurd (omega arith))
