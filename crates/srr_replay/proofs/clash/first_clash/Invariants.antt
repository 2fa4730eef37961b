use Rattle.std.proofs.Common.{◌≡◌, length}
use Rattle.mpi_call.specs.Calls.{comm_of}
use Rattle.mpi_call.specs.Collectives.{needs}
use Rattle.run_model.specs.Communicators.{enter_at}
use Rattle.run_model.specs.Views.{view_of}
use Rattle.replay_model.specs.Breaks.{break_members}
use Rattle.srr_entry.proofs.MemberLemmas.{AreAmong}
use Rattle.srr_replay.proofs.clash.first_clash.Given as goal

abbrev pub invariant-loop-rest : goal.invariant-loop-rest
invariant-loop-rest l = record {
  same : break_members l.call l.members (needs l.call l.members l.rank) (λ m. enter_at l.seen.ranks (view_of l.seen.events m) (comm_of l.call) l.instance) l.rest
      ≡ break_members l.call l.members (needs l.call l.members l.rank) (λ m. enter_at l.seen.ranks (view_of l.seen.events m) (comm_of l.call) l.instance) l.members;
  among : AreAmong l.rest l.members;
}

abbrev pub decreases-loop-rest : goal.decreases-loop-rest
decreases-loop-rest l = length l.rest
