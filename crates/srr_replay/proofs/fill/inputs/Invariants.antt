use Rattle.std.proofs.Common.{◌≡◌, None, length}
use Rattle.mpi_call.specs.Calls.{comm_of}
use Rattle.mpi_call.specs.Collectives.{needs}
use Rattle.run_model.specs.Communicators.{enter_at}
use Rattle.run_model.specs.Inputs.{gather}
use Rattle.run_model.specs.Views.{view_of}
use Rattle.replay_model.specs.Filling.{absent_of}
use Rattle.srr_replay.proofs.FillLemmas.{inputs_before}
use Rattle.srr_entry.proofs.MemberLemmas.{AreAmong}
use Rattle.srr_replay.proofs.fill.inputs.Given as goal

abbrev pub invariant-loop-rest : goal.invariant-loop-rest
invariant-loop-rest l = record {
  same : gather (needs l.call l.members l.rank) (λ m. enter_at l.seen.ranks (view_of l.seen.events m) (comm_of l.call) l.instance) l.members
      ≡ inputs_before l.found (gather (needs l.call l.members l.rank) (λ m. enter_at l.seen.ranks (view_of l.seen.events m) (comm_of l.call) l.instance) l.rest);
  there : absent_of (gather (needs l.call l.members l.rank) (λ m. enter_at l.seen.ranks (view_of l.seen.events m) (comm_of l.call) l.instance) l.rest) ≡ None;
  among : AreAmong l.rest l.members;
}

abbrev pub decreases-loop-rest : goal.decreases-loop-rest
decreases-loop-rest l = length l.rest
