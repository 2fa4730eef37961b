use Rattle.std.proofs.Common.{subst, sym}
use Rattle.srr_entry.specs.declared.log.Log.{Log}
use Rattle.srr_replay.specs.Rounds.{IsReplayable}
use Rattle.bench_replay.proofs.ReplayableLemmas.{log_is_replayable}
use Rattle.bench_replay.proofs.whole.replay.Goals as goal

pub start_all-requires : goal.start_all-requires
start_all-requires c = (let P : Log → Type 0 = λ log. IsReplayable log in subst P (sym c.in_ok-log.ensures) (log_is_replayable c.args.messages c.requires))

pub replay_serial-requires-clause-log : goal.replay_serial-requires-clause-log
replay_serial-requires-clause-log c = (let P : Log → Type 0 = λ log. IsReplayable log in subst P (sym c.in_ok-log.ensures) (log_is_replayable c.args.messages c.requires))
