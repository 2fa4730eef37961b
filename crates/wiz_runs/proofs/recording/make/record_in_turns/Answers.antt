use Rattle.wiz_runs.proofs.RunInputs.{turns_below}
use Rattle.wiz_runs.proofs.recording.make.record_in_turns.Goals as goal

pub record_serial-requires-clause-turns : goal.record_serial-requires-clause-turns
record_serial-requires-clause-turns c =
    rw c.as_slice-2.ensures (turns_below _ c.requires.0.order c.args.ready.now.turns c.requires.1.prepared.are_turns)
