use Rattle.std.proofs.Common.{◌≡◌, ◌++◌, ◌+◌, ◌≤◌, length}
use Rattle.run_text.specs.RecordTexts.{outputs_text}
use Rattle.run_text.proofs.recording.push_outputs.Given as goal

abbrev pub invariant-loop-rest : goal.invariant-loop-rest
invariant-loop-rest l =
    record {
      text : l.out ++ outputs_text l.rank l.rest ≡ l.initial.out ++ outputs_text 0 l.outputs;
      few : l.rank + length l.rest ≤ length l.outputs;
    }

abbrev pub decreases-loop-rest : goal.decreases-loop-rest
decreases-loop-rest l = length l.rest
