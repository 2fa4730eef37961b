use Rattle.std.proofs.Common.{◌≡◌, ◌+◌, ◌≤◌, ◌++◌, length}
use Rattle.trace_json.specs.JsonTexts.{flows_text}
use Rattle.trace_json.proofs.json.push_flows.Given as goal

abbrev pub invariant-loop-rest : goal.invariant-loop-rest
invariant-loop-rest l = record {
  few : l.number + length l.rest ≤ length l.receives;
  flows : l.out ++ flows_text l.groups l.number l.rest ≡ l.initial.out ++ flows_text l.groups 0 l.receives;
}

abbrev pub decreases-loop-rest : goal.decreases-loop-rest
decreases-loop-rest l = length l.rest
