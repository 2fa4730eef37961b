use Rattle.std.proofs.Common.{◌≡◌, length, max}
use Rattle.trace_json.specs.JsonTexts.{last_group}
use Rattle.trace_json.proofs.json.last_group.Given as goal

abbrev pub invariant-loop-rest : goal.invariant-loop-rest
invariant-loop-rest l = max l.last (last_group l.rest) ≡ last_group l.groups

abbrev pub decreases-loop-rest : goal.decreases-loop-rest
decreases-loop-rest l = length l.rest
