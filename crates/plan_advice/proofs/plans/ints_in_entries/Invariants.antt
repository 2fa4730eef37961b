use Rattle.std.proofs.Common.{◌≡◌, take}
use Rattle.std.specs.Prelude.{sum_by}
use Rattle.plan_advice.specs.Costs.{ints_of_entry}
use Rattle.plan_advice.proofs.plans.ints_in_entries.Given as goal

abbrev pub invariant-loop-entry : goal.invariant-loop-entry
invariant-loop-entry l = l.total ≡ sum_by ints_of_entry (take l.entry-index l.entries)
