use Rattle.std.proofs.Common.{◌≡◌, take}
use Rattle.std.specs.Prelude.{List, sum_by}
use Rattle.srr_entry.specs.declared.entry.Entry.{Entry}
use Rattle.plan_advice.specs.Costs.{ints_of_entry}
use Rattle.plan_advice.proofs.plans.ints_in_log.Given as goal

abbrev pub invariant-loop-entries : goal.invariant-loop-entries
invariant-loop-entries l = l.total ≡ sum_by (λ (entries : List Entry). sum_by ints_of_entry entries) (take l.entries-index l.log.lists)
