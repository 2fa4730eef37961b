use Rattle.std.proofs.Common.{◌≡◌, take}
use Rattle.std.specs.Prelude.{sum_by}
use Rattle.srr_entry.specs.declared.entry.Marked.{Marked}
use Rattle.plan_advice.specs.Costs.{ints_in_mark}
use Rattle.plan_advice.proofs.plans.ints_in_items.Given as goal

abbrev pub invariant-loop-item : goal.invariant-loop-item
invariant-loop-item l = l.total ≡ sum_by (λ (item : Marked). ints_in_mark item.mark) (take l.item-index l.items)
