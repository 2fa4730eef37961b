use Rattle.std.proofs.Common.{◌≡◌, ◌+◌, ◌-◌, ℕ, length}
use Rattle.wait_graph.specs.Partners.{is_marked}
use Rattle.wait_graph.proofs.partners.Marks.reach.Given as goal

abbrev pub invariant-loop-self : goal.invariant-loop-self
invariant-loop-self l = (other : ℕ) → is_marked l.self-inside.values.items other ≡ is_marked l.initial.self-inside.values.items other

abbrev pub decreases-loop-self : goal.decreases-loop-self
decreases-loop-self l = l.start + 1 - length l.self-inside.values.items
