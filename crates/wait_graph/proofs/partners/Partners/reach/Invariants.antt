use Rattle.std.proofs.Common.{◌≡◌, ◌+◌, ◌-◌, length}
use Rattle.msg_races.specs.declared.names.Name.{Name}
use Rattle.wait_graph.specs.Partners.{is_paired_in}
use Rattle.wait_graph.proofs.partners.Partners.reach.Given as goal

abbrev pub invariant-loop-self : goal.invariant-loop-self
invariant-loop-self l = (other : Name) → is_paired_in l.self-inside.ranks.items other ≡ is_paired_in l.initial.self-inside.ranks.items other

abbrev pub decreases-loop-self : goal.decreases-loop-self
decreases-loop-self l = l.rank + 1 - length l.self-inside.ranks.items
