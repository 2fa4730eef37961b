use Rattle.std.proofs.Common.{◌≡◌, length}
use Rattle.std.specs.Map.{lookup}
use Rattle.msg_races.specs.declared.names.Name.{Name}
use Rattle.msg_races.specs.inside.Completions.{completion_after_items}
use Rattle.msg_races.specs.Names.{same_start}
use Rattle.msg_races.proofs.completions.Completions.add_items.Given as goal

abbrev pub invariant-loop-rest : goal.invariant-loop-rest
invariant-loop-rest l =
    (name : Name) → completion_after_items name l.at l.rank l.starts l.rest (lookup (same_start name) l.self) ≡ completion_after_items name l.at l.rank l.starts l.items (lookup (same_start name) l.initial.self)

abbrev pub decreases-loop-rest : goal.decreases-loop-rest
decreases-loop-rest l = length l.rest
