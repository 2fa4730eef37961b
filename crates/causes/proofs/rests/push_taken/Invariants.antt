use Rattle.std.proofs.Common.{◌≡◌, ◌++◌, length}
use Rattle.causes.specs.Steps.{given_by_items}
use Rattle.causes.proofs.rests.push_taken.Given as goal

abbrev pub invariant-loop-rest : goal.invariant-loop-rest
invariant-loop-rest l =
    l.found ++ given_by_items l.tables.ranks l.before l.me l.starts l.rest ≡ l.initial.found ++ given_by_items l.tables.ranks l.before l.me l.starts l.items

abbrev pub decreases-loop-rest : goal.decreases-loop-rest
decreases-loop-rest l = length l.rest
