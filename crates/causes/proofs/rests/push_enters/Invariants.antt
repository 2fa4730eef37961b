use Rattle.std.proofs.Common.{◌≡◌, ◌++◌, List, length}
use Rattle.mpi_call.specs.Needs.{needs}
use Rattle.run_model.specs.declared.event.Event.{Event}
use Rattle.causes.specs.Beside.{AreTables}
use Rattle.causes.specs.Steps.{needed_enters}
use Rattle.causes.proofs.rests.push_enters.Given as goal

abbrev pub invariant-loop-rest : goal.invariant-loop-rest
invariant-loop-rest l =
    (before : List Event) → AreTables before l.tables
    → l.found ++ needed_enters before l.comm l.instance (needs l.enter l.members l.me) l.rest ≡ l.initial.found ++ needed_enters before l.comm l.instance (needs l.enter l.members l.me) l.members

abbrev pub decreases-loop-rest : goal.decreases-loop-rest
decreases-loop-rest l = length l.rest
