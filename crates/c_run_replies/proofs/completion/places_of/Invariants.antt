use Rattle.std.proofs.Common.{◌≡◌, ◌++◌, drop}
use Rattle.c_program.specs.Performing.{handle_places}
use Rattle.c_run_replies.proofs.completion.places_of.Given as goal

abbrev pub invariant-loop-item : goal.invariant-loop-item
invariant-loop-item l = handle_places l.active l.items ≡ l.places.items ++ handle_places l.active (drop l.item-index l.items)
