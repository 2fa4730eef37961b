use Rattle.std.proofs.Common.{◌≡◌, length, slice_get}
use Rattle.run_model.specs.Views.{view_of}
use Rattle.run_states.specs.inside.Origins.{enter_calls_on}
use Rattle.run_states.proofs.origins.entered.Given as goal

abbrev pub invariant-loop-rest : goal.invariant-loop-rest
invariant-loop-rest l = slice_get (enter_calls_on l.comm (view_of l.rest l.rank)) l.left ≡ slice_get (enter_calls_on l.comm (view_of l.events l.rank)) l.instance

abbrev pub decreases-loop-rest : goal.decreases-loop-rest
decreases-loop-rest l = length l.rest
