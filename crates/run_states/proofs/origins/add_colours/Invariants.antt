use Rattle.std.proofs.Common.{◌≡◌, ◌++◌, length}
use Rattle.run_states.specs.inside.Origins.{colour_origins}
use Rattle.run_states.proofs.origins.add_colours.Given as goal

abbrev pub invariant-loop-rest : goal.invariant-loop-rest
invariant-loop-rest l =
    l.origins.items ++ colour_origins l.comm l.instance l.rest ≡ l.initial.origins.items ++ colour_origins l.comm l.instance l.initial.rest

abbrev pub decreases-loop-rest : goal.decreases-loop-rest
decreases-loop-rest l = length l.rest
