use Rattle.std.proofs.Common.{◌≡◌, ◌++◌, ℕ, ℤ, List, length, option_map}
use Rattle.run_model.specs.Numbers.{entered_by_all}
use Rattle.run_model.specs.Views.{view_of}
use Rattle.run_states.specs.inside.Origins.{if_entered}
use Rattle.run_states.proofs.origins.inputs_of.Given as goal

abbrev pub invariant-loop-rest : goal.invariant-loop-rest
invariant-loop-rest l =
    (n : ℕ) → option_map (λ (rest : List (List ℤ)). l.inputs ++ rest) (if_entered (entered_by_all n (view_of l.events) l.comm l.instance l.rest))
    ≡ if_entered (entered_by_all n (view_of l.events) l.comm l.instance l.members)

abbrev pub decreases-loop-rest : goal.decreases-loop-rest
decreases-loop-rest l = length l.rest
