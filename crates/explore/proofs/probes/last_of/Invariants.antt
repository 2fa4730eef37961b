use Rattle.std.proofs.Common.{◌≡◌, None, length, option_map}
use Rattle.run_model.specs.Views.{view_of}
use Rattle.explore.specs.inside.Probes.{last_or}
use Rattle.explore.proofs.probes.last_of.Given as goal

abbrev pub invariant-loop-rest : goal.invariant-loop-rest
invariant-loop-rest l =
    last_or (option_map (λ event. (event.now.call, event.now.reply)) l.last) (view_of l.rest l.rank) ≡ last_or None (view_of l.events l.rank)

abbrev pub decreases-loop-rest : goal.decreases-loop-rest
decreases-loop-rest l = length l.rest
