use Rattle.std.proofs.Common.{◌≡◌, ◌++◌, length, map}
use Rattle.run_model.specs.Views.{starts_of}
use Rattle.view_diff.proofs.opens.starts_of.Given as goal

abbrev pub invariant-loop-rest : goal.invariant-loop-rest
invariant-loop-rest l =
    map (λ call. call.now) l.starts.items ++ starts_of (map (λ event. (event.now.call, event.now.reply)) l.rest)
    ≡ starts_of (map (λ event. (event.now.call, event.now.reply)) l.own)

abbrev pub decreases-loop-rest : goal.decreases-loop-rest
decreases-loop-rest l = length l.rest
