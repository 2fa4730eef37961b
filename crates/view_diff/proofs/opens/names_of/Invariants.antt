use Rattle.std.proofs.Common.{◌≡◌, ◌++◌, flat_map, length, map}
use Rattle.view_diff.specs.Opens.{names_by}
use Rattle.view_diff.proofs.opens.names_of.Given as goal

abbrev pub invariant-loop-rest : goal.invariant-loop-rest
invariant-loop-rest l =
    l.names ++ flat_map (names_by (map (λ call. call.now) l.starts)) (map (λ event. (event.now.call, event.now.reply)) l.rest)
    ≡ flat_map (names_by (map (λ call. call.now) l.starts)) (map (λ event. (event.now.call, event.now.reply)) l.events)

abbrev pub decreases-loop-rest : goal.decreases-loop-rest
decreases-loop-rest l = length l.rest
