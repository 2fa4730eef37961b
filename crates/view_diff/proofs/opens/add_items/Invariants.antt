use Rattle.std.proofs.Common.{◌≡◌, ◌++◌, length, map}
use Rattle.view_diff.specs.Opens.{names_in}
use Rattle.view_diff.proofs.opens.add_items.Given as goal

abbrev pub invariant-loop-rest : goal.invariant-loop-rest
invariant-loop-rest l =
    l.names ++ names_in (map (λ call. call.now) l.starts) l.listed l.rest
    ≡ l.initial.names ++ names_in (map (λ call. call.now) l.starts) l.listed l.items

abbrev pub decreases-loop-rest : goal.decreases-loop-rest
decreases-loop-rest l = length l.rest
