use Rattle.std.proofs.Common.{◌≡◌, ◌++◌, ◌+◌, ◌≤◌, length, map}
use Rattle.view_diff.specs.inside.Marking.{unmarked_from}
use Rattle.view_diff.proofs.opens.unmarked.Given as goal

abbrev pub invariant-loop-rest : goal.invariant-loop-rest
invariant-loop-rest l =
    record {
      found :
          map (λ start. (start.number, start.call.now)) l.found.items ++ unmarked_from l.number (map (λ call. call.now) l.rest) l.left
          ≡ unmarked_from 0 (map (λ call. call.now) l.starts) l.marks;
      few : l.number + length l.rest ≤ length l.starts;
    }

abbrev pub decreases-loop-rest : goal.decreases-loop-rest
decreases-loop-rest l = length l.rest
