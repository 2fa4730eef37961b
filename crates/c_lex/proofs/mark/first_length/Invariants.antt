use Rattle.std.proofs.Common.{◌≡◌, length, map}
use Rattle.c_lex.specs.Marks.{first_length}
use Rattle.c_lex.proofs.mark.first_length.Given as goal

abbrev pub invariant-loop-left : goal.invariant-loop-left
invariant-loop-left l = first_length (map (λ mark. mark.now) l.left) l.rest ≡ first_length (map (λ mark. mark.now) l.initial.left) l.rest

abbrev pub decreases-loop-left : goal.decreases-loop-left
decreases-loop-left l = length l.left
