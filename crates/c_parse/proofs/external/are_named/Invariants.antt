use Rattle.std.proofs.Common.{◌≡◌, length, map}
use Rattle.c_grammar.specs.StmtView.{parameter_view}
use Rattle.c_grammar.specs.StmtGrammar.{are_named}
use Rattle.c_parse.proofs.external.are_named.Given as goal

abbrev pub invariant-loop-left : goal.invariant-loop-left
invariant-loop-left l =
    are_named (map (λ one. (one.comma, parameter_view one.item)) l.left) ≡ are_named (map (λ one. (one.comma, parameter_view one.item)) l.initial.left)

abbrev pub decreases-loop-left : goal.decreases-loop-left
decreases-loop-left l = length l.left
