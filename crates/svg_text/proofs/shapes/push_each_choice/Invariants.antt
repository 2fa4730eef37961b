use Rattle.std.proofs.Common.{◌≡◌, ◌++◌, flat_map, length}
use Rattle.svg_text.specs.declared.grid.Grid.TheVariants.{Wide}
use Rattle.svg_text.specs.Shapes.{choice_text}
use Rattle.svg_text.proofs.shapes.push_each_choice.Given as goal

abbrev pub invariant-loop-rest : goal.invariant-loop-rest
invariant-loop-rest l = l.out ++ flat_map (choice_text Wide l.rank l.column) l.rest ≡ l.initial.out ++ flat_map (choice_text Wide l.rank l.column) l.choices

abbrev pub decreases-loop-rest : goal.decreases-loop-rest
decreases-loop-rest l = length l.rest
