use Rattle.std.proofs.Common.{◌∙◌, ap}
use Rattle.c_grammar.proofs.Viewed.{view-cell, view-whole}
use Rattle.c_scope.specs.Constants.{constant_meant}
use Rattle.c_scope.proofs.constant.place_constant.Goals as goal

pub returns-in-Whole : goal.returns-in-Whole
returns-in-Whole c = rw (c.in-Whole.is, view-whole) (c.constant_meant.ensures ∙ ap constant_meant c.meaning.ensures)

pub returns-in-Cell : goal.returns-in-Cell
returns-in-Cell c = rw (c.in-Cell.is, view-cell)
