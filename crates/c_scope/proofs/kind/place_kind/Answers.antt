use Rattle.std.proofs.Common.{◌∙◌, ap}
use Rattle.c_grammar.proofs.Viewed.{view-cell, view-whole}
use Rattle.c_scope.specs.Kinds.{cell_kind, whole_kind}
use Rattle.c_scope.proofs.kind.place_kind.Goals as goal

pub returns-in-Whole : goal.returns-in-Whole
returns-in-Whole c = rw (c.in-Whole.is, view-whole) (c.whole_kind.ensures ∙ ap whole_kind c.meaning.ensures)

pub returns-in-Cell : goal.returns-in-Cell
returns-in-Cell c = rw (c.in-Cell.is, view-cell) (c.cell_kind.ensures ∙ ap cell_kind c.meaning-in-Cell.ensures)
