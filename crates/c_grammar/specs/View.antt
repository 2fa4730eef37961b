-- A tree without where it lies in memory.
use Rattle.std.specs.Prelude.{List, [], ◌∷◌}
use Rattle.c_grammar.specs.declared.terminal.Symbol.{Symbol}
use Rattle.c_grammar.specs.declared.terminal.Span.{Span}
use Rattle.c_grammar.specs.declared.tree.Expr.{Expr}
use Rattle.c_grammar.specs.declared.tree.Place.{Place}
use Rattle.c_grammar.specs.declared.tree.Link.{Link}
use Rattle.c_grammar.specs.declared.tree.Expr.TheOpen as o
use Rattle.c_grammar.specs.declared.tree.Expr.TheFolds.{fold-Expr, fold-Place}
use Rattle.c_grammar.specs.Tree as t

-- an operator and its operand
pub record Piece : Type 0 where
  pub operator : Symbol
  pub at : Span
  pub operand : t.Expr

-- links from a list of pieces
abbrev pub links_from : List Piece → t.Links
links_from [] = t.no_link
links_from (p ∷ ps) = t.link p.operator p.at p.operand (links_from ps)

-- of one layer of an expression
abbrev pub expr_step : o.Expr-F t.Expr t.Place Piece → t.Expr
expr_step (o.Number at) = t.number at
expr_step (o.Read place) = t.read place
expr_step (o.Field place dot name) = t.field place dot name
expr_step (o.Paren opening inner closing) = t.paren opening inner.value closing
expr_step (o.Unary sign at operand) = t.unary sign at operand.value
expr_step (o.Chain level first links) = t.chain level first.value (links_from links.items)
expr_step (o.Choice test question then colon other) = t.choice test.value question then.value colon other.value

-- of one layer of a place
abbrev pub place_step : o.Place-F t.Expr t.Place Piece → t.Place
place_step (o.Whole name) = t.whole name
place_step (o.Cell name opening index closing) = t.cell name opening index.value closing

-- of one layer of a link
abbrev pub link_step : o.Link-F t.Expr t.Place Piece → Piece
link_step l = record { operator = l.operator; at = l.at; operand = l.operand }

-- of an expression
unfoldable pub view : Expr → t.Expr
view = fold-Expr t.Expr t.Place Piece expr_step place_step link_step

-- of a place
unfoldable pub place_view : Place → t.Place
place_view = fold-Place t.Expr t.Place Piece expr_step place_step link_step

-- of a link
abbrev pub piece : Link → Piece
piece l = record { operator = l.operator; at = l.at; operand = view l.operand }
