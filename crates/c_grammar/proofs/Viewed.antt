-- The views of expressions, places and links, an equation for each variant.
use Rattle.std.proofs.Common.{◌≡◌, ℕ, List, [], ◌∷◌, refl, sym, ap, ◌∙◌, map}
use Rattle.std.specs.declared.alloc.Global.{Global}
use Rattle.std.specs.declared.boxed.Box.{Box}
use Rattle.std.specs.declared.vec.Vec.{Vec}
use Rattle.c_grammar.specs.declared.terminal.Symbol.{Symbol}
use Rattle.c_grammar.specs.declared.terminal.Span.{Span}
use Rattle.c_grammar.specs.declared.tree.Expr.{Expr}
use Rattle.c_grammar.specs.declared.tree.Place.{Place}
use Rattle.c_grammar.specs.declared.tree.Link.{Link}
use Rattle.c_grammar.specs.declared.tree.Expr.TheOpen as o
use Rattle.c_grammar.specs.declared.tree.Expr.TheVariants as v
use Rattle.c_grammar.specs.declared.tree.Place.TheVariants as p
use Rattle.c_grammar.specs.declared.tree.Expr.TheFolds.{fold-Link, fold-roll-Expr, fold-roll-Place, fold_out-Link}
use Rattle.c_grammar.specs.declared.tree.Link.{outs-Link'}
use Rattle.c_grammar.specs.Tree as t
use Rattle.c_grammar.specs.View.{view, place_view, piece, Piece, links_from, expr_step, place_step, link_step}

pub view-number : (at : Span) → view (v.Number at) ≡ t.number at
unfolding view
view-number at = ap view (sym (v.rolls-Number at)) ∙ fold-roll-Expr _ _ _ expr_step place_step link_step (o.Number at)

pub view-read : (place : Place) → view (v.Read place) ≡ t.read (place_view place)
unfolding view place_view
view-read place = ap view (sym (v.rolls-Read place)) ∙ fold-roll-Expr _ _ _ expr_step place_step link_step (o.Read place)

pub view-field : (place : Place) (dot name : Span) → view (v.Field place dot name) ≡ t.field (place_view place) dot name
unfolding view place_view
view-field place dot name = ap view (sym (v.rolls-Field place dot name)) ∙ fold-roll-Expr _ _ _ expr_step place_step link_step (o.Field place dot name)

pub view-paren : (opening : Span) (inner : Box Expr Global) (closing : Span)
    → view (v.Paren opening inner closing) ≡ t.paren opening (view inner.value) closing
unfolding view
view-paren opening inner closing =
    ap view (sym (v.rolls-Paren opening inner closing)) ∙ fold-roll-Expr _ _ _ expr_step place_step link_step (o.Paren opening inner closing)

pub view-unary : (sign : Symbol) (at : Span) (operand : Box Expr Global)
    → view (v.Unary sign at operand) ≡ t.unary sign at (view operand.value)
unfolding view
view-unary sign at operand =
    ap view (sym (v.rolls-Unary sign at operand)) ∙ fold-roll-Expr _ _ _ expr_step place_step link_step (o.Unary sign at operand)

pub view-choice : (test : Box Expr Global) (question : Span) (then : Box Expr Global) (colon : Span) (other : Box Expr Global)
    → view (v.Choice test question then colon other) ≡ t.choice (view test.value) question (view then.value) colon (view other.value)
unfolding view
view-choice test question then colon other =
    ap view (sym (v.rolls-Choice test question then colon other))
    ∙ fold-roll-Expr _ _ _ expr_step place_step link_step (o.Choice test question then colon other)

pub view-whole : (name : Span) → place_view (p.Whole name) ≡ t.whole name
unfolding place_view
view-whole name = ap place_view (sym (p.rolls-Whole name)) ∙ fold-roll-Place _ _ _ expr_step place_step link_step (o.Whole name)

pub view-cell : (name opening : Span) (index : Box Expr Global) (closing : Span)
    → place_view (p.Cell name opening index closing) ≡ t.cell name opening (view index.value) closing
unfolding view place_view
view-cell name opening index closing =
    ap place_view (sym (p.rolls-Cell name opening index closing))
    ∙ fold-roll-Place _ _ _ expr_step place_step link_step (o.Cell name opening index closing)

one_piece : (l : Link) → fold-Link t.Expr t.Place Piece expr_step place_step link_step l ≡ piece l
unfolding view
one_piece l =
    fold_out-Link _ _ _ expr_step place_step link_step l
    ∙ ap (λ (x : o.Link-F Expr Place Link). record { operator = x.operator; at = x.at; operand = view x.operand }) (outs-Link' l)

pieces : (ls : List Link) → map (fold-Link t.Expr t.Place Piece expr_step place_step link_step) ls ≡ map piece ls
unfolding view
pieces [] = refl
pieces (l ∷ ls) = ap (λ x. x ∷ map (fold-Link t.Expr t.Place Piece expr_step place_step link_step) ls) (one_piece l) ∙ ap (λ xs. piece l ∷ xs) (pieces ls)

pub view-chain : (level : ℕ) (first : Box Expr Global) (links : Vec Link Global)
    → view (v.Chain level first links) ≡ t.chain level (view first.value) (links_from (map piece links.items))
unfolding view
view-chain level first links =
    ap view (sym (v.rolls-Chain level first links))
    ∙ fold-roll-Expr _ _ _ expr_step place_step link_step (o.Chain level first links)
    ∙ ap (λ xs. t.chain level (view first.value) (links_from xs)) (pieces links.items)

pub ruleset views = (view-number, view-read, view-field, view-paren, view-unary, view-choice, view-chain, view-whole, view-cell)
