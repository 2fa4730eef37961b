-- The views of expressions, places and links, an equation for each variant.
use Rattle.std.proofs.Common.{◌≡◌, ℕ, ℤ, List, [], ◌∷◌, refl, sym, ap, ◌∙◌, map}
use Rattle.std.specs.declared.alloc.Global.{Global}
use Rattle.std.specs.declared.boxed.Box.{Box}
use Rattle.std.specs.declared.vec.Vec.{Vec}
use Rattle.c_names.specs.declared.operator.UnaryOperator.{UnaryOperator}
use Rattle.c_program.specs.declared.expr.TypedExpr.{TypedExpr}
use Rattle.c_program.specs.declared.expr.TypedExpr.TheFolds.{fold-TypedLink, fold-roll-TypedExpr, fold-roll-TypedPlace, fold_out-TypedLink}
use Rattle.c_program.specs.declared.expr.TypedExpr.TheOpen as o
use Rattle.c_program.specs.declared.expr.TypedExpr.TheVariants as v
use Rattle.c_program.specs.declared.expr.Field.{Field}
use Rattle.c_program.specs.declared.expr.TypedLink.{TypedLink, outs-TypedLink'}
use Rattle.c_program.specs.declared.expr.TypedPlace.{TypedPlace}
use Rattle.c_program.specs.declared.expr.TypedPlace.TheVariants as q
use Rattle.c_program.specs.Tree as t
use Rattle.c_program.specs.View.{TypedPiece, pure_expr_step, pure_link_step, typed_links, pure_place_step, pure_expr, pure_link, pure_links, pure_place}

pub pure-number : (n : ℤ) → pure_expr (v.Number n) ≡ t.number n
unfolding pure_expr
pure-number n = ap pure_expr (sym (v.rolls-Number n)) ∙ fold-roll-TypedExpr _ _ _ pure_expr_step pure_place_step pure_link_step (o.Number n)

pub pure-read : (place : TypedPlace) → pure_expr (v.Read place) ≡ t.read (pure_place place)
unfolding pure_expr pure_place
pure-read place = ap pure_expr (sym (v.rolls-Read place)) ∙ fold-roll-TypedExpr _ _ _ pure_expr_step pure_place_step pure_link_step (o.Read place)

pub pure-field : (place : TypedPlace) (field : Field) → pure_expr (v.Field place field) ≡ t.field (pure_place place) field
unfolding pure_expr pure_place
pure-field place field = ap pure_expr (sym (v.rolls-Field place field)) ∙ fold-roll-TypedExpr _ _ _ pure_expr_step pure_place_step pure_link_step (o.Field place field)

pub pure-signed : (sign : UnaryOperator) (operand : Box TypedExpr Global) → pure_expr (v.Signed sign operand) ≡ t.signed sign (pure_expr operand.value)
unfolding pure_expr
pure-signed sign operand = ap pure_expr (sym (v.rolls-Signed sign operand)) ∙ fold-roll-TypedExpr _ _ _ pure_expr_step pure_place_step pure_link_step (o.Signed sign operand)

pub pure-choice : (test then other : Box TypedExpr Global)
    → pure_expr (v.Choice test then other) ≡ t.choice (pure_expr test.value) (pure_expr then.value) (pure_expr other.value)
unfolding pure_expr
pure-choice test then other =
    ap pure_expr (sym (v.rolls-Choice test then other)) ∙ fold-roll-TypedExpr _ _ _ pure_expr_step pure_place_step pure_link_step (o.Choice test then other)

pub pure-whole : (variable : ℕ) → pure_place (q.Whole variable) ≡ t.whole variable
unfolding pure_place
pure-whole variable = ap pure_place (sym (q.rolls-Whole variable)) ∙ fold-roll-TypedPlace _ _ _ pure_expr_step pure_place_step pure_link_step (o.Whole variable)

pub pure-element : (variable : ℕ) (index : Box TypedExpr Global) → pure_place (q.Element variable index) ≡ t.element variable (pure_expr index.value)
unfolding pure_expr pure_place
pure-element variable index =
    ap pure_place (sym (q.rolls-Element variable index)) ∙ fold-roll-TypedPlace _ _ _ pure_expr_step pure_place_step pure_link_step (o.Element variable index)

one_piece : (l : TypedLink) → fold-TypedLink t.TypedExpr t.TypedPlace TypedPiece pure_expr_step pure_place_step pure_link_step l ≡ pure_link l
unfolding pure_expr
one_piece l =
    fold_out-TypedLink _ _ _ pure_expr_step pure_place_step pure_link_step l
    ∙ ap (λ (x : o.TypedLink-F TypedExpr TypedPlace TypedLink). record { operator = x.operator; operand = pure_expr x.operand }) (outs-TypedLink' l)

pieces : (ls : List TypedLink) → map (fold-TypedLink t.TypedExpr t.TypedPlace TypedPiece pure_expr_step pure_place_step pure_link_step) ls ≡ map pure_link ls
unfolding pure_expr
pieces [] = refl
pieces (l ∷ ls) =
    ap (λ x. x ∷ map (fold-TypedLink t.TypedExpr t.TypedPlace TypedPiece pure_expr_step pure_place_step pure_link_step) ls) (one_piece l) ∙ ap (λ xs. pure_link l ∷ xs) (pieces ls)

pub pure-chain : (first : Box TypedExpr Global) (links : Vec TypedLink Global)
    → pure_expr (v.Chain first links) ≡ t.chain (pure_expr first.value) (pure_links links.items)
unfolding pure_expr
pure-chain first links =
    ap pure_expr (sym (v.rolls-Chain first links))
    ∙ fold-roll-TypedExpr _ _ _ pure_expr_step pure_place_step pure_link_step (o.Chain first links)
    ∙ ap (λ xs. t.chain (pure_expr first.value) (typed_links xs)) (pieces links.items)

pub ruleset views = (pure-number, pure-read, pure-field, pure-signed, pure-choice, pure-chain, pure-whole, pure-element)
