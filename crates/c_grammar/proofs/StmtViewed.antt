-- The views of statements and of the parts of a block, an equation for each variant.
use Rattle.std.proofs.Common.{◌≡◌, option_map, Option, sym, ap, ◌∙◌}
use Rattle.std.specs.declared.alloc.Global.{Global}
use Rattle.std.specs.declared.boxed.Box.{Box}
use Rattle.std.specs.declared.vec.Vec.{Vec}
use Rattle.c_grammar.specs.declared.terminal.Span.{Span}
use Rattle.c_grammar.specs.declared.tree.Expr.{Expr}
use Rattle.c_grammar.specs.declared.statement.Declaration.{Declaration}
use Rattle.c_grammar.specs.declared.statement.ForStart.{ForStart}
use Rattle.c_grammar.specs.declared.statement.Part.{Part}
use Rattle.c_grammar.specs.declared.statement.Right.{Right}
use Rattle.c_grammar.specs.declared.statement.Simple.{Simple}
use Rattle.c_grammar.specs.declared.statement.Stmt.{Stmt}
use Rattle.c_grammar.specs.declared.statement.Part.TheFolds.{fold-roll-Stmt, fold-roll-Part}
use Rattle.c_grammar.specs.declared.statement.Part.TheOpen as o
use Rattle.c_grammar.specs.declared.statement.Part.TheVariants as p
use Rattle.c_grammar.specs.declared.statement.Stmt.TheVariants as s
use Rattle.c_grammar.specs.Tree as t
use Rattle.c_grammar.specs.View.{view}
use Rattle.c_grammar.specs.StmtView.{declaration_view, part_step, part_view, parts_view, right_view, simple_view, start_view, stmt_step, stmt_view}

pub view-block : (opening : Span) (parts : Vec Part Global) (closing : Span)
    → stmt_view (s.Block opening parts closing) ≡ t.block opening (parts_view parts.items) closing
unfolding stmt_view part_view
view-block opening parts closing =
    ap stmt_view (sym (s.rolls-Block opening parts closing)) ∙ fold-roll-Stmt _ _ part_step stmt_step (o.Block opening parts closing)

pub view-empty : (at : Span)
    → stmt_view (s.Empty at) ≡ t.empty at
unfolding stmt_view part_view
view-empty at =
    ap stmt_view (sym (s.rolls-Empty at)) ∙ fold-roll-Stmt _ _ part_step stmt_step (o.Empty at)

pub view-simple : (simple : Simple) (end : Span)
    → stmt_view (s.Simple simple end) ≡ t.simple (simple_view simple) end
unfolding stmt_view part_view
view-simple simple end =
    ap stmt_view (sym (s.rolls-Simple simple end)) ∙ fold-roll-Stmt _ _ part_step stmt_step (o.Simple simple end)

pub view-break : (keyword end : Span)
    → stmt_view (s.Break keyword end) ≡ t.break keyword end
unfolding stmt_view part_view
view-break keyword end =
    ap stmt_view (sym (s.rolls-Break keyword end)) ∙ fold-roll-Stmt _ _ part_step stmt_step (o.Break keyword end)

pub view-continue : (keyword end : Span)
    → stmt_view (s.Continue keyword end) ≡ t.continue keyword end
unfolding stmt_view part_view
view-continue keyword end =
    ap stmt_view (sym (s.rolls-Continue keyword end)) ∙ fold-roll-Stmt _ _ part_step stmt_step (o.Continue keyword end)

pub view-return : (keyword : Span) (value : Option Right) (end : Span)
    → stmt_view (s.Return keyword value end) ≡ t.return keyword (option_map right_view value) end
unfolding stmt_view part_view
view-return keyword value end =
    ap stmt_view (sym (s.rolls-Return keyword value end)) ∙ fold-roll-Stmt _ _ part_step stmt_step (o.Return keyword value end)

pub view-if_only : (keyword opening : Span) (test : Expr) (closing : Span) (then : Box Stmt Global)
    → stmt_view (s.If keyword opening test closing then) ≡ t.if_only keyword opening (view test) closing (stmt_view then.value)
unfolding stmt_view part_view
view-if_only keyword opening test closing then =
    ap stmt_view (sym (s.rolls-If keyword opening test closing then)) ∙ fold-roll-Stmt _ _ part_step stmt_step (o.If keyword opening test closing then)

pub view-if_else : (keyword opening : Span) (test : Expr) (closing : Span) (then : Box Stmt Global) (else_keyword : Span) (other : Box Stmt Global)
    → stmt_view (s.IfElse keyword opening test closing then else_keyword other) ≡ t.if_else keyword opening (view test) closing (stmt_view then.value) else_keyword (stmt_view other.value)
unfolding stmt_view part_view
view-if_else keyword opening test closing then else_keyword other =
    ap stmt_view (sym (s.rolls-IfElse keyword opening test closing then else_keyword other)) ∙ fold-roll-Stmt _ _ part_step stmt_step (o.IfElse keyword opening test closing then else_keyword other)

pub view-while : (keyword opening : Span) (test : Expr) (closing : Span) (body : Box Stmt Global)
    → stmt_view (s.While keyword opening test closing body) ≡ t.while keyword opening (view test) closing (stmt_view body.value)
unfolding stmt_view part_view
view-while keyword opening test closing body =
    ap stmt_view (sym (s.rolls-While keyword opening test closing body)) ∙ fold-roll-Stmt _ _ part_step stmt_step (o.While keyword opening test closing body)

pub view-do_while : (keyword : Span) (body : Box Stmt Global) (while_keyword opening : Span) (test : Expr) (closing end : Span)
    → stmt_view (s.Do keyword body while_keyword opening test closing end) ≡ t.do_while keyword (stmt_view body.value) while_keyword opening (view test) closing end
unfolding stmt_view part_view
view-do_while keyword body while_keyword opening test closing end =
    ap stmt_view (sym (s.rolls-Do keyword body while_keyword opening test closing end)) ∙ fold-roll-Stmt _ _ part_step stmt_step (o.Do keyword body while_keyword opening test closing end)

pub view-for : (keyword opening : Span) (start : ForStart) (start_end : Span) (test : Option Expr) (test_end : Span) (step : Option Simple) (closing : Span) (body : Box Stmt Global)
    → stmt_view (s.For keyword opening start start_end test test_end step closing body) ≡ t.for keyword opening (start_view start) start_end (option_map view test) test_end (option_map simple_view step) closing (stmt_view body.value)
unfolding stmt_view part_view
view-for keyword opening start start_end test test_end step closing body =
    ap stmt_view (sym (s.rolls-For keyword opening start start_end test test_end step closing body)) ∙ fold-roll-Stmt _ _ part_step stmt_step (o.For keyword opening start start_end test test_end step closing body)

pub view-declare : (declaration : Declaration) (end : Span)
    → part_view (p.Declaration declaration end) ≡ t.declare (declaration_view declaration) end
unfolding part_view
view-declare declaration end =
    ap part_view (sym (p.rolls-Declaration declaration end)) ∙ fold-roll-Part _ _ part_step stmt_step (o.Declaration declaration end)

pub view-stmt : (inner : Stmt) → part_view (p.Stmt inner) ≡ t.stmt (stmt_view inner)
unfolding part_view stmt_view
view-stmt inner = ap part_view (sym (p.rolls-Stmt inner)) ∙ fold-roll-Part _ _ part_step stmt_step (o.Stmt inner)

pub ruleset stmt_views = (view-block, view-empty, view-simple, view-break, view-continue, view-return, view-if_only, view-if_else, view-while, view-do_while, view-for, view-declare, view-stmt)
