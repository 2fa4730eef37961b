-- The views of statements and of the parts of a block, an equation for each variant.
use Rattle.std.proofs.Common.{◌≡◌, option_map, Option, sym, ap, ◌∙◌}
use Rattle.std.specs.declared.alloc.Global.{Global}
use Rattle.std.specs.declared.boxed.Box.{Box}
use Rattle.std.specs.declared.vec.Vec.{Vec}
use Rattle.c_program.specs.declared.expr.TypedExpr.{TypedExpr}
use Rattle.c_program.specs.declared.expr.TypedRight.{TypedRight}
use Rattle.c_program.specs.declared.statement.TypedDeclaration.{TypedDeclaration}
use Rattle.c_program.specs.declared.statement.TypedForStart.{TypedForStart}
use Rattle.c_program.specs.declared.statement.TypedPart.{TypedPart}
use Rattle.c_program.specs.declared.statement.TypedPart.TheFolds.{fold-roll-TypedPart, fold-roll-TypedStmt}
use Rattle.c_program.specs.declared.statement.TypedPart.TheOpen as o
use Rattle.c_program.specs.declared.statement.TypedPart.TheVariants as p
use Rattle.c_program.specs.declared.statement.TypedSimple.{TypedSimple}
use Rattle.c_program.specs.declared.statement.TypedStmt.{TypedStmt}
use Rattle.c_program.specs.declared.statement.TypedStmt.TheVariants as s
use Rattle.c_program.specs.Tree as t
use Rattle.c_program.specs.View.{pure_part_step, pure_declaration, pure_expr, pure_part, pure_parts, pure_right, pure_simple, pure_start, pure_stmt, pure_stmt_step}

pub pure-block : (parts : Vec TypedPart Global) → pure_stmt (s.Block parts) ≡ t.block (pure_parts parts.items)
unfolding pure_stmt pure_part
pure-block parts = ap pure_stmt (sym (s.rolls-Block parts)) ∙ fold-roll-TypedStmt _ _ pure_part_step pure_stmt_step (o.Block parts)

pub pure-empty : pure_stmt s.Empty ≡ t.empty
unfolding pure_stmt pure_part
pure-empty = ap pure_stmt (sym s.rolls-Empty) ∙ fold-roll-TypedStmt _ _ pure_part_step pure_stmt_step o.Empty

pub pure-simple : (one : TypedSimple) → pure_stmt (s.Simple one) ≡ t.simple (pure_simple one)
unfolding pure_stmt pure_part
pure-simple one = ap pure_stmt (sym (s.rolls-Simple one)) ∙ fold-roll-TypedStmt _ _ pure_part_step pure_stmt_step (o.Simple one)

pub pure-break : pure_stmt s.Break ≡ t.break
unfolding pure_stmt pure_part
pure-break = ap pure_stmt (sym s.rolls-Break) ∙ fold-roll-TypedStmt _ _ pure_part_step pure_stmt_step o.Break

pub pure-continue : pure_stmt s.Continue ≡ t.continue
unfolding pure_stmt pure_part
pure-continue = ap pure_stmt (sym s.rolls-Continue) ∙ fold-roll-TypedStmt _ _ pure_part_step pure_stmt_step o.Continue

pub pure-return : (given : Option TypedRight) → pure_stmt (s.Return given) ≡ t.return (option_map pure_right given)
unfolding pure_stmt pure_part
pure-return given = ap pure_stmt (sym (s.rolls-Return given)) ∙ fold-roll-TypedStmt _ _ pure_part_step pure_stmt_step (o.Return given)

pub pure-if_only : (test : TypedExpr) (then : Box TypedStmt Global) → pure_stmt (s.If test then) ≡ t.if_only (pure_expr test) (pure_stmt then.value)
unfolding pure_stmt pure_part
pure-if_only test then = ap pure_stmt (sym (s.rolls-If test then)) ∙ fold-roll-TypedStmt _ _ pure_part_step pure_stmt_step (o.If test then)

pub pure-if_else : (test : TypedExpr) (then other : Box TypedStmt Global) → pure_stmt (s.IfElse test then other) ≡ t.if_else (pure_expr test) (pure_stmt then.value) (pure_stmt other.value)
unfolding pure_stmt pure_part
pure-if_else test then other = ap pure_stmt (sym (s.rolls-IfElse test then other)) ∙ fold-roll-TypedStmt _ _ pure_part_step pure_stmt_step (o.IfElse test then other)

pub pure-while : (test : TypedExpr) (body : Box TypedStmt Global) → pure_stmt (s.While test body) ≡ t.while (pure_expr test) (pure_stmt body.value)
unfolding pure_stmt pure_part
pure-while test body = ap pure_stmt (sym (s.rolls-While test body)) ∙ fold-roll-TypedStmt _ _ pure_part_step pure_stmt_step (o.While test body)

pub pure-do_while : (body : Box TypedStmt Global) (test : TypedExpr) → pure_stmt (s.Do body test) ≡ t.do_while (pure_stmt body.value) (pure_expr test)
unfolding pure_stmt pure_part
pure-do_while body test = ap pure_stmt (sym (s.rolls-Do body test)) ∙ fold-roll-TypedStmt _ _ pure_part_step pure_stmt_step (o.Do body test)

pub pure-for : (begun : TypedForStart) (test : Option TypedExpr) (step : Option TypedSimple) (body : Box TypedStmt Global) → pure_stmt (s.For begun test step body) ≡ t.for (pure_start begun) (option_map pure_expr test) (option_map pure_simple step) (pure_stmt body.value)
unfolding pure_stmt pure_part
pure-for begun test step body = ap pure_stmt (sym (s.rolls-For begun test step body)) ∙ fold-roll-TypedStmt _ _ pure_part_step pure_stmt_step (o.For begun test step body)

pub pure-declare : (declaration : TypedDeclaration) → pure_part (p.Declaration declaration) ≡ t.declare (pure_declaration declaration)
unfolding pure_part
pure-declare declaration = ap pure_part (sym (p.rolls-Declaration declaration)) ∙ fold-roll-TypedPart _ _ pure_part_step pure_stmt_step (o.Declaration declaration)

pub pure-stmt : (inner : TypedStmt) → pure_part (p.Stmt inner) ≡ t.stmt (pure_stmt inner)
unfolding pure_part pure_stmt
pure-stmt inner = ap pure_part (sym (p.rolls-Stmt inner)) ∙ fold-roll-TypedPart _ _ pure_part_step pure_stmt_step (o.Stmt inner)

pub ruleset stmt_views = (pure-block, pure-empty, pure-simple, pure-break, pure-continue, pure-return, pure-if_only, pure-if_else, pure-while, pure-do_while, pure-for, pure-declare, pure-stmt)
