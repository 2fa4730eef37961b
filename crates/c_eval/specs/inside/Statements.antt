-- Statements that have functions of their own.
use Rattle.std.specs.Prelude.{Option, Some, None}
use Rattle.c_names.specs.declared.operator.Operator.{Operator}
use Rattle.c_program.specs.declared.effect.Rank.{Rank}
use Rattle.c_program.specs.Meaning.{FunctionMeaning, Meaning, Passing, act, choose, right, started, test, trying}
use Rattle.c_program.specs.Tree.{TypedExpr, TypedPlace, TypedRight, TypedStmt}
use Rattle.c_program.specs.Values.{cell_of_place}
use Rattle.c_run_cells.specs.Parts.{assigned}

-- ---- assignments

-- the cell is known before the right side is evaluated
abbrev pub assigns : FunctionMeaning → TypedPlace → Option Operator → TypedRight → Passing
assigns calls place operator one s go = trying (cell_of_place place s) s (λ cell. right calls one s (λ v s. assigned operator cell v s go))

-- ---- choices

-- an `if`
abbrev pub branch : TypedExpr → Meaning → Meaning → Meaning
branch e taken spared s k = trying (test (Some e) s) s (λ holds. choose holds (taken s k) (spared s k))

-- what stands after an `else`
abbrev pub else_meaning : Rank → FunctionMeaning → Option TypedStmt → Meaning
else_meaning rank calls None s k = k.next s
else_meaning rank calls (Some stmt) s k = started (act rank calls stmt) s k
