-- Parts of what programs mean that have functions of their own.
use Rattle.std.specs.Prelude.{ℤ, pos, Option, Some, None, map}
use Rattle.c_program.specs.declared.effect.Rank.{Rank}
use Rattle.c_program.specs.Courses.{Course}
use Rattle.c_program.specs.Meaning as m
use Rattle.c_program.specs.Meaning.{Exits, Meaning, Passing, call_at, for_start, for_update, leaving, loop, step, turn_exits}
use Rattle.c_program.specs.Performing.{Onward}
use Rattle.c_program.specs.State.{State, stack_mark}
use Rattle.c_program.specs.Tree.{TypedExpr, TypedForStart, TypedSimple}
use Rattle.c_program.specs.View.{pure_function}
use Rattle.c_eval.specs.declared.calls.CallContext.{CallContext}
use Rattle.c_eval.specs.declared.flow.Flow.{Flow}
use Rattle.c_eval.specs.declared.flow.Flow.TheVariants.{Back}
use Rattle.c_eval.specs.inside.Leaving.{exit}

-- what calls of functions of the text do
abbrev pub calls_of : CallContext → m.FunctionMeaning
calls_of calls = call_at calls.rank (map pure_function calls.functions.now) calls.depth

-- what a function gives back
abbrev pub returned_value : Flow → ℤ
returned_value (Back v) = v
returned_value flow = pos 0

-- ---- turns

-- the ways out of a turn: on to the next one, or out of the loop
pub record Ways : Type 0 where
  pub on : Onward
  pub out : Exits

-- a turn of a loop, after its step
abbrev pub turn : Passing → Meaning → State → Ways → Course
turn update body s ways = step s (λ s. body s (turn_exits update ways.on ways.out))

-- where a turn leads: on to the next one, or out by a way out
abbrev pub way : Ways → Option Flow → Onward
way ways None = ways.on
way ways (Some flow) = exit ways.out flow

-- ---- blocks

-- a block of its own
abbrev pub blocked : Meaning → Meaning
blocked body s k = body s (leaving (stack_mark s) k)

-- a `for`
abbrev pub for_block : Rank → m.FunctionMeaning → TypedForStart → Option TypedExpr → Option TypedSimple → Meaning → Meaning
for_block rank calls start e update body s k =
    for_start rank calls start s (λ t. loop e (for_update rank calls update) body t (leaving (stack_mark s) k))
