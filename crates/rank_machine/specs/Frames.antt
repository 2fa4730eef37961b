-- What a stack of open places stands for: how many calls are open, and where each way out of the innermost place leads.
use Rattle.std.specs.Prelude.{◌≡◌, ◌≤◌, ◌+◌, ◌-◌, ◌*◌, ℕ, ℤ, suc, List, [], ◌∷◌, Option, Some, None, Result, Ok, Err, length, ◌<◌, map, option_copied, option_map}
use Rattle.c_program.specs.declared.constants.TheConstants.{MOST_CALLS}
use Rattle.c_program.specs.declared.effect.Rank.{Rank}
use Rattle.c_program.specs.Values.{value}
use Rattle.c_program.specs.Courses.{Course, ended}
use Rattle.c_program.specs.Meaning.{FunctionMeaning, Exits, Meaning, Passing, act, act_parts, call_at, choose, declare_all, exits_to, for_start, for_update, leaving, put_values, started, test, trying, loop_turns}
use Rattle.c_program.specs.Performing.{Onward}
use Rattle.c_program.specs.State.{State, leave, stack_mark, put}
use Rattle.c_program.specs.Tree as t
use Rattle.c_program.specs.Tree.{TypedExpr, TypedForStart, FunctionCall, TypedInitializer, TypedSimple, TypedStmt}
use Rattle.c_program.specs.View.{pure_expr, pure_function, pure_item, pure_parts, pure_simple, pure_stmt}
use Rattle.c_run_cells.specs.Comes.{FailsToEvaluate}
use Rattle.c_run_cells.specs.Parts.{assigned}
use Rattle.c_run_cells.specs.declared.fail.Fail.{Fail}
use Rattle.c_run_replies.specs.Questions.{reached}
use Rattle.c_run_replies.specs.declared.question.Reached.{Reached}
use Rattle.rank_machine.specs.declared.frame.Called.{Called as CalledHere}
use Rattle.rank_machine.specs.declared.frame.Code.{Code}
use Rattle.rank_machine.specs.declared.frame.ContinuationFrame.{ContinuationFrame}
use Rattle.rank_machine.specs.declared.frame.ContinuationFrame.TheVariants.{One, Rest, Items, Block, Repeat, Turn, Called}
use Rattle.rank_machine.specs.declared.frame.Loop.{Loop}
use Rattle.rank_machine.specs.declared.frame.Target.{Target}
use Rattle.rank_machine.specs.declared.frame.Target.TheVariants.{Nowhere, Cell, Back}
use Rattle.rank_machine.specs.declared.stack.Stack.{Stack}

-- how many calls are open, and where the ways out lead
pub record Open : Type 0 where
  pub opens : ℕ
  pub exits : Exits

-- what calls of functions of the text do, where so many are open; at most `MOST_CALLS` may be
abbrev pub calls_in : Code → ℕ → FunctionMeaning
calls_in code opens = call_at code.rank (map pure_function code.functions.now) (MOST_CALLS - opens)

-- a call's value goes where it is wanted
abbrev pub given_to : Target → Exits → ℤ → Onward
given_to Nowhere k v s = k.next s
given_to (Cell operator cell) k v s = assigned operator cell v s k.next
given_to Back k v s = k.back v s

-- what stands behind the second `;` of a `for`
abbrev pub updating : Code → ℕ → Option TypedSimple → Passing
updating code opens update s go = for_update code.rank (calls_in code opens) update s go

-- how many turns a loop may take: as many as steps are left when it begins, and one test more
abbrev pub turns_at : Option ℕ → State → ℕ
turns_at None s = suc s.left
turns_at (Some n) s = n

-- a loop, by the turns that it may take
abbrev pub looping : Code → ℕ → Loop → Meaning
looping code opens l s k =
    loop_turns (turns_at l.turns s) (option_map pure_expr (option_copied l.test)) (for_update code.rank (calls_in code opens) (option_map pure_simple (option_copied l.update))) (started (act code.rank (calls_in code opens) (pure_stmt l.body.now))) s k

-- what is open inside one more place
abbrev pub open_inside : Code → ContinuationFrame → Open → Open
open_inside code (One stmt) o = record o { exits = record o.exits { next = λ s. started (act code.rank (calls_in code o.opens) (pure_stmt stmt.now)) s o.exits } }
open_inside code (Rest parts) o = record o { exits = record o.exits { next = λ s. act_parts code.rank (calls_in code o.opens) (pure_parts parts.now) s o.exits } }
open_inside code (Items items) o = record o { exits = record o.exits { next = λ s. declare_all (calls_in code o.opens) (map pure_item items.now) s o.exits.next } }
open_inside code (Block mark) o = record o { exits = leaving mark o.exits }
open_inside code (Repeat l) o = record o { exits = record o.exits { next = λ s. looping code o.opens l s o.exits; broke = o.exits.next } }
open_inside code (Turn update) o = record o {
  exits = record o.exits {
    next = λ s. updating code o.opens (option_map pure_simple (option_copied update)) s o.exits.next;
    again = λ s. updating code o.opens (option_map pure_simple (option_copied update)) s o.exits.next;
  };
}
open_inside code (Called called) o = record { opens = suc o.opens; exits = exits_to called.mark (given_to called.target o.exits) }

-- inside all of a stack, whose last place is the innermost
abbrev pub inside_all : Code → List ContinuationFrame → Open → Open
inside_all code [] o = o
inside_all code (frame ∷ frames) o = inside_all code frames (open_inside code frame o)

-- behind main the rank ends
abbrev pub outermost : Open
outermost = record { opens = 0; exits = record { next = ended; broke = ended; again = ended; back = λ v. ended } }

-- inside a whole stack
abbrev pub within : Code → List ContinuationFrame → Open
within code frames = inside_all code frames outermost

-- the count of open calls is that of the stack
abbrev pub CountsOpenCalls : Code → Stack → Type 0
CountsOpenCalls code stack = stack.opens ≡ (within code stack.frames.items).opens

-- a stack from which a rank goes on, or asks, or is over, like this course
pub record IsAt (course : Course) (code : Code) (found : Reached) (stack : Stack) : Type 0 where
  pub is : course ≡ reached code.rank found stack.state (within code stack.frames.items).exits.next
  pub counted : CountsOpenCalls code stack

-- where a course has come to, or failed
abbrev pub HasComeTo : Course → Code → Result Reached Fail → Stack → Type 0
HasComeTo course code (Ok found) stack = IsAt course code found stack
HasComeTo course code (Err fail) stack = FailsToEvaluate course fail stack.state

-- the innermost call was taken away: what it gives back goes on so
pub record Ended (code : Code) (old new : Stack) (called : CalledHere) : Type 0 where
  pub back : (v : ℤ) → (within code old.frames.items).exits.back v old.state ≡ given_to called.target (within code new.frames.items).exits v (leave called.mark new.state)
  pub opens : new.opens ≡ suc (within code new.frames.items).opens
  pub frames : length new.frames.items < length old.frames.items
  pub left : new.state.left ≡ old.state.left

-- no call was open: what is given back ends the rank
pub record EndedAll (code : Code) (old new : Stack) : Type 0 where
  pub back : (v : ℤ) → (within code old.frames.items).exits.back v old.state ≡ ended new.state
  pub counted : CountsOpenCalls code new
  pub frames : length new.frames.items ≤ length old.frames.items
  pub left : new.state.left ≡ old.state.left

-- the innermost call ends, or there is none
abbrev pub EndsInnermost : Code → Stack → Stack → Option CalledHere → Type 0
EndsInnermost code old new None = EndedAll code old new
EndsInnermost code old new (Some called) = Ended code old new called

-- the call whose value a variable begins with
abbrev pub initial_call : TypedInitializer → Option FunctionCall
initial_call (t.right (t.called call)) = Some call
initial_call _ = None

-- how a variable begins; what a call gives comes later
abbrev pub begun_value : TypedInitializer → ℕ → Passing
begun_value t.no_initial cell s go = go s
begun_value (t.right (t.value e)) cell s go = trying (value e s) s (λ v. go (put cell v s))
begun_value (t.right (t.called call)) cell s go = go s
begun_value (t.values es) cell s go = put_values es cell s go

-- an `if`, with an `else` or without
abbrev pub if_statement : Rank → FunctionMeaning → TypedExpr → TypedStmt → Option TypedStmt → Meaning
if_statement rank calls e taken other s k = trying (test (Some e) s) s (λ holds. choose holds (started (act rank calls taken) s k) (otherwise other))
  where
    otherwise : Option TypedStmt → Course
    otherwise None = k.next s
    otherwise (Some spared) = started (act rank calls spared) s k

-- a `for`, which is a block of its own
abbrev pub for_statement : Code → ℕ → TypedForStart → Loop → Meaning
for_statement code opens start l s k = for_start code.rank (calls_in code opens) start s (λ t. looping code opens l t (leaving (stack_mark s) k))

-- each step takes more from this than the places that it opens
abbrev pub weight : Stack → ℕ
weight stack = 8 * stack.state.left + length stack.frames.items
