-- What programs do. (ISO C, "Statements and blocks" and "Function calls".)
use Rattle.std.specs.Prelude.{◌+◌, ◌-◌, ◌++◌, ℕ, zero, suc, ℤ, pos, Bool, true, false, List, [], ◌∷◌, Option, Some, None, Result, Ok, Err, nat_le, length, slice_get}
use Rattle.mpi_call.specs.Operations.{is_set}
use Rattle.mpi_call.specs.declared.call.Fault.{Fault}
use Rattle.mpi_call.specs.declared.call.Fault.TheVariants.{Budget, OutputFull, Depth, Cells as CellsFault}
use Rattle.c_program.specs.declared.constants.TheConstants.{MOST_CALLS, MOST_CELLS, MOST_PRINTED, MOST_STEPS}
use Rattle.c_program.specs.declared.effect.Rank.{Rank}
use Rattle.c_program.specs.declared.program.TypedParameter.{TypedParameter}
use Rattle.c_program.specs.declared.program.ParameterKind.{ParameterKind}
use Rattle.c_program.specs.declared.program.ParameterKind.TheVariants.{Array as ArrayParameter, Texts as TextsParameter}
use Rattle.c_program.specs.declared.state.Passed.{Passed}
use Rattle.c_program.specs.declared.state.Passed.TheVariants.{Number, Cells as Lent}
use Rattle.c_program.specs.Tree as t
use Rattle.c_program.specs.Tree.{TypedArgument, TypedExpr, TypedForStart, Function, FunctionCall, TypedInitDeclarator, TypedInitializer, TypedPart, TypedParts, Program, TypedRight, TypedSimple, TypedStmt}
use Rattle.c_program.specs.Courses.{Course, ended, trapped}
use Rattle.c_program.specs.Effects.{effect_of}
use Rattle.c_program.specs.Performing.{Onward, perform}
use Rattle.c_program.specs.Prints.{text_of}
use Rattle.c_program.specs.Cells.{Cells}
use Rattle.c_program.specs.declared.state.StackMark.{StackMark}
use Rattle.c_program.specs.State.{Slot, State, cell_at, first_cells, leave, stack_mark, no_cells, put, width_of}
use Rattle.c_program.specs.Values.{cell_of_place, given, operated, range, value, values}

-- ---- ways out

-- goes on with a value, or traps
abbrev pub trying : {A : Type 0} → Result A Fault → State → (A → Course) → Course
trying (Err fault) s go = trapped fault s
trying (Ok x) s go = go x

-- one of two courses
abbrev pub choose : Bool → Course → Course → Course
choose true a b = a
choose false a b = b

-- the four ways out of a statement
pub record Exits : Type 0 where
  pub next : Onward
  pub broke : Onward
  pub again : Onward
  pub back : ℤ → Onward

-- what a statement means: a course by the state and the ways out
abbrev pub Meaning : Type 0
Meaning = State → Exits → Course

-- what has one way out
abbrev pub Passing : Type 0
Passing = State → Onward → Course

-- each way out of a block takes away what was declared in it
abbrev pub leaving : StackMark → Exits → Exits
leaving mark k = record {
  next = λ s. k.next (leave mark s);
  broke = λ s. k.broke (leave mark s);
  again = λ s. k.again (leave mark s);
  back = λ v s. k.back v (leave mark s);
}

-- ---- steps

-- takes one of so many steps
abbrev pub step_from : ℕ → State → Onward → Course
step_from zero s go = trapped Budget s
step_from (suc n) s go = go (record s { left = n })

-- takes a step, or traps where none is left
abbrev pub step : Passing
step s go = step_from s.left s go

-- the same after a step
abbrev pub started : Meaning → Meaning
started m s k = step s (λ s. m s k)

-- ---- calls of functions of the text

-- what an argument passes: an int, or the cells of a reference
abbrev pub passed : TypedArgument → State → Result Passed Fault
passed (t.by_value e) s = given (value e s) (λ v. Ok (Number v))
passed (t.by_reference reference) s = given (range reference s) (λ cells. Ok (Lent cells))

-- what arguments pass, from left to right
abbrev pub passed_all : List TypedArgument → State → Result (List Passed) Fault
passed_all [] s = Ok []
passed_all (argument ∷ arguments) s = given (passed argument s) (λ one. given (passed_all arguments s) (λ others. Ok (one ∷ others)))

-- what a call does, by the function's number and the arguments, and what goes on with what it gives back
abbrev pub FunctionMeaning : Type 0
FunctionMeaning = ℕ → List Passed → State → (ℤ → Onward) → Course

-- a call of a function of the text takes a step, and then evaluates its arguments
abbrev pub invoke : FunctionMeaning → FunctionCall → State → (ℤ → Onward) → Course
invoke calls call s go = step s (λ s. trying (passed_all call.arguments s) s (λ arguments. calls call.function arguments s go))

-- what a right side gives: a value, or what a call gives back
abbrev pub right : FunctionMeaning → TypedRight → State → (ℤ → Onward) → Course
right calls (t.value e) s go = trying (value e s) s (λ v. go v s)
right calls (t.called call) s go = invoke calls call s go

-- ---- what stands before a `;`

-- prints a text, or traps where more than `MOST_PRINTED` bytes were printed
abbrev pub print : List ℕ → Passing
print text s go =
    choose (nat_le (length s.printed + length text) MOST_PRINTED) (go (record s { printed = s.printed ++ text })) (trapped OutputFull s)

-- assignments, calls and prints
abbrev pub simple : Rank → FunctionMeaning → TypedSimple → Passing
simple rank calls (t.set place given_right) s go =
    trying (cell_of_place place s) s (λ cell. right calls given_right s (λ v s. go (put cell v s)))
simple rank calls (t.update place operator given_right) s go =
    trying (cell_of_place place s) s (λ cell. right calls given_right s (λ v s.
    trying (operated operator (cell_at s cell) v) s (λ v. go (put cell v s))))
simple rank calls (t.call call) s go = invoke calls call s (λ v s. go s)
simple rank calls (t.mpi call) s go = trying (effect_of rank call s) s (λ effect. perform rank effect s go)
simple rank calls (t.print format arguments) s go =
    trying (values arguments s) s (λ vs. print (text_of format vs) s go)
simple rank calls t.flush s go = go s

-- ---- declarations

-- how many elements a declared variable has
abbrev pub length_or_one : Option ℕ → ℕ
length_or_one None = 1
length_or_one (Some n) = n

-- the same cells so many times
abbrev pub repeated : ℕ → List ℤ → List ℤ
repeated zero cells = []
repeated (suc n) cells = cells ++ repeated n cells

-- how the cells of a declared variable begin
abbrev pub item_cells : TypedInitDeclarator → List ℤ
item_cells item = repeated (length_or_one item.length) (first_cells item.kind)

-- one variable more, on cells of its own
abbrev pub with_slot : List ℕ → ℕ → ℕ → List ℤ → State → State
with_slot name n width cells s = record s {
  cells = s.cells ++ cells;
  slots = s.slots ++ record {
    depth = s.opens - 1;
    name = name;
    is_listed = true;
    cells = record { from = length s.cells; length = n; width = width };
  } ∷ [];
}

-- at most so many cells stand
abbrev pub has_room : ℕ → State → Bool
has_room n s = nat_le (length s.cells + n) MOST_CELLS

-- the values of expressions go into cells from one on, each before the next is evaluated
abbrev pub put_values : List TypedExpr → ℕ → Passing
put_values [] cell s go = go s
put_values (e ∷ es) cell s go = trying (value e s) s (λ v. put_values es (cell + 1) (put cell v s) go)

-- an initializer, for a variable whose first cell is this
abbrev pub begin : FunctionMeaning → TypedInitializer → ℕ → Passing
begin calls t.no_initial cell s go = go s
begin calls (t.right given_right) cell s go = right calls given_right s (λ v s. go (put cell v s))
begin calls (t.values es) cell s go = put_values es cell s go

-- a variable is declared, if its cells have room, and then initialized
abbrev pub declare_variable : FunctionMeaning → TypedInitDeclarator → Passing
declare_variable calls item s go =
    choose (has_room (length (item_cells item)) s)
    (begin calls item.initial (length s.cells) (with_slot item.name (length_or_one item.length) (width_of item.kind) (item_cells item) s) go)
    (trapped CellsFault s)

-- variables are declared in order
abbrev pub declare_all : FunctionMeaning → List TypedInitDeclarator → Passing
declare_all calls [] s go = go s
declare_all calls (item ∷ items) s go = declare_variable calls item s (λ s. declare_all calls items s go)

-- ---- loops

-- a loop without a test goes on
abbrev pub test : Option TypedExpr → State → Result Bool Fault
test None s = Ok true
test (Some e) s = given (value e s) (λ v. Ok (is_set v))

-- the ways out of a turn: after it comes what stands last in the head of a `for`, and then the loop again
abbrev pub turn_exits : Passing → Onward → Exits → Exits
turn_exits update go k = record {
  next = λ s. update s go;
  broke = k.next;
  again = λ s. update s go;
  back = k.back;
}

-- at most n turns
abbrev pub loop_turns : ℕ → Option TypedExpr → Passing → Meaning → Meaning
loop_turns zero e update body s k = trapped Budget s
loop_turns (suc n) e update body s k =
    trying (test e s) s (λ holds. choose holds
    (step s (λ s. body s (turn_exits update (λ s. loop_turns n e update body s k) k)))
    (k.next s))

-- each turn takes a step: there are at most as many as are left, and one more test
abbrev pub loop : Option TypedExpr → Passing → Meaning → Meaning
loop e update body s k = loop_turns (suc s.left) e update body s k

-- what follows on a turn of a `while` or a `do`
abbrev pub no_update : Passing
no_update s go = go s

-- a turn before the first test
abbrev pub loop_after : TypedExpr → Meaning → Meaning
loop_after e body s k = step s (λ s. body s (turn_exits no_update (λ s. loop (Some e) no_update body s k) k))

-- ---- statements

-- what stands first in the head of a `for`
abbrev pub for_start : Rank → FunctionMeaning → TypedForStart → Passing
for_start rank calls t.no_start s go = go s
for_start rank calls (t.declared_start items) s go = step s (λ s. declare_all calls items s go)
for_start rank calls (t.simple_start one) s go = simple rank calls one s go

-- what stands last in the head of a `for`
abbrev pub for_update : Rank → FunctionMeaning → Option TypedSimple → Passing
for_update rank calls None s go = go s
for_update rank calls (Some one) s go = simple rank calls one s go

-- a `return`, with 0 where it names no value
abbrev pub return : FunctionMeaning → Option TypedRight → Meaning
return calls None s k = k.back (pos 0) s
return calls (Some given_right) s k = right calls given_right s (λ v s. k.back v s)

abbrev mutual
  -- what a statement does once its step is taken
  pub act : Rank → FunctionMeaning → TypedStmt → Meaning
  act rank calls (t.block parts) s k = act_parts rank calls parts s (leaving (stack_mark s) k)
  act rank calls t.empty s k = k.next s
  act rank calls (t.simple one) s k = simple rank calls one s k.next
  act rank calls t.break s k = k.broke s
  act rank calls t.continue s k = k.again s
  act rank calls (t.return given_right) s k = return calls given_right s k
  act rank calls (t.if_only e taken) s k = trying (test (Some e) s) s (λ holds. choose holds (started (act rank calls taken) s k) (k.next s))
  act rank calls (t.if_else e taken spared) s k =
      trying (test (Some e) s) s (λ holds. choose holds (started (act rank calls taken) s k) (started (act rank calls spared) s k))
  act rank calls (t.while e body) s k = loop (Some e) no_update (started (act rank calls body)) s k
  act rank calls (t.do_while body e) s k = loop_after e (started (act rank calls body)) s k
  act rank calls (t.for start e update body) s k =
      for_start rank calls start s (λ t. loop e (for_update rank calls update) (started (act rank calls body)) t (leaving (stack_mark s) k))

  -- what stands in a block
  pub act_part : Rank → FunctionMeaning → TypedPart → Meaning
  act_part rank calls (t.declare items) s k = declare_all calls items s k.next
  act_part rank calls (t.stmt one) s k = act rank calls one s k

  -- the parts of a block in order, each with its step
  pub act_parts : Rank → FunctionMeaning → TypedParts → Meaning
  act_parts rank calls t.no_part s k = k.next s
  act_parts rank calls (t.part part parts) s k =
      started (act_part rank calls part) s (record k { next = λ s. act_parts rank calls parts s k })

-- ---- functions

-- a parameter that is an array has a cell of its own, and stands for the cells that were passed
abbrev pub parameter_cells : List TypedParameter → ℕ
parameter_cells [] = 0
parameter_cells (parameter ∷ parameters) = of_kind parameter.kind + parameter_cells parameters
  where
    of_kind : ParameterKind → ℕ
    of_kind TextsParameter = 0
    of_kind kind = 1

-- the int that was passed; 0 where none was
abbrev pub passed_number : Option Passed → ℤ
passed_number (Some (Number v)) = v
passed_number given_one = pos 0

-- the cells that were passed; none where none were
abbrev pub cells_in : Option Passed → Cells
cells_in (Some (Lent cells)) = cells
cells_in given_one = no_cells

-- a variable on cells that are not its own
abbrev pub unlisted : List ℕ → Cells → State → Slot
unlisted name cells s = record { depth = s.opens - 1; name = name; is_listed = false; cells = cells }

-- one parameter more, with what was passed for it
abbrev pub with_parameter : TypedParameter → Option Passed → State → State
with_parameter parameter given_one s = by_kind parameter.kind
  where
    by_kind : ParameterKind → State
    by_kind ArrayParameter = record s { cells = s.cells ++ pos 0 ∷ []; slots = s.slots ++ unlisted parameter.name (cells_in given_one) s ∷ [] }
    by_kind TextsParameter = record s { slots = s.slots ++ unlisted parameter.name no_cells s ∷ [] }
    by_kind kind = with_slot parameter.name 1 1 (passed_number given_one ∷ []) s

-- parameters in order, each with what was passed for it
abbrev pub with_parameters : List TypedParameter → List Passed → State → State
with_parameters [] arguments s = s
with_parameters (parameter ∷ parameters) [] s = with_parameters parameters [] (with_parameter parameter None s)
with_parameters (parameter ∷ parameters) (one ∷ others) s = with_parameters parameters others (with_parameter parameter (Some one) s)

-- one call more is open
abbrev pub with_open_call : State → State
with_open_call s = record s { base = length s.slots; opens = suc s.opens }

-- a function that ends without a value gives 0
abbrev pub exits_to : StackMark → (ℤ → Onward) → Exits
exits_to mark go = record {
  next = λ s. go (pos 0) (leave mark s);
  broke = λ s. go (pos 0) (leave mark s);
  again = λ s. go (pos 0) (leave mark s);
  back = λ v s. go v (leave mark s);
}

-- each call of a typed program names one of its functions, so that no course comes to the answer for one that is not there
abbrev pub run_function : Rank → FunctionMeaning → Option Function → List Passed → State → (ℤ → Onward) → Course
run_function rank calls None arguments s go = trapped Depth s
run_function rank calls (Some f) arguments s go =
    choose (has_room (parameter_cells f.parameters) s)
    (act_parts rank calls f.body (with_parameters f.parameters arguments (with_open_call s)) (exits_to (stack_mark s) go))
    (trapped CellsFault s)

-- a call, where at most so many more may be open
abbrev pub call_at : Rank → List Function → ℕ → FunctionMeaning
call_at rank functions zero f arguments s go = trapped Depth s
call_at rank functions (suc d) f arguments s go = run_function rank (call_at rank functions d) (slice_get functions f) arguments s go

-- ---- programs

-- 10,000,000 steps
abbrev pub start : State
start = record { cells = []; slots = []; base = 0; opens = 0; printed = []; left = MOST_STEPS; starts = []; made = [] }

-- a rank's course: main, whose first argument is 1; at most 100 calls are open
abbrev pub course_of : Program → Rank → Course
course_of program rank = call_at rank program.functions MOST_CALLS program.main (Number (pos 1) ∷ []) start (λ v s. ended s)
