-- Parts of what programs mean that have functions of their own.
use Rattle.std.specs.Prelude.{ℕ, ℤ, List, Option, Some, None, Result, Ok, if◌then◌else◌, length}
use Rattle.mpi_call.specs.Operations.{is_set, int_of}
use Rattle.mpi_call.specs.declared.call.Fault.{Fault}
use Rattle.mpi_call.specs.declared.call.Fault.TheVariants.{Cells as CellsFault}
use Rattle.c_names.specs.declared.operator.Operator.{Operator}
use Rattle.c_program.specs.declared.effect.Rank.{Rank}
use Rattle.c_program.specs.declared.state.Passed.{Passed}
use Rattle.c_program.specs.Courses.{Course, trapped}
use Rattle.c_program.specs.Effects.{effect_of}
use Rattle.c_program.specs.Meaning.{Passing, choose, has_room, item_cells, length_or_one, with_open_call, parameter_cells, trying, with_parameters, with_slot}
use Rattle.c_program.specs.Performing.{Onward, perform}
use Rattle.c_program.specs.State.{State, cell_at, put, width_of}
use Rattle.c_program.specs.Tree.{TypedExpr, Function, TypedInitDeclarator, MpiCall}
use Rattle.c_program.specs.Values.{given, is_decided, operated, value}

-- one operator, and the operand behind it
abbrev pub linked : Operator → TypedExpr → ℤ → State → Result ℤ Fault
linked operator operand v s = if is_decided operator v then Ok (int_of (is_set v)) else given (value operand s) (λ w. operated operator v w)

-- the variable of an item, not yet begun, and its first cell
abbrev pub added : TypedInitDeclarator → State → (ℕ → Onward) → Course
added item s go =
    choose (has_room (length (item_cells item)) s)
    (go (length s.cells) (with_slot item.name (length_or_one item.length) (width_of item.kind) (item_cells item) s))
    (trapped CellsFault s)

-- one call more is open, with its parameters
abbrev pub entered : Function → List Passed → Passing
entered f arguments s go =
    choose (has_room (parameter_cells f.parameters) s)
    (go (with_parameters f.parameters arguments (with_open_call s)))
    (trapped CellsFault s)

-- a cell gets a value, or what an operator makes of the cell and the value
abbrev pub assigned : Option Operator → ℕ → ℤ → Passing
assigned None cell v s go = go (put cell v s)
assigned (Some operator) cell v s go = trying (operated operator (cell_at s cell) v) s (λ made. go (put cell made s))

-- a call of an MPI function: its effect, performed
abbrev pub mpi : Rank → MpiCall → Passing
mpi rank call s go = trying (effect_of rank call s) s (λ effect. perform rank effect s go)
