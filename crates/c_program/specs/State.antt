-- What a rank has between two steps of its program: one stack of int cells, and the variables that stand.
use Rattle.std.specs.Prelude.{◌+◌, ◌==◌, ℕ, zero, suc, ℤ, pos, Bool, List, [], ◌∷◌, Option, Some, None, if◌then◌else◌, take, length, slice_index_or, slice_set}
use Rattle.mpi_call.specs.declared.needs.TheConstants.{UNDEFINED}
use Rattle.run_model.specs.Lists.{world}
use Rattle.c_program.specs.declared.constants.TheConstants.{ANY_SOURCE, NULL}
use Rattle.c_program.specs.Cells.{Cells}
use Rattle.c_program.specs.declared.state.Begun.{Begun}
use Rattle.c_program.specs.declared.state.MadeCommunicator.{MadeCommunicator}
use Rattle.c_program.specs.declared.state.StackMark.{StackMark}
use Rattle.c_names.specs.declared.kind.VariableKind.{VariableKind}
use Rattle.c_names.specs.declared.kind.VariableKind.TheVariants.{Int, Status, Request, Communicator}

-- ---- cells

-- `NULL`
abbrev pub no_cells : Cells
no_cells = record { from = 0; length = 0; width = 1 }

-- `MPI_UNDEFINED`
abbrev pub undefined : ℤ
undefined = UNDEFINED

-- `MPI_ANY_SOURCE`
abbrev pub any_source : ℤ
any_source = ANY_SOURCE

-- `MPI_PROC_NULL`, `MPI_ANY_TAG` and null handles
abbrev pub null : ℤ
null = NULL

-- how a variable's cells begin; a status has source, tag and count
abbrev pub first_cells : VariableKind → List ℤ
first_cells Int = pos 0 ∷ []
first_cells Status = any_source ∷ (null ∷ (pos 0 ∷ []))
first_cells Request = null ∷ []
first_cells Communicator = null ∷ []

-- how many cells an element has
abbrev pub width_of : VariableKind → ℕ
width_of Status = 3
width_of kind = 1

-- ---- the state

-- a variable that stands: how deep its function was called, and its cells; parameters that are arrays or texts aren't
-- listed
pub record Slot : Type 0 where
  pub depth : ℕ
  pub name : List ℕ
  pub is_listed : Bool
  pub cells : Cells

-- the variables of the function that runs stand from `base` on; `opens` calls are open, and `left` steps may be taken
pub record State : Type 0 where
  pub cells : List ℤ
  pub slots : List Slot
  pub base : ℕ
  pub opens : ℕ
  pub printed : List ℕ
  pub left : ℕ
  pub starts : List Begun
  pub made : List MadeCommunicator

-- the value of a cell; 0 where there is none
abbrev pub cell_at : State → ℕ → ℤ
cell_at s cell = slice_index_or s.cells cell (pos 0)

-- a cell gets a value; nothing changes where there is no such cell
abbrev pub put : ℕ → ℤ → State → State
put cell value s = record s { cells = slice_set s.cells cell value }

-- cells from one on get values
abbrev pub put_all : ℕ → List ℤ → State → State
put_all cell [] s = s
put_all cell (value ∷ values) s = put_all (cell + 1) values (put cell value s)

-- a cell gets a value where one is asked for
abbrev pub put_some : Option ℕ → ℤ → State → State
put_some None value s = s
put_some (Some cell) value s = put cell value s

-- the values of n cells from one on
abbrev pub values_from : ℕ → ℕ → State → List ℤ
values_from cell zero s = []
values_from cell (suc n) s = cell_at s cell ∷ values_from (cell + 1) n s

-- the ints, or the handles, in these cells
abbrev pub ints_in_cells : Cells → State → List ℤ
ints_in_cells cells s = values_from cells.from cells.length s

-- ---- scopes

-- what stands
abbrev pub stack_mark : State → StackMark
stack_mark s = record { cells = length s.cells; slots = length s.slots; base = s.base; opens = s.opens }

-- what was declared since then is gone
abbrev pub leave : StackMark → State → State
leave mark s = record s { cells = take mark.cells s.cells; slots = take mark.slots s.slots; base = mark.base; opens = mark.opens }

-- ---- communicators

-- the members of the first of the communicators with this number
abbrev pub members_among : List MadeCommunicator → ℕ → Option (List ℕ)
members_among [] comm = None
members_among (known ∷ others) comm = if known.comm == comm then Some known.members else members_among others comm

-- the members of a communicator: all of the n ranks for 0, else those of the first one made with this number
abbrev pub members_known : ℕ → State → ℕ → Option (List ℕ)
members_known n s comm = if comm == 0 then Some (world n 0) else members_among s.made comm
