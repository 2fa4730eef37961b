-- The values of expressions, places and references. (ISO C, "Expressions"; what C leaves open is fixed here.)
use Rattle.std.specs.Prelude.{◌+◌, ◌*◌, ◌-◌, ℕ, ℤ, pos, negsuc, Bool, false, not, List, [], ◌∷◌, Option, Some, None, Result, Ok, Err, if◌then◌else◌, nat_lt, nat_le, slice_get}
use Rattle.mpi_call.specs.Operations.{is_set, int_of}
use Rattle.mpi_call.specs.declared.call.Fault.{Fault}
use Rattle.mpi_call.specs.declared.call.Fault.TheVariants.{DivideByZero, OutOfBounds}
use Rattle.c_names.specs.Operators.{applied, unary_applied}
use Rattle.c_names.specs.declared.operator.Operator.{Operator}
use Rattle.c_names.specs.declared.operator.Operator.TheVariants.{LogicalAnd, LogicalOr}
use Rattle.c_program.specs.declared.expr.Field.{Field}
use Rattle.c_program.specs.declared.expr.Field.TheVariants.{Source, Tag}
use Rattle.c_program.specs.Tree as t
use Rattle.c_program.specs.Tree.{TypedExpr, TypedLinks, TypedPlace, Reference}
use Rattle.c_program.specs.Cells.{Cells}
use Rattle.c_program.specs.State.{Slot, State, cell_at, no_cells}

-- goes on with a value, or keeps the fault
abbrev pub given : {A B : Type 0} → Result A Fault → (A → Result B Fault) → Result B Fault
given (Err fault) go = Err fault
given (Ok x) go = go x

-- what is there, or a fault
abbrev pub or_fault : {A : Type 0} → Fault → Option A → Result A Fault
or_fault fault None = Err fault
or_fault fault (Some x) = Ok x

-- ---- variables and their elements

-- a variable of the function that runs, by its number
abbrev pub cells_of : ℕ → State → Result Cells Fault
cells_of variable s = given (or_fault OutOfBounds (slice_get s.slots (s.base + variable))) (λ (slot : Slot). Ok slot.cells)

-- an element's cell
abbrev pub element : Cells → ℤ → Result ℕ Fault
element cells (negsuc i) = Err OutOfBounds
element cells (pos i) = if nat_lt i cells.length then Ok (cells.from + i * cells.width) else Err OutOfBounds

-- the elements from one on, or none where it is the length
abbrev pub elements_from : Cells → ℤ → Result Cells Fault
elements_from cells (negsuc i) = Err OutOfBounds
elements_from cells (pos i) =
    if nat_le i cells.length
    then Ok (record { from = cells.from + i * cells.width; length = cells.length - i; width = cells.width })
    else Err OutOfBounds

-- ---- expressions

-- the cell of a field of a status, from its first one on
abbrev pub field_place : Field → ℕ
field_place Source = 0
field_place Tag = 1

-- `&&` and `||` don't evaluate their second operand where the first one decides
abbrev pub is_decided : Operator → ℤ → Bool
is_decided LogicalAnd left = not (is_set left)
is_decided LogicalOr left = is_set left
is_decided operator left = false

-- an operator between two values
abbrev pub operated : Operator → ℤ → ℤ → Result ℤ Fault
operated operator left right = or_fault DivideByZero (applied operator left right)

-- from left to right
abbrev mutual
  pub value : TypedExpr → State → Result ℤ Fault
  value (t.number n) s = Ok n
  value (t.read place) s = given (cell_of_place place s) (λ cell. Ok (cell_at s cell))
  value (t.field status field) s = given (cell_of_place status s) (λ cell. Ok (cell_at s (cell + field_place field)))
  value (t.signed sign operand) s = given (value operand s) (λ v. Ok (unary_applied sign v))
  value (t.chain first links) s = given (value first s) (λ v. value_with_links links v s)
  value (t.choice test taken spared) s = given (value test s) (λ v. if is_set v then value taken s else value spared s)

  -- the links after an operand with this value
  pub value_with_links : TypedLinks → ℤ → State → Result ℤ Fault
  value_with_links t.no_link v s = Ok v
  value_with_links (t.link operator operand links) v s =
      given (if is_decided operator v then Ok (int_of (is_set v)) else given (value operand s) (λ w. operated operator v w))
      (λ v. value_with_links links v s)

  -- the cell of a place
  pub cell_of_place : TypedPlace → State → Result ℕ Fault
  cell_of_place (t.whole variable) s = given (cells_of variable s) (λ cells. Ok cells.from)
  cell_of_place (t.element variable index) s = given (value index s) (λ i. given (cells_of variable s) (λ cells. element cells i))

-- the values of expressions, from left to right
abbrev pub values : List TypedExpr → State → Result (List ℤ) Fault
values [] s = Ok []
values (e ∷ es) s = given (value e s) (λ v. given (values es s) (λ vs. Ok (v ∷ vs)))

-- ---- references

-- the cells that a reference means
abbrev pub range : Reference → State → Result Cells Fault
range t.nothing s = Ok no_cells
range (t.all_of variable) s = cells_of variable s
range (t.from variable index) s = given (value index s) (λ i. given (cells_of variable s) (λ cells. elements_from cells i))
