-- The fault of a number, in both formats.
use Rattle.std.specs.Prelude.{ℕ, zero, suc, List, [], ◌∷◌, Option, Some, None}
use Rattle.mpi_call.specs.declared.call.Fault.{Fault}
use Rattle.mpi_call.specs.declared.call.Fault.TheVariants.{DivideByZero, OutOfBounds, BadRank, BadTag, BadCount, BadComm, Budget, OutputFull, Depth, Cells}

-- the element at that place of a list, counted from 1
abbrev pub nth_of : {A : Type 0} → List A → ℕ → Option A
nth_of [] number = None
nth_of (x ∷ xs) zero = None
nth_of (x ∷ xs) (suc zero) = Some x
nth_of (x ∷ xs) (suc (suc number)) = nth_of xs (suc number)

-- the fault that has this number, from 1 in the order of their list
abbrev pub fault_numbered : ℕ → Option Fault
fault_numbered number = nth_of (DivideByZero ∷ OutOfBounds ∷ BadRank ∷ BadTag ∷ BadCount ∷ BadComm ∷ Budget ∷ OutputFull ∷ Depth ∷ Cells ∷ []) number
