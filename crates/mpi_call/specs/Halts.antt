-- Faults and halts by number.
use Rattle.std.specs.Prelude.{ℕ, Bool, ◌==◌}
use Rattle.mpi_call.specs.declared.call.Fault.{Fault}
use Rattle.mpi_call.specs.declared.call.Fault.TheVariants.{DivideByZero, OutOfBounds, BadRank, BadTag, BadCount, BadComm, Budget, OutputFull, Depth, Cells}

-- the faults are numbered from 1 in the order of their list
abbrev pub fault_number : Fault → ℕ
fault_number DivideByZero = 1
fault_number OutOfBounds = 2
fault_number BadRank = 3
fault_number BadTag = 4
fault_number BadCount = 5
fault_number BadComm = 6
fault_number Budget = 7
fault_number OutputFull = 8
fault_number Depth = 9
fault_number Cells = 10

-- two faults are the same
abbrev pub same_fault : Fault → Fault → Bool
same_fault a b = fault_number a == fault_number b
