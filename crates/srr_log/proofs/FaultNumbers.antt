-- A fault and its number, both ways.
use Rattle.std.proofs.Common.{◌≡◌, ℕ, zero, suc, ◌≤◌, refl, ap, arith}
use Rattle.std.specs.Prelude.{Some}
use Rattle.mpi_call.specs.declared.call.Fault.{Fault}
use Rattle.mpi_call.specs.declared.call.Fault.TheVariants.{DivideByZero, OutOfBounds, BadRank, BadTag, BadCount, BadComm, Budget, OutputFull, Depth, Cells}
use Rattle.mpi_call.specs.Halts.{fault_number}
use Rattle.srr_log.specs.FaultNumbers.{fault_numbered}

pub fault_read : (fault : Fault) → (fault_number fault ≤ 10) × (fault_numbered (fault_number fault) ≡ Some fault)
fault_read DivideByZero = (omega arith, refl)
fault_read OutOfBounds = (omega arith, refl)
fault_read BadRank = (omega arith, refl)
fault_read BadTag = (omega arith, refl)
fault_read BadCount = (omega arith, refl)
fault_read BadComm = (omega arith, refl)
fault_read Budget = (omega arith, refl)
fault_read OutputFull = (omega arith, refl)
fault_read Depth = (omega arith, refl)
fault_read Cells = (omega arith, refl)

pub fault_said : (number : ℕ) (fault : Fault) → fault_numbered number ≡ Some fault → number ≡ fault_number fault
fault_said zero fault e = absurd cc
fault_said (suc zero) fault e = let k : DivideByZero ≡ fault = cc in ap fault_number k
fault_said (suc (suc zero)) fault e = let k : OutOfBounds ≡ fault = cc in ap fault_number k
fault_said (suc (suc (suc zero))) fault e = let k : BadRank ≡ fault = cc in ap fault_number k
fault_said (suc (suc (suc (suc zero)))) fault e = let k : BadTag ≡ fault = cc in ap fault_number k
fault_said (suc (suc (suc (suc (suc zero))))) fault e = let k : BadCount ≡ fault = cc in ap fault_number k
fault_said (suc (suc (suc (suc (suc (suc zero)))))) fault e = let k : BadComm ≡ fault = cc in ap fault_number k
fault_said (suc (suc (suc (suc (suc (suc (suc zero))))))) fault e = let k : Budget ≡ fault = cc in ap fault_number k
fault_said (suc (suc (suc (suc (suc (suc (suc (suc zero)))))))) fault e = let k : OutputFull ≡ fault = cc in ap fault_number k
fault_said (suc (suc (suc (suc (suc (suc (suc (suc (suc zero))))))))) fault e = let k : Depth ≡ fault = cc in ap fault_number k
fault_said (suc (suc (suc (suc (suc (suc (suc (suc (suc (suc zero)))))))))) fault e = let k : Cells ≡ fault = cc in ap fault_number k
fault_said (suc (suc (suc (suc (suc (suc (suc (suc (suc (suc (suc number))))))))))) fault e = absurd cc
