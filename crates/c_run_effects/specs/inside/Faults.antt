-- The first fault of several results.
use Rattle.std.specs.Prelude.{◌≡◌, ◌⊎◌, Result, Ok, Err}
use Rattle.mpi_call.specs.declared.call.Fault.{Fault}

-- a result has the fault, or it has a value and the fault is behind it
abbrev pub HasFault : {A : Type 0} → Fault → Result A Fault → (A → Type 0) → Type 0
HasFault {A = A} fault result behind = (result ≡ Err fault) ⊎ ((x : A) × (result ≡ Ok x) × behind x)
