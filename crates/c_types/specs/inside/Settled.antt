-- What a walk that is done has found.
use Rattle.std.specs.Prelude.{◌≡◌, List, [], ◌∷◌, Option, Some, None, Result, Ok, Err}
use Rattle.c_scope.specs.Least.{least_fault_from}
use Rattle.c_scope.specs.Typing.{Typing, typed, faults_of}
use Rattle.c_scope.specs.declared.fault.TypingFault.{TypingFault}

-- the typed form, or the first of the faults
abbrev pub Settles : {A B : Type 0} → (A → B) → Result A TypingFault → Typing B → Type 0
Settles pure (Ok form) t = t ≡ typed (pure form)
Settles pure (Err fault) t = least_fault_from None (faults_of t) ≡ Some fault

-- the function that was found, if there is one
abbrev pub found_functions : {A : Type 0} → Option (Option A) → List A
found_functions (Some (Some function)) = function ∷ []
found_functions _ = []
