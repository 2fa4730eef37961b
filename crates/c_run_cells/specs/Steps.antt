-- What taking a step does.
use Rattle.std.specs.Prelude.{◌≡◌, ℕ, zero, suc, Bool, true, false}
use Rattle.c_program.specs.State.{State}

-- from a state that has so many steps left
abbrev pub HasStepped : ℕ → State → State → Bool → Type 0
HasStepped zero s t taken = (taken ≡ false) × (t ≡ s)
HasStepped (suc n) s t taken = (taken ≡ true) × (t ≡ record s { left = n })
