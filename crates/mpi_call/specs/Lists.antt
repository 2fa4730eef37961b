-- Words on lists.
use Rattle.std.specs.Prelude.{◌≡◌, ◌≤◌, ◌⊎◌, ◌+◌, ℕ, suc, List, [], ◌∷◌, Bool, true, ◌&&◌, if◌then◌else◌, nat_le, nat_lt}

-- `x` is an element of the list. (As std's `Contains`, for proofs by the list's length.)
abbrev pub IsIn : {A : Type 0} → A → List A → Type 0
IsIn x [] = ⊥
IsIn x (y ∷ ys) = (y ≡ x) ⊎ IsIn x ys

-- the first number is at least `least`, and each other is above the one before it
abbrev pub Rises : ℕ → List ℕ → Type 0
Rises least [] = Unit {0}
Rises least (number ∷ numbers) = (least ≤ number) × Rises (number + 1) numbers

-- the same, as a test
abbrev pub rises : ℕ → List ℕ → Bool
rises least [] = true
rises least (number ∷ numbers) = nat_le least number && rises (number + 1) numbers

-- how many numbers are below another
abbrev pub count_below : ℕ → List ℕ → ℕ
count_below number [] = 0
count_below number (other ∷ numbers) = if nat_lt other number then suc (count_below number numbers) else count_below number numbers
