-- What the lists of a state do.
use Rattle.std.proofs.Common.{◌≡◌, ◌+◌, ◌*◌, ◌≤◌, ◌∙◌, ◌++◌, ℕ, zero, suc, List, [], ◌∷◌, length, take, refl, sym, ap, arith, append_assoc, length-append}
use Rattle.std.proofs.lemmas.List.{append-nil, length-map, take-map}
use Rattle.std.specs.Prelude.{ℤ}
use Rattle.run_model.specs.Lists.{world}
use Rattle.c_names.specs.declared.kind.VariableKind.{VariableKind}
use Rattle.c_names.specs.declared.kind.VariableKind.TheVariants.{Int, Status, Request, Communicator}
use Rattle.c_program.specs.Meaning.{repeated}
use Rattle.c_program.specs.State.{State, cell_at, first_cells, values_from, width_of}

pub values_last : (cell n : ℕ) (s : State) → values_from cell (n + 1) s ≡ values_from cell n s ++ cell_at s (cell + n) ∷ []
values_last cell zero s = let e : cell + 0 ≡ cell = omega arith in rw e refl
values_last cell (suc n) s =
    let more : suc n + 1 ≡ suc (n + 1) = omega arith in
    let e : cell + 1 + n ≡ cell + suc n = omega arith in
    rw more (ap (λ xs. cell_at s cell ∷ xs) (values_last (cell + 1) n s ∙ ap (λ at. values_from (cell + 1) n s ++ cell_at s at ∷ []) e))

pub take_world : (n m from : ℕ) → n ≤ m → take n (world m from) ≡ world n from
take_world zero zero from h = refl
take_world zero (suc m) from h = refl
take_world (suc n) zero from h = absurd (omega arith)
take_world (suc n) (suc m) from h = ap (λ xs. from ∷ xs) (take_world n m (from + 1) (omega arith))

repeated_turned : (n : ℕ) (xs : List ℤ) → xs ++ repeated n xs ≡ repeated n xs ++ xs
repeated_turned zero xs = append-nil xs
repeated_turned (suc n) xs = ap (λ ys. xs ++ ys) (repeated_turned n xs) ∙ sym (append_assoc xs (repeated n xs) xs)

pub repeated_last : (n : ℕ) (xs : List ℤ) → repeated (n + 1) xs ≡ repeated n xs ++ xs
repeated_last n xs = let more : n + 1 ≡ suc n = omega arith in rw more (repeated_turned n xs)

pub repeated_grows : (n m : ℕ) (xs : List ℤ) → n ≤ m → length (repeated n xs) ≤ length (repeated m xs)
repeated_grows zero m xs h = omega arith
repeated_grows (suc n) zero xs h = absurd (omega arith)
repeated_grows (suc n) (suc m) xs h =
    omega (arith, repeated_grows n m xs (omega arith), length-append xs (repeated n xs), length-append xs (repeated m xs))

pub repeated_bound : (xs ys first : List ℤ) (n m : ℕ) → n ≤ m → ys ≡ xs ++ repeated n first → length ys ≤ length xs + length (repeated m first)
repeated_bound xs ys first n m h e = rw e (omega (arith, length-append xs (repeated n first), repeated_grows n m first h))

length-first : (kind : VariableKind) → length (first_cells kind) ≡ width_of kind
length-first Int = refl
length-first Status = refl
length-first Request = refl
length-first Communicator = refl

length-repeated : (n : ℕ) (xs : List ℤ) → length (repeated n xs) ≡ n * length xs
length-repeated zero xs = omega arith
length-repeated (suc n) xs = omega (arith, length-append xs (repeated n xs), length-repeated n xs)

-- how many cells a variable has
pub cells_counted : (n : ℕ) (kind : VariableKind) → length (repeated n (first_cells kind)) ≡ n * width_of kind
cells_counted n kind = length-repeated n (first_cells kind) ∙ ap (λ k. n * k) (length-first kind)

pub ruleset slots = (take-map, length-map)
