-- Lists that are cut at a length.
use Rattle.std.proofs.Common.{◌≡◌, ◌≤◌, ◌∙◌, ◌++◌, ◌∷◌, ℕ, zero, suc, List, [], inl, inr, length, take, ap, refl, arith, append_assoc}
use Rattle.mpi_call.specs.Lists.{IsIn}

-- a list that was cut is cut again when it has grown
pub take_again : {A : Type 0} (most : ℕ) (xs ys : List A) → take most (take most xs ++ ys) ≡ take most (xs ++ ys)
take_again zero xs ys = refl
take_again (suc most) [] ys = refl
take_again (suc most) (x ∷ xs) ys = ap (λ l. x ∷ l) (take_again most xs ys)

-- a list that is not longer is whole
pub take_whole : {A : Type 0} (most : ℕ) (xs : List A) → length xs ≤ most → take most xs ≡ xs
take_whole zero [] h = refl
take_whole zero (x ∷ xs) h = absurd (omega arith)
take_whole (suc most) [] h = refl
take_whole (suc most) (x ∷ xs) h = ap (λ l. x ∷ l) (take_whole most xs (omega arith))

-- and one that is as long loses what comes
pub take_full : {A : Type 0} (most : ℕ) (xs ys : List A) → length xs ≡ most → take most (xs ++ ys) ≡ xs
take_full zero [] ys h = refl
take_full zero (x ∷ xs) ys h = absurd (omega arith)
take_full (suc most) [] ys h = absurd (omega arith)
take_full (suc most) (x ∷ xs) ys h = ap (λ l. x ∷ l) (take_full most xs ys (omega arith))

-- what is cut in two steps
pub take_more : {A : Type 0} (most : ℕ) (given old xs ys : List A) → given ≡ take most (old ++ xs) → take most (given ++ ys) ≡ take most (old ++ (xs ++ ys))
take_more most given old xs ys h =
    ap (λ l. take most (l ++ ys)) h ∙ (take_again most (old ++ xs) ys ∙ ap (take most) (append_assoc old xs ys))

-- the elements of a list that was cut are elements of the list
pub in_cut : {A : Type 0} (most : ℕ) (x : A) (xs : List A) → IsIn x (take most xs) → IsIn x xs
in_cut zero x xs among = absurd among
in_cut (suc most) x [] among = absurd among
in_cut (suc most) x (y ∷ ys) among = elim among [ inl e ↦ inl e | inr later ↦ inr (in_cut most x ys later) ]
