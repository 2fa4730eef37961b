-- One more place of a fold of lists, and its length.
use Rattle.std.proofs.Common.{◌≡◌, ℕ, zero, suc, ◌+◌, ℤ, List, [], ◌∷◌, ◌++◌, length, map, ap, ◌∙◌, arith}
use Rattle.std.proofs.lemmas.List.{map-append}
use Rattle.std.proofs.lemmas.List.FromFn.{length-map-range_with_len}
use Rattle.std.specs.List.{range_with_len}
use Rattle.mpi_call.specs.Operations.{fold_of, folds_of, column_of}
use Rattle.mpi_call.specs.declared.call.Op.{Op}

pub range_with_len-more : (a n : ℕ) → range_with_len a (suc n) ≡ range_with_len a n ++ (a + n) ∷ []
range_with_len-more a zero = ap (λ k. k ∷ []) (let e : a ≡ a + 0 = omega arith in e)
range_with_len-more a (suc n) =
    let same : (a + 1) + n ≡ a + suc n = omega arith in
    ap (λ xs. a ∷ xs) (range_with_len-more (a + 1) n ∙ ap (λ k. range_with_len (a + 1) n ++ k ∷ []) same)

pub folds_of-more : (op : Op) (n : ℕ) (lists : List (List ℤ)) → folds_of op (n + 1) lists ≡ folds_of op n lists ++ fold_of op (column_of lists n) ∷ []
folds_of-more op n lists =
    let f : ℕ → ℤ = λ place. fold_of op (column_of lists place) in
    let one : n + 1 ≡ suc n = omega arith in
    let zero_plus : 0 + n ≡ n = omega arith in
    ap (λ k. map f (range_with_len 0 k)) one ∙ (ap (map f) (range_with_len-more 0 n) ∙ (map-append f (range_with_len 0 n) ((0 + n) ∷ []) ∙ ap (λ k. map f (range_with_len 0 n) ++ f k ∷ []) zero_plus))

pub length-folds_of : (op : Op) (n : ℕ) (lists : List (List ℤ)) → length (folds_of op n lists) ≡ n
length-folds_of op n lists = length-map-range_with_len (λ place. fold_of op (column_of lists place)) 0 n
