-- What holds of each element and its place, in lists that grow and shrink at their end.
use Rattle.std.proofs.Common.{◌≡◌, ◌<◌, ◌+◌, ◌++◌, ◌∷◌, ◌∙◌, [], List, ℕ, arith, ap, length, length-append, slice_index_or, subst, sym, take, refl}
use Rattle.std.proofs.Math.Seq.{get_or-append_seam}
use Rattle.std.proofs.lemmas.List.{get_or_append_left}
use mathlib.Core.Logic.{dite}
use native.Mathlib.Decide.{ℕ_discrete}
use Rattle.rank_threads.specs.inside.Workers.{Each}

module _ {X : Type 0} where
  pub length-snoc : (xs : List X) (x : X) → length (xs ++ x ∷ []) ≡ length xs + 1
  length-snoc xs x = length-append xs (x ∷ [])

  pub length-last : (xs ys : List X) (x : X) → ys ≡ xs ++ x ∷ [] → length ys ≡ length xs + 1
  length-last xs ys x is = ap (λ (l : List X). length l) is ∙ length-snoc xs x

  -- one element more
  pub each_snoc : (P : ℕ → X → Type 0) (xs ys : List X) (x : X) → ys ≡ xs ++ x ∷ [] → Each P xs → P (length xs) x → Each P ys
  each_snoc P xs ys x is each last k d lt =
      let F : List X → Type 0 = λ l. P k (slice_index_or l k d) in
      subst F (sym is) (dite (ℕ_discrete k (length xs))
      (λ e.
      let here : slice_index_or (xs ++ x ∷ []) k d ≡ x = ap (λ (i : ℕ). slice_index_or (xs ++ x ∷ []) i d) e ∙ get_or-append_seam xs x [] d in
      subst (λ (z : ℕ × X). P z.0 z.1) (λ i. (sym e i, sym here i)) last)
      (λ ne.
      let before : k < length xs = (let n = length-last xs ys x is in omega (arith, ne, lt, n)) in
      subst (P k) (sym (get_or_append_left xs (x ∷ []) d k before)) (each k d before)))

  -- without the last one
  pub each_init : (P : ℕ → X → Type 0) (xs ys : List X) (x : X) → ys ≡ xs ++ x ∷ [] → Each P ys → Each P xs
  each_init P xs ys x is each k d lt =
      let there : slice_index_or ys k d ≡ slice_index_or xs k d = ap (λ (l : List X). slice_index_or l k d) is ∙ get_or_append_left xs (x ∷ []) d k lt in
      subst (P k) there (each k d (let n = length-last xs ys x is in omega (arith, lt, n)))

  pub each_last : (P : ℕ → X → Type 0) (xs ys : List X) (x : X) → ys ≡ xs ++ x ∷ [] → Each P ys → P (length xs) x
  each_last P xs ys x is each =
      let there : slice_index_or ys (length xs) x ≡ x = ap (λ (l : List X). slice_index_or l (length xs) x) is ∙ get_or-append_seam xs x [] x in
      subst (P (length xs)) there (each (length xs) x (let n = length-last xs ys x is in omega (arith, n)))

  -- what a Vec holds after its slice was lent and written
  pub written : (new rest : List X) (n : ℕ) → length new ≡ n → take n (new ++ rest) ≡ new
  written new rest n e = subst (λ (m : ℕ). take m (new ++ rest) ≡ new) e (go new)
    where
      go : (xs : List _) → take (length xs) (xs ++ rest) ≡ xs
      go [] = refl
      go (x ∷ xs) = λ i. x ∷ go xs i
