-- Places in lists that a function was applied to.
use Rattle.std.proofs.Common.{◌≡◌, ◌≤◌, ◌++◌, ◌∷◌, [], ℕ, zero, suc, List, Some, None, ap, append_assoc, arith, length, map, refl, slice_get}

pub at_map : {A B : Type 0} (f : A → B) (xs : List A) (k : ℕ) (x : A) → slice_get xs k ≡ Some x → slice_get (map f xs) k ≡ Some (f x)
at_map f [] k x h = absurd (cc)
at_map f (y ∷ xs) zero x h = (let e : y ≡ x = cc in ap (λ z. Some (f z)) e)
at_map f (y ∷ xs) (suc k) x h = at_map f xs k x h

pub none_map : {A B : Type 0} (f : A → B) (xs : List A) (k : ℕ) → length xs ≤ k → slice_get (map f xs) k ≡ None
none_map f [] k h = refl
none_map f (y ∷ xs) zero h = absurd (omega (arith, h))
none_map f (y ∷ xs) (suc k) h = none_map f xs k (omega (arith, h))

-- five texts behind a text
pub five_texts : (o a b c d e : List ℕ) → ((((o ++ a) ++ b) ++ c) ++ d) ++ e ≡ o ++ ((((a ++ b) ++ c) ++ d) ++ e)
five_texts o a b c d e = simp append_assoc
