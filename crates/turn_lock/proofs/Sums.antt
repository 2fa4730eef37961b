-- Sums over views, and functions changed at one number.
use Rattle.std.proofs.Common.{◌≡◌, ◌≢◌, ℕ, zero, suc, ◌+◌, ◌≤◌, List, [], ◌∷◌, ◌++◌, set, sym, refl, ap, arith}
use mathlib.Core.Option.{some, some-ne-none, some-injective}
use native.Mathlib.Decide.{ℕ_discrete}
use lib.ListN.{get_elem?}
use Rattle.turn_lock.specs.Rule.{total}

module _ {A : Type 0} where
  pub total_set : (f : A → ℕ) (xs : List A) (j : ℕ) (v w : A) → get_elem? xs j ≡ some v → total f (set xs j w) + f v ≡ total f xs + f w
  total_set f [] j v w e = absurd (some-ne-none v (sym e))
  total_set f (x ∷ xs) zero v w e = let h : f x ≡ f v = ap f (some-injective x v e) in omega arith
  total_set f (x ∷ xs) (suc j) v w e = let h = total_set f xs j v w e in omega arith

  pub total_append : (f : A → ℕ) (xs ys : List A) → total f (xs ++ ys) ≡ total f xs + total f ys
  total_append f [] ys = omega arith
  total_append f (x ∷ xs) ys = omega (arith, total_append f xs ys)

  pub total_le : (f g : A → ℕ) (xs : List A) → ((j : ℕ) (v : A) → get_elem? xs j ≡ some v → f v ≤ g v) → total f xs ≤ total g xs
  total_le f g [] h = omega arith
  total_le f g (x ∷ xs) h = let a : f x ≤ g x = h zero x refl in let b = total_le f g xs (λ j v e. h (suc j) v e) in omega arith

abbrev pick : {P : Type 0} → Dec P → ℕ → ℕ → ℕ
pick (yes _) a b = a
pick (no _) a b = b

pub put : (ℕ → ℕ) → ℕ → ℕ → ℕ → ℕ
put f i c j = pick (ℕ_discrete j i) c (f j)

pub put_here : (f : ℕ → ℕ) (i c : ℕ) → put f i c i ≡ c
unfolding put
put_here f i c = go (ℕ_discrete i i)
  where
    go : (d : Dec (i ≡ i)) → pick d c (f i) ≡ c
    go (yes _) = refl
    go (no n) = absurd (n refl)

pub put_else : (f : ℕ → ℕ) (i c j : ℕ) → j ≢ i → put f i c j ≡ f j
unfolding put
put_else f i c j other = go (ℕ_discrete j i)
  where
    go : (d : Dec (j ≡ i)) → pick d c (f j) ≡ f j
    go (yes e) = absurd (other e)
    go (no _) = refl

-- what the number a had, the number b has
pub moved : (ℕ → ℕ) → ℕ → ℕ → ℕ → ℕ
moved f a b k = pick (ℕ_discrete (f k) a) b (f k)

pub moved_here : (f : ℕ → ℕ) (a b k : ℕ) → f k ≡ a → moved f a b k ≡ b
unfolding moved
moved_here f a b k e = go (ℕ_discrete (f k) a)
  where
    go : (d : Dec (f k ≡ a)) → pick d b (f k) ≡ b
    go (yes _) = refl
    go (no n) = absurd (n e)

pub moved_else : (f : ℕ → ℕ) (a b k : ℕ) → f k ≢ a → moved f a b k ≡ f k
unfolding moved
moved_else f a b k n = go (ℕ_discrete (f k) a)
  where
    go : (d : Dec (f k ≡ a)) → pick d b (f k) ≡ f k
    go (yes e) = absurd (n e)
    go (no _) = refl
