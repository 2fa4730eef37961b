-- Starts and Enters are found again in longer views.
use Rattle.std.proofs.Common.{◌++◌, ◌<◌, ◌∷◌, ◌≡◌, ◌⊎◌, List, None, Option, Some, [], ap, arith, inl, inr, length, refl, slice_get, suc, zero, ℕ}
use Rattle.run_model.specs.Communicators.{enter_at, entered_from, is_on, known_first, learned}
use Rattle.run_model.specs.Lists.{IsPrefixOf}
use Rattle.run_model.specs.Views.{View, is_start, start_at, starts_of}
use Rattle.run_model.proofs.Views.{test_cases}

pub slice_get-append : {A : Type 0} (xs ys : List A) (k : ℕ) (x : A) → slice_get xs k ≡ Some x → slice_get (xs ++ ys) k ≡ Some x
slice_get-append [] ys k x h = absurd (cc)
slice_get-append (y ∷ xs) ys zero x h = h
slice_get-append (y ∷ xs) ys (suc k) x h = slice_get-append xs ys k x h

pub starts_of-append : (xs ys : View) → starts_of (xs ++ ys) ≡ starts_of xs ++ starts_of ys
starts_of-append [] ys = refl
starts_of-append (x ∷ xs) ys =
    elim (test_cases (is_start x)) [
      | inl h ↦ rw (h, starts_of-append xs ys)
      | inr h ↦ rw (h, starts_of-append xs ys)
    ]

pub entered_from-append : (comm number : ℕ) (known : Option (List ℕ)) (xs ys : View)
    → IsPrefixOf (entered_from comm number known xs) (entered_from comm number known (xs ++ ys))
entered_from-append comm number known [] ys = (entered_from comm number known ys, refl)
entered_from-append comm number known ((call, reply) ∷ xs) ys =
    elim (test_cases (is_start (call, reply))) [
      | inl h ↦ elim (test_cases (is_on comm call)) [
        | inl on ↦
            let later = entered_from-append comm (suc number) (learned comm known reply) xs ys in
            rw (h, on) (later.0, ap (λ l. (record { number = number; call = call; members = known }) ∷ l) later.1)
        | inr off ↦ rw (h, off) (entered_from-append comm (suc number) (learned comm known reply) xs ys)
      ]
      | inr h ↦ rw h (entered_from-append comm number (learned comm known reply) xs ys)
    ]

-- what is found stays found
pub record Keeps {A : Type 0} (o p : Option A) : Type 0 where
  pub kept : (x : A) → o ≡ Some x → p ≡ Some x

pub start_at-kept : (xs ys : View) (number : ℕ) → IsPrefixOf xs ys → Keeps (start_at xs number) (start_at ys number)
start_at-kept xs ys number prefix =
    record { kept = λ x h. rw (← prefix.1, starts_of-append) (slice_get-append (starts_of xs) (starts_of prefix.0) number x h) }

pub enter_at-kept : (n : ℕ) (xs ys : View) (comm instance : ℕ) → IsPrefixOf xs ys
    → Keeps (enter_at n xs comm instance) (enter_at n ys comm instance)
enter_at-kept n xs ys comm instance prefix =
    record {
      kept = λ x h.
          let longer = entered_from-append comm 0 (known_first n comm) xs prefix.0 in
          rw (← prefix.1, ← longer.1) (slice_get-append (entered_from comm 0 (known_first n comm) xs) longer.0 instance x h);
    }

-- places in lists
slice_get-end : {A : Type 0} (xs : List A) → slice_get xs (length xs) ≡ None
slice_get-end [] = refl
slice_get-end (x ∷ xs) = slice_get-end xs

pub slice_get-last : {A : Type 0} (xs : List A) (x : A) → slice_get (xs ++ x ∷ []) (length xs) ≡ Some x
slice_get-last [] x = refl
slice_get-last (y ∷ xs) x = slice_get-last xs x

pub slice_get-below : {A : Type 0} (xs : List A) (k : ℕ) (x : A) → slice_get xs k ≡ Some x → k < length xs
slice_get-below [] k x h = absurd (cc)
slice_get-below (y ∷ xs) zero x h = omega arith
slice_get-below (y ∷ xs) (suc k) x h = let below = slice_get-below xs k x h in omega arith

pub slice_get-push : {A : Type 0} (xs : List A) (x : A) (k : ℕ) (y : A) → slice_get (xs ++ x ∷ []) k ≡ Some y
    → (k ≡ length xs) ⊎ (slice_get xs k ≡ Some y)
slice_get-push [] x zero y h = inl refl
slice_get-push [] x (suc k) y h = absurd (cc)
slice_get-push (z ∷ xs) x zero y h = inr h
slice_get-push (z ∷ xs) x (suc k) y h =
    elim (slice_get-push xs x k y h) [ inl e ↦ inl (omega (arith, e)) | inr t ↦ inr t ]
