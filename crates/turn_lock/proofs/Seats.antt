-- Lists of seats, as they are split off and joined.
use Rattle.std.proofs.Common.{◌≡◌, ℕ, zero, suc, ◌+◌, ◌-◌, ◌<◌, List, [], ◌∷◌, ◌++◌, length, All, Any, slice_get, slice_index_or, Some, inl, inr, sym, refl, ap, ◌∙◌, subst, arith, length-append}
use mathlib.Core.Logic.{dite}
use native.Mathlib.Decide.{ℕ_discrete}
use Rattle.atomic_table.specs.Seated.{TableId}
use Rattle.turn_lock.specs.Entries.{entries_of, StartsWith}
use Rattle.turn_lock.specs.Rule.{account, fresh_accounts}
use Rattle.turn_lock.specs.Seat.{SeatView}
use Rattle.turn_lock.specs.inside.Ends.{accounts_at, IsIdleAt, HasAccount, AllStand}
use Rattle.turn_lock.specs.declared.view.Account.{Account}

module _ {E F : Type 0} where
  pub accounts_at-append : (xs ys : List (SeatView E F)) → accounts_at (xs ++ ys) ≡ accounts_at xs ++ accounts_at ys
  accounts_at-append [] ys = refl
  accounts_at-append (x ∷ xs) ys = ap (λ (l : List (Account E)). account x.number x.own x.seen ∷ l) (accounts_at-append xs ys)

  -- a seat goes from the list to the accounts that were joined
  pub account_moves : (xs ys : List (SeatView E F)) (s : SeatView E F) (accounts : List (Account E)) → ys ≡ xs ++ s ∷ []
      → accounts_at xs ++ (account s.number s.own s.seen ∷ []) ++ accounts ≡ accounts_at ys ++ accounts
  account_moves xs ys s accounts is = rw is (ap (λ (l : List (Account E)). l ++ accounts) (sym (accounts_at-append xs (s ∷ []))))

  All-front : (P : SeatView E F → Type 0) (xs ys : List (SeatView E F)) (s : SeatView E F) → ys ≡ xs ++ s ∷ [] → All P ys → All P xs
  All-front P xs ys s is all k d lt = let h : All P (xs ++ s ∷ []) = subst (All P) is all in front xs k d lt (h k d (let e = length-append xs (s ∷ []) in omega arith))
    where
      front : (xs : List (SeatView E F)) (k : ℕ) (d : SeatView E F) → k < length xs → P (slice_index_or (xs ++ s ∷ []) k d) → P (slice_index_or xs k d)
      front [] k d lt p = absurd (omega arith)
      front (x ∷ xs) zero d lt p = p
      front (x ∷ xs) (suc k) d lt p = front xs k d (omega arith) p

  All-last : (P : SeatView E F → Type 0) (xs ys : List (SeatView E F)) (s : SeatView E F) → ys ≡ xs ++ s ∷ [] → All P ys → P s
  All-last P xs ys s is all = let h : All P (xs ++ s ∷ []) = subst (All P) is all in last xs (h (length xs) s (let e = length-append xs (s ∷ []) in omega arith))
    where
      last : (xs : List (SeatView E F)) → P (slice_index_or (xs ++ s ∷ []) (length xs) s) → P s
      last [] p = p
      last (x ∷ xs) p = last xs p

  pub idle_front : (table : TableId) (xs ys : List (SeatView E F)) (s : SeatView E F) → ys ≡ xs ++ s ∷ [] → All (λ s. IsIdleAt table s) ys → All (λ s. IsIdleAt table s) xs
  idle_front table = All-front (λ s. IsIdleAt table s)

  pub idle_last : (table : TableId) (xs ys : List (SeatView E F)) (s : SeatView E F) → ys ≡ xs ++ s ∷ [] → All (λ s. IsIdleAt table s) ys → IsIdleAt table s
  idle_last table = All-last (λ s. IsIdleAt table s)

  has_account : (k : ℕ) (xs : List (SeatView E F)) → Any (λ s. s.number ≡ k) xs → HasAccount k (accounts_at xs)
  has_account k xs h = go xs h.0 h.1 h.2 (ap (λ (s : SeatView E F). s.number) h.3 ∙ h.4)
    where
      go : (xs : List (SeatView E F)) (i : ℕ) (d : SeatView E F) → i < length xs → (slice_index_or xs i d).number ≡ k → HasAccount k (accounts_at xs)
      go [] i d lt e = absurd (omega arith)
      go (x ∷ xs) zero d lt e = inl e
      go (x ∷ xs) (suc i) d lt e = inr (go xs i d (omega arith) e)

  -- the accounts that were joined have every number
  pub all_joined : (xs : List (SeatView E F)) (accounts : List (Account E)) (n m : ℕ) → accounts ≡ accounts_at xs → n ≡ m → ((k : ℕ) → k < m → Any (λ s. s.number ≡ k) xs)
      → (k : ℕ) → k < n → HasAccount k accounts
  all_joined xs accounts n m is same each k lt = subst (HasAccount k) (sym is) (has_account k xs (each k (omega arith)))

  pub own_stand : (es : List (ℕ × E)) (xs : List (SeatView E F)) → AllStand es (accounts_at xs) → All (λ s. entries_of s.number es ≡ s.own) xs
  own_stand es [] h k d lt = absurd (omega arith)
  own_stand es (x ∷ xs) h zero d lt = sym h.0.0
  own_stand es (x ∷ xs) h (suc k) d lt = own_stand es xs h.1 k d (omega arith)

  pub seen_stand : (es : List (ℕ × E)) (xs : List (SeatView E F)) → AllStand es (accounts_at xs) → All (λ s. StartsWith es s.seen) xs
  seen_stand es [] h k d lt = absurd (omega arith)
  seen_stand es (x ∷ xs) h zero d lt = h.0.1
  seen_stand es (x ∷ xs) h (suc k) d lt = seen_stand es xs h.1 k d (omega arith)

module _ (E : Type 0) where
  pub fresh_next : (k n : ℕ) → k < n → fresh_accounts {E = E} k (n - k) ≡ account k [] [] ∷ fresh_accounts (k + 1) (n - (k + 1))
  fresh_next k n lt = let e : n - k ≡ suc (n - (k + 1)) = omega arith in let f : suc k ≡ k + 1 = omega arith in
      ap (λ (m : ℕ). fresh_accounts {E = E} k m) e ∙ ap (λ (i : ℕ). account k [] [] ∷ fresh_accounts {E = E} i (n - (k + 1))) f

module _ {X : Type 0} where
  get_front : (xs : List X) (x : X) (k : ℕ) → k < length xs → slice_get (xs ++ x ∷ []) k ≡ slice_get xs k
  get_front [] x k lt = absurd (omega arith)
  get_front (y ∷ ys) x zero lt = refl
  get_front (y ∷ ys) x (suc k) lt = get_front ys x k (omega arith)

  get_last : (xs : List X) (x : X) → slice_get (xs ++ x ∷ []) (length xs) ≡ Some x
  get_last [] x = refl
  get_last (y ∷ ys) x = get_last ys x

  -- what each element is, with one more
  pub each_more : (f : ℕ → X) (xs ys : List X) (n m : ℕ) (x : X) → ys ≡ xs ++ x ∷ [] → length xs ≡ n → x ≡ f n → m ≡ n + 1 → ((k : ℕ) → k < n → slice_get xs k ≡ Some (f k))
      → (k : ℕ) → k < m → slice_get ys k ≡ Some (f k)
  each_more f xs ys n m x is len here more each k lt = dite (ℕ_discrete k n)
      (λ e. ap (λ (l : List X). slice_get l k) is ∙ (ap (λ (i : ℕ). slice_get (xs ++ x ∷ []) i) (e ∙ sym len) ∙ (get_last xs x ∙ ap Some (here ∙ ap f (sym e)))))
      (λ ne. let l : k < n = omega arith in ap (λ (l : List X). slice_get l k) is ∙ (get_front xs x k (omega arith) ∙ each k l))
