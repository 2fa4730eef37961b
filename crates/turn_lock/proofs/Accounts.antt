-- Lists of accounts: what stays true of them when a seat steps.
use Rattle.std.proofs.Common.{◌≡◌, ◌≢◌, ℕ, zero, suc, ◌+◌, ◌<◌, ◌≤◌, List, [], ◌∷◌, ◌++◌, length, sym, refl, ap, ◌∙◌, subst, ⊎_elim, arith}
use Rattle.turn_lock.specs.Entries.{entries_of, StartsWith, Grows}
use Rattle.turn_lock.specs.Rule.{account, fresh_accounts, seen_in, AccountsFit}
use Rattle.turn_lock.specs.Steps.{own_in, IsOneAccount, informed, renewed}
use Rattle.turn_lock.specs.inside.Ends.{HasAccount, AllStand}
use Rattle.turn_lock.specs.declared.view.Account.{Account}
use Rattle.turn_lock.proofs.Growth.{starts_whole, grown_other, grown_starts}
use Rattle.turn_lock.proofs.Sums.{put, put_else}

-- no account has the number k
abbrev pub Lacks : {E : Type 0} → ℕ → List (Account E) → Type 0
Lacks k [] = Unit {0}
Lacks k (x ∷ xs) = (x.number ≢ k) × Lacks k xs

module _ {E : Type 0} (seats : ℕ) where
  -- the accounts of the view j are those of j' once the owners are others
  pub fits_owner : (owner owner' : ℕ → ℕ) (history : List (ℕ × E)) (j j' : ℕ) (xs : List (Account E)) → ((k : ℕ) → owner k ≡ j → owner' k ≡ j')
      → AccountsFit seats owner history j xs → AccountsFit seats owner' history j' xs
  fits_owner owner owner' history j j' [] same h = tt
  fits_owner owner owner' history j j' (x ∷ xs) same h =
      (record { number = h.0.number; owned = same x.number h.0.owned; own = h.0.own; seen = h.0.seen }, fits_owner owner owner' history j j' xs same h.1)

  -- an entry of one view's seat leaves the accounts of another view
  pub fits_grown : (owner : ℕ → ℕ) (k me j : ℕ) (before after : List (ℕ × E)) (xs : List (Account E)) → owner k ≡ me → j ≢ me → Grows k before after
      → AccountsFit seats owner before j xs → AccountsFit seats owner after j xs
  fits_grown owner k me j before after [] owned other g h = tt
  fits_grown owner k me j before after (x ∷ xs) owned other g h =
      let ne : k ≢ x.number = λ e. other (sym h.0.owned ∙ (ap owner (sym e) ∙ owned)) in (
        record {
          number = h.0.number;
          owned = h.0.owned;
          own = h.0.own ∙ grown_other k x.number before after ne g;
          seen = grown_starts k before after x.seen g h.0.seen;
        },
        fits_grown owner k me j before after xs owned other g h.1,
      )

  pub fits_append : (owner : ℕ → ℕ) (history : List (ℕ × E)) (j : ℕ) (xs ys : List (Account E))
      → AccountsFit seats owner history j xs → AccountsFit seats owner history j ys → AccountsFit seats owner history j (xs ++ ys)
  fits_append owner history j [] ys h i = i
  fits_append owner history j (x ∷ xs) ys h i = (h.0, fits_append owner history j xs ys h.1 i)

  pub fits_informed : (owner : ℕ → ℕ) (history : List (ℕ × E)) (j : ℕ) (es : List (ℕ × E)) (xs : List (Account E)) → es ≡ history
      → AccountsFit seats owner history j xs → AccountsFit seats owner history j (informed es xs)
  fits_informed owner history j es [] is h = tt
  fits_informed owner history j es (x ∷ xs) is h =
      (record { number = h.0.number; owned = h.0.owned; own = h.0.own; seen = starts_whole history es is }, fits_informed owner history j es xs is h.1)

  -- accounts that lack k stay where k gets another owner
  pub fits_lacking : (owner : ℕ → ℕ) (history : List (ℕ × E)) (j new k : ℕ) (xs : List (Account E)) → Lacks k xs
      → AccountsFit seats owner history j xs → AccountsFit seats (put owner k new) history j xs
  fits_lacking owner history j new k [] lacks h = tt
  fits_lacking owner history j new k (x ∷ xs) lacks h = (
    record { number = h.0.number; owned = put_else owner k new x.number lacks.0 ∙ h.0.owned; own = h.0.own; seen = h.0.seen },
    fits_lacking owner history j new k xs lacks.1 h.1,
  )

  pub seen_begins : (owner : ℕ → ℕ) (history : List (ℕ × E)) (j : ℕ) (xs : List (Account E)) → AccountsFit seats owner history j xs → StartsWith history (seen_in xs)
  seen_begins owner history j [] h = (history, refl)
  seen_begins owner history j (x ∷ xs) h = h.0.seen

  pub own_stands : (owner : ℕ → ℕ) (history : List (ℕ × E)) (j : ℕ) (xs : List (Account E)) → AccountsFit seats owner history j xs
      → (k : ℕ) → IsOneAccount k xs → own_in xs ≡ entries_of k history
  own_stands owner history j xs h k is = (subst (AccountsFit seats owner history j) is h).0.own

  pub all_stand : (owner : ℕ → ℕ) (history : List (ℕ × E)) (j : ℕ) (xs : List (Account E)) → AccountsFit seats owner history j xs → AllStand history xs
  all_stand owner history j [] h = tt
  all_stand owner history j (x ∷ xs) h = ((h.0.own, h.0.seen), all_stand owner history j xs h.1)

  pub owner_at : (owner : ℕ → ℕ) (history : List (ℕ × E)) (j k : ℕ) (xs : List (Account E)) → AccountsFit seats owner history j xs → HasAccount k xs → owner k ≡ j
  owner_at owner history j k [] h i = absurd i
  owner_at owner history j k (x ∷ xs) h i =
      ⊎_elim (λ (e : x.number ≡ k). ap owner (sym e) ∙ h.0.owned) (λ (i' : HasAccount k xs). owner_at owner history j k xs h.1 i') i

  pub some_owned : (owner : ℕ → ℕ) (history : List (ℕ × E)) (j : ℕ) (xs : List (Account E)) → AccountsFit seats owner history j xs → 0 < length xs
      → (k : ℕ) × (k < seats) × (owner k ≡ j)
  some_owned owner history j [] h l = absurd (omega arith)
  some_owned owner history j (x ∷ xs) h l = (x.number, h.0.number, h.0.owned)

module _ {E : Type 0} where
  pub length-informed : (es : List (ℕ × E)) (xs : List (Account E)) → length (informed es xs) ≡ length xs
  length-informed es [] = refl
  length-informed es (x ∷ xs) = ap suc (length-informed es xs)

  pub seen_in-informed : (es : List (ℕ × E)) (xs : List (Account E)) → 0 < length xs → seen_in (informed es xs) ≡ es
  seen_in-informed es [] l = absurd (omega arith)
  seen_in-informed es (x ∷ xs) l = refl

  pub renewed-one : (es : List (ℕ × E)) (k : ℕ) (xs : List (Account E)) → IsOneAccount k xs → renewed es xs ≡ account k (entries_of k es) es ∷ []
  renewed-one es k xs is = ap (renewed es) is

-- fresh accounts, numbered from i
module _ (E : Type 0) where
  pub length-fresh : (n i : ℕ) → length (fresh_accounts {E = E} i n) ≡ n
  length-fresh zero i = refl
  length-fresh (suc n) i = let h = length-fresh n (suc i) in omega arith

  pub fresh_lacks : (n i k : ℕ) → k < i → Lacks {E = E} k (fresh_accounts i n)
  fresh_lacks zero i k lt = tt
  fresh_lacks (suc n) i k lt = ((λ e. omega arith), fresh_lacks n (suc i) k (omega arith))

  pub fits_fresh : (seats n i : ℕ) → i + n ≤ seats → AccountsFit {E = E} seats (λ k. 0) [] 0 (fresh_accounts i n)
  fits_fresh seats zero i le = tt
  fits_fresh seats (suc n) i le = (record { number = omega arith; owned = refl; own = refl; seen = ([], refl) }, fits_fresh seats n (suc i) (omega arith))
