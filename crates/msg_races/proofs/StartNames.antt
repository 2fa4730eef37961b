-- The names of the starts of a rank, by their positions.
use Rattle.std.proofs.Common.{◌≡◌, ◌+◌, ◌++◌, ◌==◌, ◌∷◌, [], ℕ, List, Option, Some, true, false, inl, inr, ap, append_assoc, length, length-append, slice_get, subst, sym, take, ◌∙◌, refl}
use Rattle.std.proofs.lemmas.Bool.{and_from, and_parts, eq-eqb, eqb-true}
use Rattle.std.proofs.Math.Seq.{take-append_seam}
use Rattle.mpi_call.specs.Lists.{count_below}
use Rattle.run_model.specs.declared.event.Event.{Event}
use Rattle.run_model.specs.Pairs.{name_at}
use Rattle.run_model.specs.Views.{is_start, starts_of, view_of}
use Rattle.run_model.proofs.Positions.{name_parts}
use Rattle.run_model.proofs.StartLemmas.{starts_of-append}
use Rattle.run_model.proofs.Views.{test_cases, view_of-append}
use Rattle.causes.specs.Positions.{is_start_of, positions}
use Rattle.causes.proofs.PartnerLemmas.{starts_from}
use Rattle.causes.proofs.PositionLemmas.{count_below-positions, positions-push}

-- a start by its event
pub name_there : (events : List Event) (rank at : ℕ) (event : Event) → slice_get events at ≡ Some event → is_start_of rank event ≡ true
    → name_at events at ≡ Some (rank, count_below at (positions (is_start_of rank) 0 events))
name_there events rank at event there passes =
    let parts = and_parts (is_start (event.call, event.reply)) (event.rank == rank) passes in
    let own : event.rank ≡ rank = eqb-true event.rank rank parts.1 in
    let count : ℕ → ℕ = λ r. length (starts_of (view_of (take at events) r)) in
    let number : count rank ≡ count_below at (positions (is_start_of rank) 0 events) =
    sym (starts_from rank 0 (take at events)) ∙ sym (count_below-positions (is_start_of rank) at events) in
    let N : ℕ → Option (ℕ × ℕ) = λ k. Some (rank, k) in
    let O : ℕ → Option (ℕ × ℕ) = λ r. Some (r, count r) in
    let named : name_at events at ≡ O event.rank = rw (there, parts.0) refl in
    named ∙ ap O own ∙ ap N number

-- what a name says of the event at the position
pub record IsStartOf (events : List Event) (rank number at : ℕ) : Type 0 where
  pub event : Event
  pub there : slice_get events at ≡ Some event
  pub start : is_start (event.call, event.reply) ≡ true
  pub own : event.rank ≡ rank
  pub passes : is_start_of rank event ≡ true
  pub number_is : number ≡ count_below at (positions (is_start_of rank) 0 events)

pub start_of_name : (events : List Event) (rank number at : ℕ) → name_at events at ≡ Some (rank, number) → IsStartOf events rank number at
start_of_name events rank number at named =
    let parts = name_parts (take at events) (slice_get events at) (rank, number) named in
    let own : parts.event.rank ≡ rank = ap (λ (n : ℕ × ℕ). n.0) parts.name_is in
    let passes = and_from (is_start (parts.event.call, parts.event.reply)) (parts.event.rank == rank) parts.start (eq-eqb parts.event.rank rank own) in
    let found = name_there events rank at parts.event parts.there passes in
    let both : Some (rank, number) ≡ Some (rank, count_below at (positions (is_start_of rank) 0 events)) = sym named ∙ found in
    let pairs : (rank, number) ≡ (rank, count_below at (positions (is_start_of rank) 0 events)) = cc in
    record { event = parts.event; there = parts.there; start = parts.start; own = own; passes = passes; number_is = ap (λ (n : ℕ × ℕ). n.1) pairs }

-- the starts at these positions have these numbers, one after the other
abbrev pub AreNumbered : List Event → ℕ → ℕ → List ℕ → Type 0
AreNumbered events rank number [] = Unit {0}
AreNumbered events rank number (place ∷ places) = (name_at events place ≡ Some (rank, number)) × AreNumbered events rank (number + 1) places

seam_get : (xs ys : List Event) (x : Event) → slice_get (xs ++ x ∷ ys) (length xs) ≡ Some x
seam_get [] ys x = refl
seam_get (y ∷ xs) ys x = seam_get xs ys x

count_one_more : (rank : ℕ) (xs : List Event) (y : Event) (own : (y.rank == rank) ≡ true) (start : is_start (y.call, y.reply) ≡ true) → length (starts_of (view_of (xs ++ y ∷ []) rank)) ≡ length (starts_of (view_of xs rank)) + 1
count_one_more rank xs y own start =
    rw (view_of-append xs (y ∷ []) rank, own, starts_of-append (view_of xs rank) ((y.call, y.reply) ∷ []), start, length-append (starts_of (view_of xs rank)) (y.call ∷ [])) refl

count_no_more : (rank : ℕ) (xs : List Event) (y : Event) → is_start_of rank y ≡ false → length (starts_of (view_of (xs ++ y ∷ []) rank)) ≡ length (starts_of (view_of xs rank))
count_no_more rank xs y not_start =
    sym (starts_from rank 0 (xs ++ y ∷ [])) ∙ ap length (positions-push (is_start_of rank) xs y ∙ rw not_start refl) ∙ starts_from rank 0 xs

name_seam : (xs ys : List Event) (y : Event) (rank : ℕ) → (y.rank == rank) ≡ true → is_start (y.call, y.reply) ≡ true → name_at (xs ++ y ∷ ys) (length xs) ≡ Some (rank, length (starts_of (view_of xs rank)))
name_seam xs ys y rank own start =
    let O : ℕ → Option (ℕ × ℕ) = λ r. Some (r, length (starts_of (view_of xs r))) in
    let named : name_at (xs ++ y ∷ ys) (length xs) ≡ O y.rank = rw (take-append_seam xs (y ∷ ys), seam_get xs ys y, start) refl in
    named ∙ ap O (eqb-true y.rank rank own)

numbered_from : (xs ys : List Event) (rank : ℕ) → AreNumbered (xs ++ ys) rank (length (starts_of (view_of xs rank))) (positions (is_start_of rank) (length xs) ys)
numbered_from xs [] rank = tt
numbered_from xs (y ∷ ys) rank =
    let one : List Event = y ∷ [] in
    let whole : (xs ++ one) ++ ys ≡ xs ++ y ∷ ys = append_assoc xs one ys in
    let long : length (xs ++ one) ≡ length xs + 1 = length-append xs one in
    let rest = numbered_from (xs ++ one) ys rank in
    let P : List Event → Type 0 = λ l. AreNumbered l rank (length (starts_of (view_of (xs ++ one) rank))) (positions (is_start_of rank) (length (xs ++ one)) ys) in
    let Q : ℕ → Type 0 = λ k. AreNumbered (xs ++ y ∷ ys) rank (length (starts_of (view_of (xs ++ one) rank))) (positions (is_start_of rank) k ys) in
    let R : ℕ → Type 0 = λ k. AreNumbered (xs ++ y ∷ ys) rank k (positions (is_start_of rank) (length xs + 1) ys) in
    let moved = subst Q long (subst P whole rest) in
    elim (test_cases (is_start_of rank y)) [
      | inl t ↦ (
          let parts = and_parts (is_start (y.call, y.reply)) (y.rank == rank) t in
          rw t (name_seam xs ys y rank parts.1 parts.0, subst R (count_one_more rank xs y parts.1 parts.0) moved))
      | inr t ↦ rw t (subst R (count_no_more rank xs y t) moved)
    ]

pub starts_numbered : (events : List Event) (rank : ℕ) → AreNumbered events rank 0 (positions (is_start_of rank) 0 events)
starts_numbered events rank = numbered_from [] events rank
