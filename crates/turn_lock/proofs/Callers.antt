-- For callers: what `new` gives, what a turn of one seat leaves, and what `close` asks.
use Rattle.std.proofs.Common.{◌≡◌, ℕ, ◌<◌, false, List, length, All, Any, slice_index_or, slice_set, sym, refl, ◌∙◌, subst, arith, length-set}
use mathlib.Core.Logic.{dite}
use native.Mathlib.Decide.{ℕ_discrete}
use Rattle.std.proofs.lemmas.List.{get_or-set_other, get_or_default}
use Rattle.std.proofs.lemmas.Grind.{get_or-set_at}
use Rattle.std.proofs.lemmas.Option.{get_or_from_slice_get}
use Rattle.turn_lock.specs.Seat.{LockView, SeatView, new_seat, AreFresh}
use Rattle.turn_lock.specs.Seats.{IsIdleSeat, AllIdle}

module _ {E F : Type 0} (lock : LockView F) where
  pub idle_from_fresh : (ss : List (SeatView E F)) → AreFresh lock ss → AllIdle lock ss
  idle_from_fresh ss new = (
    new.0,
    λ k d lt.
        let is : slice_index_or ss k d ≡ new_seat lock k = get_or_from_slice_get ss k (new_seat lock k) d (new.1 k lt) in
        subst (IsIdleSeat lock k) (sym is) (refl, refl, refl),
  )

  pub idle_set : (ss : List (SeatView E F)) (k : ℕ) (s : SeatView E F) → AllIdle lock ss → IsIdleSeat lock k s → AllIdle lock (slice_set ss k s)
  idle_set ss k s all mine = (
    length-set ss k s ∙ all.0,
    λ j d lt. dite (ℕ_discrete j k)
        (λ e. let is : slice_index_or (slice_set ss k s) j d ≡ s = get_or-set_at ss k j s d e (let n = all.0 in omega arith) in
        subst (λ (x : ℕ × SeatView E F). IsIdleSeat lock x.0 x.1) (λ i. (sym e i, sym is i)) mine)
        (λ ne. subst (IsIdleSeat lock j) (sym (get_or-set_other ss k j s d ne)) (all.1 j d lt)),
  )

  pub idle_all : (ss : List (SeatView E F)) → AllIdle lock ss → All (λ s. (s.lock ≡ lock) × (s.holds ≡ false)) ss
  idle_all ss all k d lt = let h = all.1 k d (let n = all.0 in omega arith) in (h.0, h.1)

  pub idle_each : (ss : List (SeatView E F)) → AllIdle lock ss → (k : ℕ) → k < lock.seats → Any (λ s. s.number ≡ k) ss
  idle_each ss all k lt =
      let s : SeatView E F = slice_index_or ss k (new_seat lock 0) in let inside : k < length ss = (let n = all.0 in omega arith) in
      (k, s, inside, get_or_default ss k s (new_seat lock 0) inside, (all.1 k (new_seat lock 0) lt).2)
