-- Words for a caller that has several seats of one lock.
use Rattle.std.specs.Prelude.{◌≡◌, ℕ, ◌<◌, false, List, length, slice_index_or}
use Rattle.turn_lock.specs.Seat.{LockView, SeatView}

module _ {E F : Type 0} where
  -- the seat of this lock with the number k, which doesn't hold
  abbrev pub IsIdleSeat : LockView F → ℕ → SeatView E F → Type 0
  IsIdleSeat lock k s = (s.lock ≡ lock) × (s.holds ≡ false) × (s.number ≡ k)

  -- every seat of the lock, in the order of their numbers, and none holds
  abbrev pub AllIdle : LockView F → List (SeatView E F) → Type 0
  AllIdle lock ss =
      (length ss ≡ lock.seats) × ((k : ℕ) (d : SeatView E F) → k < lock.seats → IsIdleSeat lock k (slice_index_or ss k d))
