-- Players: seats that take turns.
use Rattle.std.specs.Prelude.{◌≡◌, ℕ, zero, suc, false, List, [], ◌∷◌, ◌++◌}
use Rattle.turn_lock.specs.Seat.{LockView, SeatView}
use Rattle.turn_lock.specs.Seats.{IsIdleSeat}
use Rattle.bench_lock.specs.declared.players.Player.{Player}

-- the entries of n turns of the seat k, in their order
abbrev pub turns_of : ℕ → ℕ → List (ℕ × ℕ)
turns_of k zero = []
turns_of k (suc n) = turns_of k n ++ (k, n) ∷ []

-- a player of this seat before its first turn
abbrev pub player_at : SeatView ℕ (Unit {0}) → Player
player_at s = record { seat = s; is_short = false }

-- the player's seat is idle at this lock, and has no entries yet
abbrev pub IsReady : LockView (Unit {0}) → Player → Type 0
IsReady lock p = (p.seat.lock ≡ lock) × (p.seat.holds ≡ false) × (p.seat.own ≡ []) × (p.is_short ≡ false)

-- the player's seat is idle again, with its number, and has added its turns unless memory was short
abbrev pub HasPlayed : LockView (Unit {0}) → ℕ → Player → Player → Type 0
HasPlayed lock turns before after =
    IsIdleSeat lock before.seat.number after.seat
    × (after.is_short ≡ false → after.seat.own ≡ turns_of before.seat.number turns)
