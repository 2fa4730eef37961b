-- What contracts see of a lock and of a seat.
use Rattle.std.specs.Prelude.{◌≡◌, ℕ, ◌<◌, Bool, false, List, [], length, slice_get, Option, Some}
use Rattle.atomic_table.specs.Seated.{TableId}

-- which lock it is, its number of seats, and the frame of the value that it was made of
pub record LockView (F : Type 0) : Type 0 where
  pub table : TableId
  pub seats : ℕ
  pub frame : Option F

-- the lock on this table, with so many seats, made of a value with the frame f
abbrev pub lock_on : {F : Type 0} → TableId → ℕ → F → LockView F
lock_on table seats f = record { table = table; seats = seats; frame = Some f }

-- the lock was made of a value with this frame
abbrev pub HasFrame : {F : Type 0} → LockView F → F → Type 0
HasFrame lock f = lock.frame ≡ Some f

-- a seat's lock, its number, its own entries, the entries that it has seen, and whether it holds
pub record SeatView (E F : Type 0) : Type 0 where
  pub lock : LockView F
  pub number : ℕ
  pub own : List (ℕ × E)
  pub seen : List (ℕ × E)
  pub holds : Bool

-- a new seat: it has added nothing, seen nothing, and doesn't hold
abbrev pub new_seat : {E F : Type 0} → LockView F → ℕ → SeatView E F
new_seat lock k = record { lock = lock; number = k; own = []; seen = []; holds = false }

-- the seats of a new lock, in the order of their numbers
abbrev pub AreFresh : {E F : Type 0} → LockView F → List (SeatView E F) → Type 0
AreFresh lock ss = (length ss ≡ lock.seats) × ((k : ℕ) → k < lock.seats → slice_get ss k ≡ Some (new_seat lock k))
