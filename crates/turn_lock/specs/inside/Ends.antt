-- How a lock begins and ends: its seats as accounts of one token.
use Rattle.std.specs.Prelude.{◌≡◌, ℕ, false, List, [], ◌∷◌, ◌⊎◌, All, ◌<◌}
use Rattle.atomic_table.specs.Seated.{TableId}
use Rattle.turn_lock.specs.Entries.{entries_of, StartsWith}
use Rattle.turn_lock.specs.Rule.{account}
use Rattle.turn_lock.specs.Seat.{SeatView}
use Rattle.turn_lock.specs.declared.view.Account.{Account}

-- the account of each seat
abbrev pub accounts_at : {E F : Type 0} → List (SeatView E F) → List (Account E)
accounts_at [] = []
accounts_at (s ∷ ss) = account s.number s.own s.seen ∷ accounts_at ss

-- a seat of this table that doesn't hold
abbrev pub IsIdleAt : {E F : Type 0} → TableId → SeatView E F → Type 0
IsIdleAt table s = (s.lock.table ≡ table) × (s.holds ≡ false)

-- some account has the number k
abbrev pub HasAccount : {E : Type 0} → ℕ → List (Account E) → Type 0
HasAccount k [] = ⊥
HasAccount k (x ∷ xs) = (x.number ≡ k) ⊎ HasAccount k xs

-- each account's own entries are those with its number, and the entries begin with what it has seen
abbrev pub AllStand : {E : Type 0} → List (ℕ × E) → List (Account E) → Type 0
AllStand es [] = Unit {0}
AllStand es (x ∷ xs) = ((x.own ≡ entries_of x.number es) × StartsWith es x.seen) × AllStand es xs

-- the value at the end has the frame of `new`, entries of seats alone, and what each account says of them
pub record EndsWith {T E F : Type 0} (entries : T → List (ℕ × E)) (frame_of : T → F) (seats : ℕ) (told : F)
    (accounts : List (Account E)) (x : T) : Type 0 where
  pub frame : frame_of x ≡ told
  pub numbers : All (λ e. e.0 < seats) (entries x)
  pub stand : AllStand (entries x) accounts
