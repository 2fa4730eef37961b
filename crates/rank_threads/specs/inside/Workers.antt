-- Ranks beside their seats.
use Rattle.std.specs.Prelude.{◌≡◌, ◌+◌, ◌<◌, ℕ, suc, List, true, false, length, slice_index, Option, Some}
use Rattle.std.specs.List.{slice_index_or}
use Rattle.mpi_call.specs.declared.call.Call.{Call}
use Rattle.mpi_call.specs.declared.reply.Reply.{Reply}
use Rattle.run_model.specs.Program.{Standing, MayGive}
use Rattle.turn_lock.specs.Entries.{entries_of}
use Rattle.turn_lock.specs.Seat.{LockView, SeatView, HasFrame}
use Rattle.rank_threads.specs.inside.Reading.{FrameReading, replies_of, is_run, program_of, ranks_of, seat_of}
use Rattle.rank_threads.specs.declared.worker.Worker.{Worker}

-- what holds of each element and its place
abbrev pub Each : {X : Type 0} → (ℕ → X → Type 0) → List X → Type 0
Each {X} P xs = (k : ℕ) (d : X) → k < length xs → P k (slice_index_or xs k d)

module _ {P E F : Type 0} (reading : FrameReading P E F) where
  -- the rank's run after these entries of its own
  pub record IsRunAfter (f : F) (rank : ℕ) (own : List (ℕ × E)) (standing : Standing P) : Type 0 where
    pub same_program : standing.program ≡ program_of reading f
    pub ranks : standing.ranks ≡ ranks_of reading f
    pub rank_is : standing.rank ≡ rank
    pub replies_are : standing.replies ≡ replies_of reading own

  -- the seat of a rank that runs
  pub record HasSeat (f : F) (rank : ℕ) (seat : SeatView E F) : Type 0 where
    pub runs : is_run reading f rank ≡ true
    pub number : seat.number ≡ seat_of reading f rank

  -- a seat of this lock that doesn't hold, and is the rank's
  pub record IsIdleSeatOf (lock : LockView F) (rank : ℕ) (seat : SeatView E F) : Type 0 where
    pub lock_is : seat.lock ≡ lock
    pub idle : seat.holds ≡ false
    pub has : (f : F) → HasFrame lock f → HasSeat f rank seat

  -- the rank's run after its seat's own entries
  abbrev pub IsBeside : LockView F → ℕ → SeatView E F → Standing P → Type 0
  IsBeside lock rank seat standing = (f : F) → HasFrame lock f → IsRunAfter f rank seat.own standing

  -- this call is the next one of the rank
  abbrev pub IsNextCall : (P → ℕ → ℕ → List Reply → Option Call) → LockView F → ℕ → SeatView E F → Call → Type 0
  IsNextCall next lock rank seat call =
      (f : F) → HasFrame lock f → next (program_of reading f) (ranks_of reading f) rank (replies_of reading seat.own) ≡ Some call

  -- the reply may be given to the rank after its seat's own entries
  abbrev pub MayGiveTo : (P → ℕ → ℕ → List Reply → Option Call) → LockView F → ℕ → List (ℕ × E) → Reply → Type 0
  MayGiveTo next lock rank own reply =
      (f : F) × HasFrame lock f × MayGive (next (program_of reading f)) (ranks_of reading f) rank (replies_of reading own) reply

  -- these ranks run, and their seats are numbered from 0 on
  abbrev pub AreSeated : F → List ℕ → Type 0
  AreSeated f ranks = (k : ℕ) → k < length ranks → (is_run reading f (slice_index ranks k) ≡ true) × (seat_of reading f (slice_index ranks k) ≡ k)

  module _ {R : Type 0} (standing : R → Standing P) where
    -- a run for each rank, after its own ones of these entries
    pub record AreRunsAfter (f : F) (ranks : List ℕ) (entries : List (ℕ × E)) (runs : List R) : Type 0 where
      pub as_many : length runs ≡ length ranks
      pub each : (k : ℕ) (d : R) → k < length ranks → IsRunAfter f (slice_index ranks k) (entries_of k entries) (standing (slice_index_or runs k d))

    -- a run for each rank and its seat
    pub record AreBeside (lock : LockView F) (ranks : List ℕ) (seats : List (SeatView E F)) (runs : List R) : Type 0 where
      pub as_many : length runs ≡ length seats
      pub each : (k : ℕ) (s : SeatView E F) (d : R) → k < length seats → IsBeside lock (slice_index ranks k) (slice_index_or seats k s) (standing (slice_index_or runs k d))

    module _ {M : Type 0} (lock : LockView F) where
      -- a worker with the rank's seat, and its run unless memory was short
      pub record CanWork (p : Worker M R E F) : Type 0 where
        pub ready : IsIdleSeatOf lock p.rank p.seat
        pub beside : p.is_short ≡ false → IsBeside lock p.rank p.seat (standing p.run)

      -- the same worker after its work
      pub record HasWorked (before after : Worker M R E F) : Type 0 where
        pub rank : after.rank ≡ before.rank
        pub number : after.seat.number ≡ before.seat.number
        pub can : CanWork after

      -- the worker of the k-th of these ranks
      pub record IsWorker (ranks : List ℕ) (k : ℕ) (p : Worker M R E F) : Type 0 where
        pub can : CanWork p
        pub rank : p.rank ≡ slice_index ranks k
        pub number : p.seat.number ≡ k

      -- workers of the last of these ranks, from the last one down
      abbrev pub AreWorkers : List ℕ → List (Worker M R E F) → Type 0
      AreWorkers ranks ps = Each (λ i p. (k : ℕ) → k + suc i ≡ length ranks → IsWorker ranks k p) ps
