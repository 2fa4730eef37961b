use Rattle.std.proofs.Common.{◌≡◌, ◌+◌, ◌<◌, ℕ, length, vec_len, slice_index_or}
use Rattle.turn_lock.specs.Seat.{SeatView}
use Rattle.turn_lock.specs.Seats.{IsIdleSeat}
use Rattle.rank_threads.specs.inside.Workers.{AreBeside, AreWorkers}
use Rattle.rank_threads.proofs.rounds.seats_and_runs.Given as goal

abbrev pub invariant-loop-worker : goal.invariant-loop-worker
invariant-loop-worker g l = record {
  total : length l.workers.items + length l.seats.items ≡ length l.ranks;
  workers : AreWorkers g.M.Attempts.reading g.R.RankRun.standing l.lock l.ranks l.workers.items;
  idle : (k : ℕ) (d : SeatView g.row.M-Entry.Denot g.row.M-Frame.Denot) → k < length l.seats.items → IsIdleSeat l.lock k (slice_index_or l.seats.items k d);
  beside : AreBeside g.M.Attempts.reading g.R.RankRun.standing l.lock l.ranks l.seats.items l.runs.items;
}

abbrev pub decreases-loop-worker : goal.decreases-loop-worker
decreases-loop-worker g l = vec_len l.workers
