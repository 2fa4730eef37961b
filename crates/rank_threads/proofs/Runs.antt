-- The runs of the closed value, beside its events.
use Rattle.std.proofs.Common.{◌≡◌, ◌<◌, ◌+◌, ◌∙◌, [], List, ℕ, nat_lt, lt-ltb, ap, sym, zero, suc, true, refl, arith, length, slice_index}
use Rattle.mpi_call.specs.Collectives.{is_distinct}
use Rattle.run_model.specs.declared.event.Event.{Event}
use Rattle.run_model.specs.Lists.{world}
use Rattle.run_model.specs.Program.{Standing}
use Rattle.run_model.proofs.CommunicatorLaws.{length-world}
use Rattle.srr_entry.specs.declared.log.Log.{Log}
use Rattle.replay_model.specs.Replays.{Breakpoint}
use Rattle.srr_record.specs.Recordings.{AreRuns}
use Rattle.srr_replay.specs.Rounds.{RunAll}
use Rattle.srr_replay.proofs.RoundsLemmas.{member_of}
use Rattle.rank_threads.specs.inside.Readings.{machine_reading, replay_reading}
use Rattle.rank_threads.specs.inside.Numbered.{numbered, place_in}
use Rattle.rank_threads.specs.inside.Workers.{AreRunsAfter, AreSeated}
use Rattle.rank_threads.proofs.Numbers.{replies_of_own, place_alone, place_at}

-- a rank of the world by its place
pub world_at : (n k : ℕ) → k < n → slice_index (world n 0) k ≡ k
world_at n k h = let plain : 0 + k ≡ k = omega arith in from n 0 k h ∙ plain
  where
    from : (n start k : ℕ) → k < n → slice_index (world n start) k ≡ start + k
    from zero start _ h = elim h [ ]
    from (suc n) start zero h = omega arith
    from (suc n) start (suc k) h = let next : start + 1 + k ≡ start + suc k = omega arith in from n (start + 1) k (omega (arith, h)) ∙ next

-- each rank of the world has the seat of its number
pub seated_world : {P : Type 0} (frame : P × ℕ) (ranks : List ℕ) → ranks ≡ world frame.1 0 → AreSeated (machine_reading {P = P}) frame ranks
seated_world frame ranks same k lt =
    let count : length ranks ≡ frame.1 = ap (λ l. length l) same ∙ length-world frame.1 0 in
    let low : k < frame.1 = omega (arith, count, lt) in
    let at : slice_index ranks k ≡ k = ap (λ l. slice_index l k) same ∙ world_at frame.1 k low in
    (ap (λ r. nat_lt r frame.1) at ∙ lt-ltb k frame.1 low, at)

module _ {P R : Type 0} (standing : R → Standing P) where
  -- of a machine at its start
  pub start_runs : (program : P) (frame : P × ℕ) (ranks : List ℕ) (runs : List R) → ranks ≡ world frame.1 0 → frame.0 ≡ program → AreRuns standing program frame.1 [] runs
      → AreRunsAfter machine_reading standing frame ranks [] runs
  start_runs program frame ranks runs same of_program are =
      let count : length ranks ≡ frame.1 = ap (λ l. length l) same ∙ length-world frame.1 0 in
      record {
        as_many = are.as_many ∙ sym count;
        each = λ k d lt.
            let low : k < frame.1 = omega (arith, count, lt) in
            let is = are.each k d low in
            let at : slice_index ranks k ≡ k = ap (λ l. slice_index l k) same ∙ world_at frame.1 k low in
            record {
              same_program = is.same_program ∙ sym of_program;
              ranks = is.ranks;
              rank_is = is.rank_is ∙ sym at;
              replies_are = is.replies_are;
            };
      }

  -- of a machine
  pub are_runs : (program : P) (n : ℕ) (ranks : List ℕ) (events : List Event) (runs : List R) → length ranks ≡ n → ((k : ℕ) → k < n → slice_index ranks k ≡ k)
      → AreRunsAfter machine_reading standing (program, n) ranks (numbered (λ (rank : ℕ). rank) events) runs → AreRuns standing program n events runs
  are_runs program n ranks events runs count each are =
      record {
        as_many = are.as_many ∙ count;
        each = λ rank d lt.
            let is = are.each rank d (omega (arith, count, lt)) in
            record {
              same_program = is.same_program;
              ranks = is.ranks;
              rank_is = is.rank_is ∙ each rank lt;
              replies_are = is.replies_are ∙ replies_of_own (machine_reading {P = P}) (λ e. refl) (λ (r : ℕ). r) rank (λ r. refl) events;
            };
      }

  -- of a replay
  pub run_all : (program : P) (log : Log) (stop : Breakpoint) (events : List Event) (runs : List R) → is_distinct log.group ≡ true
      → AreRunsAfter replay_reading standing (program, log, stop) log.group (numbered (place_in log.group) events) runs → RunAll standing program log events runs
  run_all program log stop events runs distinct are =
      record {
        as_many = are.as_many;
        each = λ k d lt.
            let is = are.each k d lt in
            let rank : ℕ = slice_index log.group k in
            let own = replies_of_own (replay_reading {P = P}) (λ e. refl) (place_in log.group) rank (place_alone log.group rank (member_of log.group k lt)) events in
            record {
              same_program = is.same_program;
              ranks = is.ranks;
              rank_is = is.rank_is;
              replies_are = is.replies_are ∙ (rw (place_at log.group k distinct lt) at own);
            };
      }
