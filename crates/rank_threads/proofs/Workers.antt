-- The workers of ranks: made of fresh seats and runs, worked, and taken apart.
use Rattle.std.proofs.Common.{◌≡◌, ◌<◌, ◌+◌, ◌-◌, ◌++◌, ◌∷◌, ◌∙◌, [], List, ℕ, suc, All, arith, ap, length, slice_index, slice_index_or, subst, sym}
use Rattle.std.proofs.Math.Seq.{get_or-append_seam}
use Rattle.std.proofs.lemmas.List.{get_or_append_left}
use Rattle.std.proofs.lemmas.Option.{get_or_from_slice_get}
use mathlib.Core.Logic.{dite}
use native.Mathlib.Decide.{ℕ_discrete}
use Rattle.run_model.specs.Program.{Standing}
use Rattle.turn_lock.specs.Entries.{entries_of}
use Rattle.turn_lock.specs.Seat.{AreFresh, HasFrame, LockView, SeatView, new_seat}
use Rattle.turn_lock.specs.Seats.{AllIdle}
use Rattle.rank_threads.specs.inside.Reading.{FrameReading, replies_of}
use Rattle.rank_threads.specs.inside.Workers.{AreBeside, AreSeated, AreWorkers, AreRunsAfter, CanWork, Each, HasWorked, IsBeside, IsWorker, IsRunAfter}
use Rattle.rank_threads.specs.declared.worker.Worker.{Worker}
use Rattle.rank_threads.proofs.Places.{length-last}

module _ {P E F : Type 0} (reading : FrameReading P E F) {R : Type 0} (standing : R → Standing P) where
  -- the runs of seats whose own entries are all that there is of them
  pub runs_after : (lock : LockView F) (f : F) (ranks : List ℕ) (entries : List (ℕ × E)) (seats : List (SeatView E F)) (runs : List R)
      → HasFrame lock f → lock.seats ≡ length ranks → AllIdle lock seats → All (λ (s : SeatView E F). entries_of s.number entries ≡ s.own) seats
      → AreBeside reading standing lock ranks seats runs → AreRunsAfter reading standing f ranks entries runs
  runs_after lock f ranks entries seats runs frame count idle own beside =
      record {
        as_many = beside.as_many ∙ (idle.0 ∙ count);
        each = λ k d lt.
            let s : SeatView E F = new_seat lock k in
            let within : k < lock.seats = (let n = count in omega (arith, lt, n)) in
            let inside : k < length seats = (let n = idle.0 in omega (arith, within, n)) in
            let seat : SeatView E F = slice_index_or seats k s in
            let number : seat.number ≡ k = (idle.1 k s within).2 in
            let mine : entries_of k entries ≡ seat.own = subst (λ (n : ℕ). entries_of n entries ≡ seat.own) number (own k s inside) in
            let is = beside.each k s d inside f frame in
            record {
              same_program = is.same_program;
              ranks = is.ranks;
              rank_is = is.rank_is;
              replies_are = is.replies_are ∙ sym (ap (replies_of reading) mine);
            };
      }

  -- a seat as it was made, and a run as it was handed in
  abbrev pub FreshAt : LockView F → ℕ → SeatView E F → Type 0
  FreshAt lock k s = s ≡ new_seat lock k

  abbrev pub StartsAt : LockView F → List ℕ → ℕ → R → Type 0
  StartsAt lock ranks k r = (f : F) → HasFrame lock f → IsRunAfter reading f (slice_index ranks k) [] (standing r)

  pub fresh_seats : (lock : LockView F) (seats : List (SeatView E F)) → AreFresh lock seats → Each (FreshAt lock) seats
  fresh_seats lock seats new k d lt = get_or_from_slice_get seats k (new_seat lock k) d (new.1 k (let n = new.0 in omega (arith, n, lt)))

  pub start_runs : (lock : LockView F) (ranks : List ℕ) (runs : List R) → length runs ≡ length ranks
      → ((f : F) → HasFrame lock f → AreRunsAfter reading standing f ranks [] runs) → Each (StartsAt lock ranks) runs
  start_runs lock ranks runs count are k d lt f frame =
      let is = (are f frame).each k d (omega (arith, count, lt)) in
      record { same_program = is.same_program; ranks = is.ranks; rank_is = is.rank_is; replies_are = is.replies_are }

  -- one seat and one run more
  pub beside_snoc : (lock : LockView F) (ranks : List ℕ) (seats seats' : List (SeatView E F)) (runs runs' : List R) (s : SeatView E F) (r : R)
      → seats' ≡ seats ++ s ∷ [] → runs' ≡ runs ++ r ∷ [] → AreBeside reading standing lock ranks seats runs
      → IsBeside reading lock (slice_index ranks (length seats)) s (standing r) → AreBeside reading standing lock ranks seats' runs'
  beside_snoc lock ranks seats seats' runs runs' s r seats_are runs_are beside last =
      let n = length-last seats seats' s seats_are in
      let m = length-last runs runs' r runs_are in
      let as_many = beside.as_many in
      let G : ℕ × SeatView E F × R → Type 0 = λ z. IsBeside reading lock (slice_index ranks z.0) z.1 (standing z.2) in
      record {
        as_many = omega (arith, n, m, as_many);
        each = λ k t d lt. dite (ℕ_discrete k (length seats))
            (λ e.
            let e' : k ≡ length runs = e ∙ sym as_many in
            let here : slice_index_or seats' k t ≡ s = rw (seats_are, e) (get_or-append_seam seats s [] t) in
            let mine : slice_index_or runs' k d ≡ r = rw (runs_are, e') (get_or-append_seam runs r [] d) in
            subst G (λ i. (sym e i, sym here i, sym mine i)) last)
            (λ ne.
            let before : k < length seats = omega (arith, ne, lt, n) in
            let before' : k < length runs = omega (arith, before, as_many) in
            let here : slice_index_or seats' k t ≡ slice_index_or seats k t = rw seats_are (get_or_append_left seats (s ∷ []) t k before) in
            let mine : slice_index_or runs' k d ≡ slice_index_or runs k d = rw runs_are (get_or_append_left runs (r ∷ []) d k before') in
            subst G (λ i. (k, sym here i, sym mine i)) (beside.each k t d before));
      }

  module _ {M : Type 0} (lock : LockView F) (ranks : List ℕ) where
    -- the predicate of `AreWorkers`
    abbrev pub AtPlace : ℕ → Worker M R E F → Type 0
    AtPlace i p = (k : ℕ) → k + suc i ≡ length ranks → IsWorker reading standing lock ranks k p

    pub worker_new : (k : ℕ) (p : Worker M R E F) → p.seat ≡ new_seat lock k → p.rank ≡ slice_index ranks k → k < length ranks
        → ((f : F) → HasFrame lock f → AreSeated reading f ranks)
        → ((f : F) → HasFrame lock f → IsRunAfter reading f (slice_index ranks k) [] (standing p.run)) → IsWorker reading standing lock ranks k p
    worker_new k p seat rank lt are run =
        record {
          can = record {
            ready = record {
              lock_is = ap (λ (s : SeatView E F). s.lock) seat;
              idle = ap (λ (s : SeatView E F). s.holds) seat;
              has = λ f frame.
                  let is = are f frame k lt in
                  record {
                    runs = rw rank is.0;
                    number = ap (λ (s : SeatView E F). s.number) seat ∙ rw rank (sym is.1);
                  };
            };
            beside = λ ample f frame.
                let is = run f frame in
                record {
                  same_program = is.same_program;
                  ranks = is.ranks;
                  rank_is = is.rank_is ∙ sym rank;
                  replies_are = is.replies_are ∙ sym (ap (λ (s : SeatView E F). replies_of reading s.own) seat);
                };
          };
          rank = rank;
          number = ap (λ (s : SeatView E F). s.number) seat;
        }

    pub all_can : (ps : List (Worker M R E F)) → length ps ≡ length ranks → AreWorkers reading standing lock ranks ps → All (λ p. CanWork reading standing lock p) ps
    all_can ps count are i d lt =
        let k : ℕ = left (length ranks) i in
        (are i d lt k (left_is (length ranks) i (omega (arith, count, lt)))).can
      where
        left : ℕ → ℕ → ℕ
        left n i = n - suc i

        left_is : (n i : ℕ) → i < n → left n i + suc i ≡ n
        left_is n i lt = omega (arith, lt)

    pub all_worked : (before after : List (Worker M R E F)) → length after ≡ length before
        → ((k : ℕ) (d : Worker M R E F) → k < length before → HasWorked reading standing lock (slice_index_or before k d) (slice_index_or after k d))
        → AreWorkers reading standing lock ranks before → AreWorkers reading standing lock ranks after
    all_worked before after count worked are i d lt k e =
        let inside : i < length before = omega (arith, count, lt) in
        let p = are i d inside k e in
        let h = worked i d inside in
        record { can = h.can; rank = h.rank ∙ p.rank; number = h.number ∙ p.number }
