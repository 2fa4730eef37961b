-- How a rank fares: its worker after each kind of step.
use Rattle.std.proofs.Common.{◌≡◌, ◌∙◌, ◌++◌, ◌∷◌, [], List, true, false, ℕ, refl, ap, sym, subst, Some}
use Rattle.std.proofs.lemmas.List.{map-append}
use Rattle.mpi_call.specs.declared.call.Call.{Call}
use Rattle.mpi_call.specs.declared.reply.Reply.{Reply}
use Rattle.run_model.specs.Program.{Standing, MayGive}
use Rattle.run_model.specs.Views.{Next}
use Rattle.turn_lock.specs.Seat.{LockView, SeatView, HasFrame}
use Rattle.rank_threads.specs.inside.Reading.{FrameReading, AddsReply, replies_of, program_of, ranks_of}
use Rattle.rank_threads.specs.inside.Workers.{CanWork, IsNextCall, IsIdleSeatOf, IsRunAfter, MayGiveTo}
use Rattle.rank_threads.specs.declared.attempts.Attempt.{Attempt}
use Rattle.rank_threads.specs.declared.attempts.Attempt.TheVariants.{Replied, Waits, Stops, Short}
use Rattle.rank_threads.specs.declared.worker.Worker.{Worker}

module _ {P E F : Type 0} (reading : FrameReading P E F) where
  -- an answer that is no reply
  pub no_reply : (k : ℕ) (before after : List (ℕ × E)) (answer : Attempt) → ((reply : Reply) → answer ≡ Replied reply → ⊥) → AddsReply reading k before after answer → after ≡ before
  no_reply k before after (Replied reply) fresh a = absurd (fresh reply refl)
  no_reply k before after Waits fresh a = a
  no_reply k before after Stops fresh a = a
  no_reply k before after Short fresh a = a

  -- what may be given to a run beside its seat's own entries
  may_give : (next : P → Next) (rank : ℕ) (own : List (ℕ × E)) (s : Standing P) (f : F) (reply : Reply) → IsRunAfter reading f rank own s
      → MayGive (next (program_of reading f)) (ranks_of reading f) rank (replies_of reading own) reply → MayGive (next s.program) s.ranks s.rank s.replies reply
  may_give next rank own s f reply is may = rw (is.same_program, is.ranks, is.rank_is, is.replies_are) may

  pub may_give_run : (next : P → Next) (lock : LockView F) (rank : ℕ) (own : List (ℕ × E)) (s : Standing P) (reply : Reply)
      → ((f : F) → HasFrame lock f → IsRunAfter reading f rank own s)
      → MayGiveTo reading next lock rank own reply → MayGive (next s.program) s.ranks s.rank s.replies reply
  may_give_run next lock rank own s reply beside may = may_give next rank own s may.0 reply (beside may.0 may.1) may.2

  module _ {M R : Type 0} (standing : R → Standing P) (lock : LockView F) where
    -- a worker whose seat gained nothing
    pub stays : (p p' : Worker M R E F) → CanWork reading standing lock p → p'.rank ≡ p.rank → p'.run ≡ p.run
        → IsIdleSeatOf reading lock p.rank p'.seat → p'.seat.own ≡ p.seat.own → (p'.is_short ≡ false → p.is_short ≡ false) → CanWork reading standing lock p'
    stays p p' can rank run ready own short =
        record {
          ready = subst (λ (r : ℕ). IsIdleSeatOf reading lock r p'.seat) (sym rank) ready;
          beside = λ ample f frame.
              let is = can.beside (short ample) f frame in
              record {
                same_program = ap (λ (r : R). (standing r).program) run ∙ is.same_program;
                ranks = ap (λ (r : R). (standing r).ranks) run ∙ is.ranks;
                rank_is = ap (λ (r : R). (standing r).rank) run ∙ (is.rank_is ∙ sym rank);
                replies_are = ap (λ (r : R). (standing r).replies) run ∙ (is.replies_are ∙ sym (ap (replies_of reading) own));
              };
        }

    -- one whose run was asked
    pub asks : (p p' : Worker M R E F) → CanWork reading standing lock p → p'.rank ≡ p.rank → p'.seat ≡ p.seat → p.is_short ≡ false
        → standing p'.run ≡ record (standing p.run) { asked = true } → CanWork reading standing lock p'
    asks p p' can rank seat ample run =
        record {
          ready = rw (rank, seat) can.ready;
          beside = λ short f frame.
              let is = can.beside ample f frame in
              record {
                same_program = ap (λ (s : Standing P). s.program) run ∙ is.same_program;
                ranks = ap (λ (s : Standing P). s.ranks) run ∙ is.ranks;
                rank_is = ap (λ (s : Standing P). s.rank) run ∙ (is.rank_is ∙ sym rank);
                replies_are = ap (λ (s : Standing P). s.replies) run ∙ (is.replies_are ∙ sym (ap (λ (x : SeatView E F). replies_of reading x.own) seat));
              };
        }

    -- what it wants is its next call
    pub wants : (next : P → Next) (p : Worker M R E F) (call : Call) → CanWork reading standing lock p → p.is_short ≡ false
        → next (standing p.run).program (standing p.run).ranks (standing p.run).rank (standing p.run).replies ≡ Some call
        → IsNextCall reading next lock p.rank p.seat call
    wants next p call can ample says f frame =
        let is = can.beside ample f frame in
        rw (is.same_program, is.ranks, is.rank_is, is.replies_are) at says

    -- one whose seat has one more reply, which its run was given
    pub gains : (p p' : Worker M R E F) (reply : Reply) → CanWork reading standing lock p → p.is_short ≡ false → p'.rank ≡ p.rank
        → standing p'.run ≡ record (standing p.run) { replies = (standing p.run).replies ++ reply ∷ []; asked = false }
        → IsIdleSeatOf reading lock p.rank p'.seat → AddsReply reading p.seat.number p.seat.own p'.seat.own (Replied reply) → CanWork reading standing lock p'
    gains p p' reply can ample rank run ready more =
        record {
          ready = subst (λ (r : ℕ). IsIdleSeatOf reading lock r p'.seat) (sym rank) ready;
          beside = λ short f frame.
              let is = can.beside ample f frame in
              record {
                same_program = ap (λ (s : Standing P). s.program) run ∙ is.same_program;
                ranks = ap (λ (s : Standing P). s.ranks) run ∙ is.ranks;
                rank_is = ap (λ (s : Standing P). s.rank) run ∙ (is.rank_is ∙ sym rank);
                replies_are = ap (λ (s : Standing P). s.replies) run
                    ∙ (ap (λ (rs : List Reply). rs ++ reply ∷ []) is.replies_are
                    ∙ (ap (λ (r : Reply). replies_of reading p.seat.own ++ r ∷ []) (sym more.1)
                    ∙ sym (ap (replies_of reading) more.2 ∙ map-append _ p.seat.own _)));
              };
        }
