-- What every replay keeps.
use Rattle.std.proofs.Common.{◌≡◌, ◌≢◌, ◌<◌, ◌+◌, ℕ, List, [], ◌∷◌, ◌++◌, ◌==◌, inl, inr, Some, true, false, refl, sym, ◌∙◌, subst, length, slice_index, length-append, arith, get_or-set_same, get_or-set_other, set, length-set}
use Rattle.std.proofs.lemmas.Bool.{eqb-true, eq-eqb}
use Rattle.mpi_call.specs.declared.call.Call.{Call}
use Rattle.mpi_call.specs.declared.reply.Reply.{Reply}
use Rattle.mpi_call.specs.Collectives.{is_member}
use Rattle.run_model.specs.declared.event.Event.{Event}
use Rattle.run_model.specs.Forms.{AreInOrder}
use Rattle.run_model.specs.Program.{AsksInBounds, EntersInForm, IsNextSeen, IsViewOf, MayGive}
use Rattle.run_model.specs.Views.{Next, view_of, replies_in}
use Rattle.run_model.proofs.Along.{Along-snoc, Along-keeps}
use Rattle.run_model.proofs.Orders.{in_order, short_sends}
use Rattle.run_model.proofs.Views.{test_cases, view_of-own, view_of-other}
use Rattle.srr_entry.specs.declared.log.Log.{Log}
use Rattle.replay_model.specs.declared.step.Step.TheVariants.{Replied}
use Rattle.replay_model.specs.Replays.{Breakpoint, IsReplayStep, Replays, replay_answer, replied_event}
use Rattle.srr_replay.specs.Rounds.{AreCallCounts, IsReplayable}
use Rattle.view_tables.specs.EnterTable.{AreEntersKnown}
use Rattle.view_tables.specs.StartTable.{TakesMade}
use Rattle.srr_replay.proofs.LogLemmas.{below_at}
use Rattle.srr_replay.proofs.ShapeLemmas.{answer_shaped}
use Rattle.view_tables.proofs.StartTableLemmas.{takes_made}

-- the event of a reply keeps it a replay
pub Replays-after : (next : Next) (log : Log) (stop : Breakpoint) (events : List Event) (rank : ℕ) (call : Call) (reply : Reply) → Replays next log stop events → is_member log.group rank ≡ true → next log.ranks rank (replies_in (view_of events rank)) ≡ Some call → replay_answer log stop (view_of events) rank (view_of events rank) call ≡ Replied reply → Replays next log stop (events ++ replied_event rank call reply ∷ [])
Replays-after next log stop events rank call reply all member asked answered =
    Along-snoc (IsReplayStep next log stop) [] events _ all (record { member = member; call = asked; reply = answered; mate = refl; alone = refl })

-- each rank has got replies in shape alone, and no rank outside the group has an event
pub record Came (next : Next) (log : Log) (events : List Event) : Type 0 where
  pub views : (rank : ℕ) → IsViewOf next log.ranks rank (view_of events rank)
  pub alone : (rank : ℕ) → is_member log.group rank ≡ false → view_of events rank ≡ []

-- the laws of a program that its replays rest on
pub record KeepsForm (next : Next) : Type 0 where
  pub enters : EntersInForm next
  pub bounds : AsksInBounds next

pub Came-order : (next : Next) (log : Log) (events : List Event) → KeepsForm next → IsReplayable log → Came next log events → AreInOrder log.ranks events
Came-order next log events laws fine came =
    record {
      ranks = λ rank below. in_order next log.ranks rank (view_of events rank) laws.enters (omega (arith, below), fine.few, below) (came.views rank);
      sends = λ rank k comm dest tag ints sync at. elim (test_cases (is_member log.group rank)) [
        | inl mine ↦ (
            let below = below_at log.ranks log.group rank fine.below mine in
            short_sends next log.ranks rank (view_of events rank) laws.bounds (omega (arith, below), fine.few, below) (came.views rank) k comm dest tag ints sync at)
        | inr other ↦ (let none = rw (came.alone rank other) at at in absurd (cc))
      ];
    }

came_more : (next : Next) (log : Log) (stop : Breakpoint) → KeepsForm next → IsReplayable log → (before : List Event) (event : Event) → Came next log before → IsReplayStep next log stop before event → Came next log (before ++ event ∷ [])
came_more next log stop laws fine before event came step =
    let below = below_at log.ranks log.group event.rank fine.below step.member in
    let shaped = answer_shaped log stop before event.rank event.call event.reply below (Came-order next log before laws fine came) step.member step.reply in
    record {
      views = λ rank. elim (test_cases (event.rank == rank)) [
        | inl h ↦
            let P : ℕ → Type 0 = λ r. IsViewOf next log.ranks r (view_of (before ++ event ∷ []) r) in
            let own : P event.rank =
            rw (view_of-own before event)
            (Along-snoc (IsNextSeen next log.ranks event.rank) [] (view_of before event.rank) (event.call, event.reply) (came.views event.rank)
            (record { asked = step.call; shaped = shaped })) in
            subst P (eqb-true event.rank rank h) own
        | inr h ↦ rw (view_of-other before event rank h) (came.views rank)
      ];
      alone = λ rank other. elim (test_cases (event.rank == rank)) [
        | inl h ↦ (let mine : is_member log.group rank ≡ true = rw (← eqb-true event.rank rank h) step.member in let no : true ≡ false = sym mine ∙ other in absurd (cc))
        | inr h ↦ rw (view_of-other before event rank h) (came.alone rank other)
      ];
    }

pub Came-Replays : (next : Next) (log : Log) (stop : Breakpoint) (events : List Event) → KeepsForm next → IsReplayable log → Replays next log stop events → Came next log events
Came-Replays next log stop events laws fine all =
    Along-keeps (IsReplayStep next log stop) (Came next log) (came_more next log stop laws fine) [] events
    (record { views = λ rank. tt; alone = λ rank other. refl }) all

-- so each rank's view is in order
pub AreInOrder-Replays : (next : Next) (log : Log) (stop : Breakpoint) (events : List Event) → KeepsForm next → IsReplayable log → Replays next log stop events → AreInOrder log.ranks events
AreInOrder-Replays next log stop events laws fine all = Came-order next log events laws fine (Came-Replays next log stop events laws fine all)

-- and the reply may be given
pub MayGive-Replays : (next : Next) (log : Log) (stop : Breakpoint) (events : List Event) (rank : ℕ) (call : Call) (reply : Reply) → KeepsForm next → IsReplayable log → Replays next log stop events → is_member log.group rank ≡ true → next log.ranks rank (replies_in (view_of events rank)) ≡ Some call → replay_answer log stop (view_of events) rank (view_of events rank) call ≡ Replied reply → MayGive next log.ranks rank (replies_in (view_of events rank)) reply
MayGive-Replays next log stop events rank call reply laws fine all mine asked answered =
    let came = Came-Replays next log stop events laws fine all in
    record {
      view = view_of events rank;
      call = call;
      replies_are = refl;
      came = came.views rank;
      asked = asked;
      shaped = answer_shaped log stop events rank call reply (below_at log.ranks log.group rank fine.below mine) (Came-order next log events laws fine came) mine answered;
    }

-- so it completes starts that were made alone
pub TakesMade-Replays : (next : Next) (log : Log) (stop : Breakpoint) (events : List Event) (rank : ℕ) (call : Call) (reply : Reply) → KeepsForm next → IsReplayable log → Replays next log stop events → is_member log.group rank ≡ true → next log.ranks rank (replies_in (view_of events rank)) ≡ Some call → replay_answer log stop (view_of events) rank (view_of events rank) call ≡ Replied reply → TakesMade (view_of events rank) call reply
TakesMade-Replays next log stop events rank call reply laws fine all mine asked answered =
    let order = AreInOrder-Replays next log stop events laws fine all in
    takes_made log.ranks rank (view_of events rank) call reply
    (answer_shaped log stop events rank call reply (below_at log.ranks log.group rank fine.below mine) order mine answered)

-- so each rank knew the communicators of its Enters
pub EntersKnown-Replays : (next : Next) (log : Log) (stop : Breakpoint) (events : List Event) → KeepsForm next → IsReplayable log → Replays next log stop events → AreEntersKnown log.ranks events
EntersKnown-Replays next log stop events laws fine all rank comm instance one below at =
    let order = AreInOrder-Replays next log stop events laws fine all in
    let is = (order.ranks rank below).entered comm instance one at in
    is.known ∙ sym is.stays

-- the counts after one more event of a rank
pub AreCounts-after : (n : ℕ) (events : List Event) (counts : List ℕ) (event : Event) → event.rank < n → AreCallCounts n events counts → AreCallCounts n (events ++ event ∷ []) (set counts event.rank (slice_index counts event.rank + 1))
AreCounts-after n events counts event below each =
    let within : event.rank < length counts = omega (arith, each.0, below) in (
      length-set counts event.rank (slice_index counts event.rank + 1) ∙ each.0,
      λ rank lt. elim (test_cases (event.rank == rank)) [
        | inl h ↦
            let P : ℕ → Type 0 = λ r. slice_index (set counts event.rank (slice_index counts event.rank + 1)) r ≡ length (view_of (events ++ event ∷ []) r) in
            let own : P event.rank = rw (view_of-own events event, length-append) (get_or-set_same counts event.rank (slice_index counts event.rank + 1) 0 within ∙ rw (each.1 event.rank below) refl) in
            subst P (eqb-true event.rank rank h) own
        | inr h ↦
            let ne : rank ≢ event.rank = λ e. let t : (event.rank == rank) ≡ true = eq-eqb event.rank rank (sym e) in cc in
            rw (view_of-other events event rank h) (get_or-set_other counts event.rank rank (slice_index counts event.rank + 1) 0 ne ∙ each.1 rank lt)
      ],
    )
