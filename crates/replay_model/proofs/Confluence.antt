-- Any two replays that can go no further have the same views.
use Rattle.std.proofs.Common.{◌++◌, ◌==◌, ◌∙◌, ◌∷◌, ◌≡◌, List, Some, [], ap, append-nil, append_assoc, inl, inr, refl, subst, sym, true, ℕ}
use Rattle.std.proofs.lemmas.Bool.{eqb-true}
use Rattle.mpi_call.specs.declared.call.Call.{Call}
use Rattle.mpi_call.specs.declared.reply.Reply.{Reply}
use Rattle.mpi_call.specs.Collectives.{is_member}
use Rattle.run_model.specs.declared.event.Event.{Event}
use Rattle.run_model.specs.declared.lists.Variable.{Variable}
use Rattle.run_model.specs.Lists.{IsPrefixOf}
use Rattle.run_model.specs.Views.{Next, View, replies_in, view_of}
use Rattle.run_model.proofs.Along.{Along-back, Along-keeps}
use Rattle.run_model.proofs.Places.{place}
use Rattle.run_model.proofs.Prefixes.{Begins, Begins-more, prefix-both}
use Rattle.run_model.proofs.Views.{test_cases, view_of-mine, view_of-other}
use Rattle.srr_entry.specs.declared.log.Log.{Log}
use Rattle.replay_model.specs.declared.step.Step.TheVariants.{Replied}
use Rattle.replay_model.specs.Replays.{IsExhausted, IsReplayStep, IsWholeReplay, Replays, Breakpoint, replay_answer}
use Rattle.replay_model.specs.Stands.{stand_of, stand_where}
use Rattle.srr_entry.specs.Outputs.{Output, printed_of}
use Rattle.replay_model.proofs.Answers.{answer_of-replied}
use mathlib.Core.Path.{fun_ext}

-- Any two replays that can go no further have the same views.
step_at : (next : Next) (log : Log) (stop : Breakpoint) (before : List Event) (event : Event) (rank : ℕ) (view : View) (call : Call) (reply : Reply)
    → IsReplayStep next log stop before event → event.rank ≡ rank → view_of before rank ≡ view → event.call ≡ call → event.reply ≡ reply
    → (next log.ranks rank (replies_in view) ≡ Some call) × (replay_answer log stop (view_of before) rank view call ≡ Replied reply) × (is_member log.group rank ≡ true)
step_at next log stop before event rank view call reply step rank_is view_is call_is reply_is =
    (rw (← view_is, ← call_is, ← rank_is) step.call, rw (← view_is, ← call_is, ← reply_is, ← rank_is) step.reply, rw (← rank_is) step.member)

-- the event at this place of a replay, as a step over the views of all of it
pub step_in : (next : Next) (log : Log) (stop : Breakpoint) (events : List Event) (rank : ℕ) (view : View) (call : Call) (reply : Reply) (rest : View)
    → Replays next log stop events → view_of events rank ≡ view ++ (call, reply) ∷ rest
    → (next log.ranks rank (replies_in view) ≡ Some call) × (replay_answer log stop (view_of events) rank view call ≡ Replied reply) × (is_member log.group rank ≡ true)
step_in next log stop events rank view call reply rest all e =
    let at = place events rank view call reply rest e in
    let whole : Replays next log stop (at.before ++ at.event ∷ at.after) = let P : List Event → Type 0 = λ l. Replays next log stop l in subst P at.whole all in
    let step = (Along-back (IsReplayStep next log stop) [] at.before (at.event ∷ at.after) whole).0 in
    let views : Begins (view_of at.before) (view_of events) = let P : List Event → Type 0 = λ l. Begins (view_of at.before) (view_of l) in subst P (sym at.whole) (Begins-more at.before (at.event ∷ at.after)) in
    let found = step_at next log stop at.before at.event rank view call reply step at.rank_is at.view_is at.call_is at.reply_is in
    (found.0, answer_of-replied log stop (view_of at.before) (view_of events) view rank call reply views found.1, found.2)

-- the next event of a rank in one replay stands in the other too, where that has gone further or can go no further
next_in : (next : Next) (log : Log) (stop : Breakpoint) (before other : List Event) (event : Event) (rest : View)
    → Replays next log stop other → IsExhausted next log stop other → Begins (view_of before) (view_of other)
    → IsReplayStep next log stop before event → view_of before event.rank ++ rest ≡ view_of other event.rank
    → IsPrefixOf (view_of before event.rank ++ (event.call, event.reply) ∷ []) (view_of other event.rank)
next_in next log stop before other event [] all done begins step e =
    let same : view_of before event.rank ≡ view_of other event.rank = rw append-nil at e in
    absurd (done event (record {
      member = step.member;
      call = rw (← same) step.call;
      reply = rw (← same) (answer_of-replied log stop (view_of before) (view_of other) (view_of before event.rank) event.rank event.call event.reply begins step.reply);
      mate = step.mate;
      alone = step.alone;
    }))
next_in next log stop before other event ((call, reply) ∷ rest) all done begins step e =
    let found = step_in next log stop other event.rank (view_of before event.rank) call reply rest all (sym e) in
    let calls : Some call ≡ Some event.call = sym found.0 ∙ step.call in
    let same_call : call ≡ event.call = cc in
    let answered = answer_of-replied log stop (view_of before) (view_of other) (view_of before event.rank) event.rank event.call event.reply begins step.reply in
    let answered_other : replay_answer log stop (view_of other) event.rank (view_of before event.rank) event.call ≡ Replied reply = rw same_call at found.1 in
    let replies : Replied reply ≡ Replied event.reply = sym answered_other ∙ answered in
    let same_reply : reply ≡ event.reply = cc in
    (rest, rw (append_assoc, ← same_call, ← same_reply) e)

keeps : (next : Next) (log : Log) (stop : Breakpoint) (other : List Event) → Replays next log stop other
    → IsExhausted next log stop other → (before : List Event) (event : Event) → Begins (view_of before) (view_of other)
    → IsReplayStep next log stop before event → Begins (view_of (before ++ event ∷ [])) (view_of other)
keeps next log stop other all done before event begins step rank =
    elim (test_cases (event.rank == rank)) [
      | inl h ↦
          let same : event.rank ≡ rank = eqb-true event.rank rank h in
          let found = begins event.rank in
          let longer = next_in next log stop before other event found.0 all done begins step found.1 in
          rw (view_of-mine before event rank same, ← same) longer
      | inr h ↦ rw (view_of-other before event rank h) (begins rank)
    ]

-- a replay begins each that can go no further
pub Begins-exhausted : (next : Next) (log : Log) (stop : Breakpoint) (events other : List Event) → Replays next log stop events
    → Replays next log stop other → IsExhausted next log stop other → Begins (view_of events) (view_of other)
Begins-exhausted next log stop events other all all_other done =
    Along-keeps (IsReplayStep next log stop) (λ before. Begins (view_of before) (view_of other)) (keeps next log stop other all_other done) [] events (λ rank. (view_of other rank, refl)) all

pub confluence : (next : Next) (log : Log) (stop : Breakpoint) (events other : List Event) → IsWholeReplay next log stop events
    → IsWholeReplay next log stop other → (rank : ℕ) → view_of events rank ≡ view_of other rank
confluence next log stop events other all all_other rank =
    prefix-both (view_of events rank) (view_of other rank)
    (Begins-exhausted next log stop events other all.replays all_other.replays all_other.exhausted rank)
    (Begins-exhausted next log stop other events all_other.replays all.replays all.exhausted rank)

same_views : (next : Next) (log : Log) (stop : Breakpoint) (events other : List Event) → IsWholeReplay next log stop events
    → IsWholeReplay next log stop other → view_of events ≡ view_of other
same_views next log stop events other all all_other = fun_ext (confluence next log stop events other all all_other)

-- so the same outputs, and the same stands
pub same_outputs : (next : Next) (output : Output) (log : Log) (stop : Breakpoint) (events other : List Event)
    → IsWholeReplay next log stop events → IsWholeReplay next log stop other → (rank : ℕ)
    → printed_of output log.ranks events rank ≡ printed_of output log.ranks other rank
same_outputs next output log stop events other all all_other rank =
    ap (λ (V : ℕ → View). output log.ranks rank (replies_in (V rank))) (same_views next log stop events other all all_other)

pub same_stands : (next : Next) (variables : ℕ → ℕ → List Reply → List Variable) (log : Log) (stop : Breakpoint) (events other : List Event)
    → IsWholeReplay next log stop events → IsWholeReplay next log stop other → (rank : ℕ)
    → stand_of next variables log stop events rank ≡ stand_of next variables log stop other rank
same_stands next variables log stop events other all all_other rank =
    ap (λ (V : ℕ → View). stand_where (next log.ranks rank (replies_in (V rank))) (variables log.ranks rank (replies_in (V rank))) (replay_answer log stop V rank (V rank)))
    (same_views next log stop events other all all_other)
