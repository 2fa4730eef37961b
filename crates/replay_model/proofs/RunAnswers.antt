-- In a run, the log's entry of a place gives the recorded reply.
use Rattle.std.proofs.Common.{◌++◌, ◌∙◌, ◌∷◌, ◌≡◌, List, None, Ok, Option, Some, [], ap, append-nil, false, inl, inr, length, refl, slice_get, subst, sym, true, ℕ}
use Rattle.mpi_call.specs.declared.call.Call.{Call}
use Rattle.mpi_call.specs.declared.reply.Reply.{Reply}
use Rattle.mpi_call.specs.Collectives.{is_member}
use Rattle.run_model.specs.declared.event.Event.{Event}
use Rattle.run_model.specs.declared.lists.Variable.{Variable}
use Rattle.run_model.specs.Lists.{IsPrefixOf}
use Rattle.run_model.specs.Run.{IsRun}
use Rattle.run_model.specs.Views.{Next, View, replies_in, view_of}
use Rattle.run_model.proofs.Places.{place, view_at}
use Rattle.run_model.proofs.Prefixes.{Begins, Begins-more}
use Rattle.run_model.proofs.RunLaws.{IsRun-event, IsRun-front, Lawful, event_shaped, kept_run}
use Rattle.run_model.proofs.TrueReplies.{reply_true}
use Rattle.run_model.proofs.Views.{test_cases}
use Rattle.srr_entry.specs.declared.entry.Entry.{Entry}
use Rattle.srr_entry.specs.declared.log.Log.{Log}
use Rattle.srr_entry.specs.Entries.{entries_for, entry_of}
use Rattle.srr_entry.proofs.EntryPlaces.{entry_in_log, entry_past}
use Rattle.replay_model.specs.declared.replayed.Stand.{Stand}
use Rattle.replay_model.specs.declared.replayed.Stand.TheVariants.{Diverged as StandDiverged, Ended as StandEnded}
use Rattle.replay_model.specs.declared.step.Divergence.{Divergence}
use Rattle.replay_model.specs.declared.step.Step.{Step}
use Rattle.replay_model.specs.declared.step.Step.TheVariants.{AtBreak, Diverged, LogEnded, Replied, Wait}
use Rattle.replay_model.specs.Breaks.{broken}
use Rattle.replay_model.specs.Filling.{filled_reply}
use Rattle.replay_model.specs.Fits.{entry_fits}
use Rattle.replay_model.specs.Laws.{EachStand, HasNotDiverged, IsRunWith}
use Rattle.replay_model.specs.Replays.{Replays, Breakpoint, replay_answer, is_break}
use Rattle.replay_model.specs.Stands.{stand_by, stand_where}
use Rattle.replay_model.proofs.Answers.{answer_of-diverged, answer_of-replied}
use Rattle.replay_model.proofs.Fillings.{Begins-within, filled_allowed, within}
use Rattle.replay_model.proofs.Prefix.{Begins-run, asked_in_run, begins_run}
use Rattle.replay_model.proofs.ShapedFits.{fits_shaped}
use Rattle.replay_model.proofs.Unbroken.{unbroken}

answer_from : (log : Log) (stop : Breakpoint) (V : ℕ → View) (own : View) (me : ℕ) (call : Call) (entry : Entry) (reply : Reply)
    → is_break stop me (length own) ≡ false → slice_get (entries_for log.group log.lists me) (length own) ≡ Some entry
    → entry_fits log.ranks log.group me own call entry ≡ true → filled_reply log.ranks V me own call entry ≡ Ok reply
    → broken log.ranks V me own call entry ≡ None → replay_answer log stop V me own call ≡ Replied reply
answer_from log stop V own me call entry reply b e f fill broke = rw (b, e, f, fill, broke)

-- over the events before it
answer_here : (next : Next) (log : Log) (stop : Breakpoint) (run before after : List Event) (event : Event) → Lawful next
    → IsRunWith next log run → run ≡ before ++ event ∷ after → is_member log.group event.rank ≡ true
    → is_break stop event.rank (length (view_of before event.rank)) ≡ false
    → replay_answer log stop (within log.group (view_of before)) event.rank (view_of before event.rank) event.call ≡ Replied event.reply
answer_here next log stop run before after event lawful is e member free =
    let n : ℕ = log.ranks in
    let group : List ℕ = log.group in
    let own : View = view_of before event.rank in
    let split : IsRun next n (before ++ event ∷ after) = let P : List Event → Type 0 = λ l. IsRun next n l in subst P e is.is_run in
    let step = IsRun-event next n before after event split in
    let kept = kept_run next n before lawful (IsRun-front next n before (event ∷ after) split) in
    let shaped = event_shaped next n before event lawful split.some split.few kept step in
    let true_reply = reply_true next n before event.rank event.call event.reply step.reply in
    let fit = fits_shaped n group event.rank own event.call event.reply member shaped in
    let fill = filled_allowed next n group before event.rank event.call event.reply step.reply in
    let broke = unbroken n group before event.rank event.call event.reply kept.matched kept.instances.same true_reply shaped in
    let entry = entry_in_log log run event.rank own event.call event.reply (view_of after event.rank) is.same_log member (view_at run before after event e) in
    answer_from log stop (within group (view_of before)) own event.rank event.call (entry_of n group event.rank own event.call event.reply) event.reply free entry fit fill broke

answer_at : (log : Log) (stop : Breakpoint) (V : ℕ → View) (before : List Event) (event : Event) (rank : ℕ) (view : View) (call : Call) (reply : Reply)
    → event.rank ≡ rank → view_of before rank ≡ view → event.call ≡ call → event.reply ≡ reply
    → replay_answer log stop V event.rank (view_of before event.rank) event.call ≡ Replied event.reply
    → replay_answer log stop V rank view call ≡ Replied reply
answer_at log stop V before event rank view call reply rank_is view_is call_is reply_is h = rw (← view_is, ← call_is, ← reply_is, ← rank_is) h

-- and so over the whole run
pub answer_whole : (next : Next) (log : Log) (stop : Breakpoint) (run : List Event) (rank : ℕ) (view : View) (call : Call) (reply : Reply) (rest : View)
    → Lawful next → IsRunWith next log run → is_member log.group rank ≡ true → view_of run rank ≡ view ++ (call, reply) ∷ rest
    → is_break stop rank (length view) ≡ false
    → replay_answer log stop (within log.group (view_of run)) rank view call ≡ Replied reply
answer_whole next log stop run rank view call reply rest lawful is member e free =
    let group : List ℕ = log.group in
    let at = place run rank view call reply rest e in
    let F : ℕ → Type 0 = λ r. is_member group r ≡ true in
    let G : ℕ → Type 0 = λ r. is_break stop r (length (view_of at.before r)) ≡ false in
    let free_view : is_break stop rank (length (view_of at.before rank)) ≡ false = rw at.view_is free in
    let here = answer_here next log stop run at.before at.after at.event lawful is at.whole (subst F (sym at.rank_is) member) (subst G (sym at.rank_is) free_view) in
    let views : Begins (view_of at.before) (view_of run) = let P : List Event → Type 0 = λ l. Begins (view_of at.before) (view_of l) in subst P (sym at.whole) (Begins-more at.before (at.event ∷ at.after)) in
    let there = answer_of-replied log stop (within group (view_of at.before)) (within group (view_of run)) (view_of at.before at.event.rank) at.event.rank at.event.call at.event.reply (Begins-within group (view_of at.before) (view_of run) views) here in
    answer_at log stop (within group (view_of run)) at.before at.event rank view call reply at.rank_is at.view_is at.call_is at.reply_is there

-- no live rank of the group diverges
diverges_not : (next : Next) (log : Log) (stop : Breakpoint) (run events : List Event) (rank : ℕ) (call : Call) (divergence : Divergence) (rest : View)
    → Lawful next → IsRunWith next log run → Begins (view_of events) (within log.group (view_of run))
    → is_member log.group rank ≡ true → view_of events rank ++ rest ≡ view_of run rank
    → next log.ranks rank (replies_in (view_of events rank)) ≡ Some call
    → replay_answer log stop (view_of events) rank (view_of events rank) call ≡ Diverged divergence → ⊥
diverges_not next log stop run events rank call divergence [] lawful is begins member e live h =
    let own : View = view_of events rank in
    let none = entry_past log run rank own is.same_log member (rw append-nil at (sym e)) in
    elim (test_cases (is_break stop rank (length own))) [
      | inl t ↦ (let no : AtBreak ≡ Diverged divergence = rw t at h in cc)
      | inr t ↦ (let no : LogEnded ≡ Diverged divergence = rw (t, none) at h in cc)
    ]
diverges_not next log stop run events rank call divergence ((c, reply) ∷ rest) lawful is begins member e live h =
    let own : View = view_of events rank in
    let asked = asked_in_run next log.ranks run rank own c reply rest is.is_run (sym e) in
    let calls : Some c ≡ Some call = sym asked ∙ live in
    let same : c ≡ call = cc in
    elim (test_cases (is_break stop rank (length own))) [
      | inl t ↦ (let no : AtBreak ≡ Diverged divergence = rw t at h in cc)
      | inr t ↦ (
          let good : replay_answer log stop (within log.group (view_of run)) rank own call ≡ Replied reply = rw same at (answer_whole next log stop run rank own c reply rest lawful is member (sym e) t) in
          let bad = answer_of-diverged log stop (view_of events) (within log.group (view_of run)) own rank call divergence begins h in
          let no : Replied reply ≡ Diverged divergence = sym good ∙ bad in cc)
    ]

pub no_divergence : (next : Next) (log : Log) (stop : Breakpoint) (run events : List Event) (rank : ℕ) (call : Call) (divergence : Divergence)
    → Lawful next → IsRunWith next log run → Replays next log stop events → is_member log.group rank ≡ true
    → next log.ranks rank (replies_in (view_of events rank)) ≡ Some call
    → replay_answer log stop (view_of events) rank (view_of events rank) call ≡ Diverged divergence → ⊥
no_divergence next log stop run events rank call divergence lawful is all member live h =
    let begins = Begins-run next log stop run events is all in
    let found : IsPrefixOf (view_of events rank) (view_of run rank) = begins_run next log stop run events is all rank in
    diverges_not next log stop run events rank call divergence found.0 lawful is begins member found.1 live h

by_answer : (variables : List Variable) (step : Step) (stand : Stand) (divergence : Divergence)
    → stand_by variables step ≡ Some (StandDiverged divergence) → ((d : Divergence) → step ≡ Diverged d → ⊥) → ⊥
by_answer variables AtBreak stand divergence h never = absurd (cc)
by_answer variables LogEnded stand divergence h never = absurd (cc)
by_answer variables (Diverged d) stand divergence h never = never d refl
by_answer variables (Wait missing) stand divergence h never = absurd (cc)
by_answer variables (Replied reply) stand divergence h never = absurd (cc)

stand_not : (next : Option Call) (variables : List Variable) (answer : Call → Step) (stand : Stand)
    → ((call : Call) (divergence : Divergence) → next ≡ Some call → answer call ≡ Diverged divergence → ⊥)
    → stand_where next variables answer ≡ Some stand → HasNotDiverged stand
stand_not None variables answer stand never h divergence e = (let s : Some StandEnded ≡ Some stand = h in let same : StandEnded ≡ stand = cc in let bad : StandEnded ≡ StandDiverged divergence = same ∙ e in cc)
stand_not (Some call) variables answer stand never h divergence e =
    by_answer variables (answer call) stand divergence (h ∙ ap (λ x. Some x) e) (λ d is. never call d refl is)

-- no stand is Diverged
pub stands_agree : (next : Next) (variables : ℕ → ℕ → List Reply → List Variable) (log : Log) (stop : Breakpoint) (run events : List Event)
    → Lawful next → IsRunWith next log run → Replays next log stop events
    → EachStand HasNotDiverged next variables log stop events
stands_agree next variables log stop run events lawful is all rank stand member h =
    stand_not (next log.ranks rank (replies_in (view_of events rank))) (variables log.ranks rank (replies_in (view_of events rank))) (replay_answer log stop (view_of events) rank (view_of events rank)) stand
    (λ call divergence live answer. no_divergence next log stop run events rank call divergence lawful is all member live answer) h
