-- Replays of a run's log begin the run.
use Rattle.std.proofs.Common.{◌++◌, ◌==◌, ◌∙◌, ◌∷◌, ◌≡◌, Err, List, None, Ok, Option, Result, Some, [], ap, append-nil, append_assoc, inl, inr, length, refl, slice_get, subst, sym, true, ℕ}
use Rattle.std.proofs.lemmas.Bool.{cases_lt, eqb-true}
use Rattle.mpi_call.specs.declared.call.Call.{Call}
use Rattle.mpi_call.specs.declared.reply.Reply.{Reply}
use Rattle.mpi_call.specs.Collectives.{is_member}
use Rattle.run_model.specs.declared.event.Event.{Event}
use Rattle.run_model.specs.Allowed.{IsAllowed}
use Rattle.run_model.specs.Lists.{IsPrefixOf}
use Rattle.run_model.specs.Program.{IsViewOf, PrintsOn}
use Rattle.run_model.specs.Run.{IsEvent, IsRun}
use Rattle.run_model.specs.Views.{Next, View, replies_in, view_of}
use Rattle.run_model.proofs.Along.{Along-keeps}
use Rattle.run_model.proofs.Places.{place}
use Rattle.run_model.proofs.Prefixes.{Begins, Begins-more, prefix_refl, prefix_trans}
use Rattle.run_model.proofs.RunLaws.{IsRun-event, Lawful, kept_run}
use Rattle.run_model.proofs.Views.{test_cases, view_of-mine, view_of-other}
use Rattle.srr_entry.specs.declared.entry.Entry.{Entry}
use Rattle.srr_entry.specs.declared.log.Log.{Log}
use Rattle.srr_entry.specs.Outputs.{Output}
use Rattle.srr_entry.specs.Entries.{entries_for, entry_of}
use Rattle.srr_entry.proofs.EntryPlaces.{entry_in_log, entry_past}
use Rattle.replay_model.specs.declared.step.Found.{Found}
use Rattle.replay_model.specs.declared.step.Missing.{Missing}
use Rattle.replay_model.specs.declared.step.Step.TheVariants.{AtBreak, Diverged, LogEnded, Replied}
use Rattle.replay_model.specs.Breaks.{broken}
use Rattle.replay_model.specs.Filling.{asker_of, filled_reply}
use Rattle.replay_model.specs.Fits.{entry_fits}
use Rattle.replay_model.specs.Laws.{BeginsRun, IsRunWith}
use Rattle.replay_model.specs.Replays.{IsReplayStep, Replays, Breakpoint, replay_answer, entry_answer, is_break, judged}
use Rattle.replay_model.proofs.Filled.{filled-same}
use Rattle.replay_model.proofs.Fillings.{Begins-within, filled_allowed, within, within_begins}

-- what holds where a call and its reply stand in a rank's view of a run
pub record InRun (next : Next) (n : ℕ) (run : List Event) (rank : ℕ) (view : View) (call : Call) (reply : Reply) : Type 0 where
  pub before : List Event
  pub view_is : view_of before rank ≡ view
  pub begins : Begins (view_of before) (view_of run)
  pub asked : next n rank (replies_in view) ≡ Some call
  pub allowed : IsAllowed next n before rank call reply

in_run-event : (next : Next) (n : ℕ) (before : List Event) (event : Event) (rank : ℕ) (view : View) (call : Call) (reply : Reply)
    → IsEvent next n before event → event.rank ≡ rank → view_of before rank ≡ view → event.call ≡ call → event.reply ≡ reply
    → (next n rank (replies_in view) ≡ Some call) × IsAllowed next n before rank call reply
in_run-event next n before event rank view call reply step rank_is view_is call_is reply_is =
    (rw (← view_is, ← call_is, ← rank_is) step.call, rw (← call_is, ← reply_is, ← rank_is) step.reply)

pub in_run : (next : Next) (n : ℕ) (run : List Event) (rank : ℕ) (view : View) (call : Call) (reply : Reply) (rest : View)
    → IsRun next n run → view_of run rank ≡ view ++ (call, reply) ∷ rest → InRun next n run rank view call reply
in_run next n run rank view call reply rest all e =
    let at = place run rank view call reply rest e in
    let whole : IsRun next n (at.before ++ at.event ∷ at.after) = let P : List Event → Type 0 = λ l. IsRun next n l in subst P at.whole all in
    let step = IsRun-event next n at.before at.after at.event whole in
    let views : Begins (view_of at.before) (view_of run) = let P : List Event → Type 0 = λ l. Begins (view_of at.before) (view_of l) in subst P (sym at.whole) (Begins-more at.before (at.event ∷ at.after)) in
    let found = in_run-event next n at.before at.event rank view call reply step at.rank_is at.view_is at.call_is at.reply_is in
    record { before = at.before; view_is = at.view_is; begins = views; asked = found.0; allowed = found.1 }

-- the call at a place of a run is its program's next
pub asked_in_run : (next : Next) (n : ℕ) (run : List Event) (rank : ℕ) (view : View) (call : Call) (reply : Reply) (rest : View)
    → IsRun next n run → view_of run rank ≡ view ++ (call, reply) ∷ rest → next n rank (replies_in view) ≡ Some call
asked_in_run next n run rank view call reply rest all e = (in_run next n run rank view call reply rest all e).asked

-- over the whole run, the entry of a place stands for the recorded reply
filled_in_run : (next : Next) (n : ℕ) (group : List ℕ) (run : List Event) (rank : ℕ) (view : View) (call : Call) (reply : Reply)
    → InRun next n run rank view call reply
    → filled_reply n (within group (view_of run)) rank view call (entry_of n group rank view call reply) ≡ Ok reply
filled_in_run next n group run rank view call reply at =
    let entry : Entry = entry_of n group rank view call reply in
    let there : filled_reply n (within group (view_of at.before)) rank view call entry ≡ Ok reply = rw at.view_is at (filled_allowed next n group at.before rank call reply at.allowed) in
    (filled-same n (within group (view_of at.before)) (within group (view_of run)) view rank call entry reply (Begins-within group (view_of at.before) (view_of run) at.begins) there).fill ∙ there

judged-replied : (me : ℕ) (own : View) (call : Call) (entry : Entry) (fill : Result Reply Missing) (found : Option Found) (reply : Reply)
    → judged me own call entry fill found ≡ Replied reply → fill ≡ Ok reply
judged-replied me own call entry (Err m) found reply h = absurd (cc)
judged-replied me own call entry (Ok other) (Some found) reply h = absurd (cc)
judged-replied me own call entry (Ok other) None reply h = let e : other ≡ reply = cc in ap (λ x. Ok x) e

pub entry-replied : (n : ℕ) (group : List ℕ) (V : ℕ → View) (own : View) (me : ℕ) (call : Call) (entry : Entry) (reply : Reply)
    → entry_answer group V (asker_of n me own) call (Some entry) ≡ Replied reply → filled_reply n V me own call entry ≡ Ok reply
entry-replied n group V own me call entry reply h =
    elim (test_cases (entry_fits n group me own call entry)) [
      | inl t ↦ judged-replied me own call entry (filled_reply n V me own call entry) (broken n V me own call entry) reply (rw t at h)
      | inr t ↦ absurd (let no : Diverged (record { rank = me; call_number = length own; entry = entry; call = call; found = None }) ≡ Replied reply = rw t at h in cc)
    ]

pub answer-replied : (log : Log) (stop : Breakpoint) (V : ℕ → View) (own : View) (me : ℕ) (call : Call) (reply : Reply)
    → replay_answer log stop V me own call ≡ Replied reply
    → entry_answer log.group V (asker_of log.ranks me own) call (slice_get (entries_for log.group log.lists me) (length own)) ≡ Replied reply
answer-replied log stop V own me call reply h =
    elim (test_cases (is_break stop me (length own))) [
      | inl t ↦ absurd (let no : AtBreak ≡ Replied reply = rw t at h in cc)
      | inr t ↦ rw t at h
    ]

-- one more event keeps what was replayed a prefix of the run
next_event : (next : Next) (log : Log) (stop : Breakpoint) (run before : List Event) (event : Event) (rest : View)
    → IsRunWith next log run → Begins (view_of before) (within log.group (view_of run)) → IsReplayStep next log stop before event
    → view_of before event.rank ++ rest ≡ view_of run event.rank
    → IsPrefixOf (view_of before event.rank ++ (event.call, event.reply) ∷ []) (view_of run event.rank)
next_event next log stop run before event [] is begins step e =
    let own : View = view_of before event.rank in
    let none = entry_past log run event.rank own is.same_log step.member (rw append-nil at (sym e)) in
    let h = answer-replied log stop (view_of before) own event.rank event.call event.reply step.reply in
    absurd (let no : LogEnded ≡ Replied event.reply = rw none at h in cc)
next_event next log stop run before event ((call, reply) ∷ rest) is begins step e =
    let n : ℕ = log.ranks in
    let group : List ℕ = log.group in
    let own : View = view_of before event.rank in
    let at = in_run next n run event.rank own call reply rest is.is_run (sym e) in
    let calls : Some call ≡ Some event.call = sym at.asked ∙ step.call in
    let same_call : call ≡ event.call = cc in
    let entry : Entry = entry_of n group event.rank own event.call reply in
    let here = rw same_call at (entry_in_log log run event.rank own call reply rest is.same_log step.member (sym e)) in
    let h = answer-replied log stop (view_of before) own event.rank event.call event.reply step.reply in
    let made_again : filled_reply n (view_of before) event.rank own event.call entry ≡ Ok event.reply = entry-replied n group (view_of before) own event.rank event.call entry event.reply (rw here at h) in
    let in_whole : filled_reply n (within group (view_of run)) event.rank own event.call entry ≡ Ok event.reply = (filled-same n (view_of before) (within group (view_of run)) own event.rank event.call entry event.reply begins made_again).fill ∙ made_again in
    let recorded : filled_reply n (within group (view_of run)) event.rank own event.call entry ≡ Ok reply = rw same_call at (filled_in_run next n group run event.rank own call reply at) in
    let replies : Ok event.reply ≡ Ok reply = sym in_whole ∙ recorded in
    let same_reply : event.reply ≡ reply = cc in
    (rest, rw (append_assoc, ← same_call, same_reply) e)

keeps : (next : Next) (log : Log) (stop : Breakpoint) (run : List Event) → IsRunWith next log run
    → (before : List Event) (event : Event) → Begins (view_of before) (within log.group (view_of run))
    → IsReplayStep next log stop before event → Begins (view_of (before ++ event ∷ [])) (within log.group (view_of run))
keeps next log stop run is before event begins step rank =
    elim (test_cases (event.rank == rank)) [
      | inl h ↦
          let same : event.rank ≡ rank = eqb-true event.rank rank h in
          let member : is_member log.group event.rank ≡ true = step.member in
          let found : IsPrefixOf (view_of before event.rank) (view_of run event.rank) = rw member at (begins event.rank) in
          let longer = next_event next log stop run before event found.0 is begins step found.1 in
          rw (view_of-mine before event rank same, ← same, member) longer
      | inr h ↦ rw (view_of-other before event rank h) (begins rank)
    ]

-- each rank of the group has a prefix of its view in the run, and no other rank has any
pub Begins-run : (next : Next) (log : Log) (stop : Breakpoint) (run events : List Event) → IsRunWith next log run
    → Replays next log stop events → Begins (view_of events) (within log.group (view_of run))
Begins-run next log stop run events is all =
    Along-keeps (IsReplayStep next log stop) (λ before. Begins (view_of before) (within log.group (view_of run))) (keeps next log stop run is) [] events (λ rank. (within log.group (view_of run) rank, refl)) all

pub begins_run : (next : Next) (log : Log) (stop : Breakpoint) (run events : List Event) → IsRunWith next log run
    → Replays next log stop events → Begins (view_of events) (view_of run)
begins_run next log stop run events is all rank =
    prefix_trans (view_of events rank) (within log.group (view_of run) rank) (view_of run rank) (Begins-run next log stop run events is all rank) (within_begins log.group (view_of run) rank)

nothing_begun : {A : Type 0} (xs : List A) → IsPrefixOf xs [] → xs ≡ []
nothing_begun [] prefix = refl
nothing_begun (x ∷ xs) prefix = absurd (let no : x ∷ (xs ++ prefix.0) ≡ [] = prefix.1 in cc)

-- the law of beginnings, with the printed output
pub BeginsRun-Replays : (next : Next) (output : Output) (log : Log) (stop : Breakpoint) (run events : List Event)
    → Lawful next → PrintsOn next output → IsRunWith next log run → Replays next log stop events → BeginsRun output log events run
BeginsRun-Replays next output log stop run events lawful prints is all =
    let n : ℕ = log.ranks in
    record {
      alone = λ rank other. (let prefix : IsPrefixOf (view_of events rank) [] = rw other at (Begins-run next log stop run events is all rank) in nothing_begun (view_of events rank) prefix);
      views = λ rank member. begins_run next log stop run events is all rank;
      outputs = λ rank member. (
          let prefix = begins_run next log stop run events is all rank in
          let kept = kept_run next n run lawful is.is_run in
          elim (cases_lt rank n) [
            | inl below ↦ (
                let F : View → Type 0 = λ v. IsViewOf next n rank v in
                let came = subst F (sym prefix.1) (kept.came rank below) in
                let printed = prints n rank (view_of events rank) prefix.0 (is.is_run.some, is.is_run.few, below) came in
                let G : View → Type 0 = λ v. IsPrefixOf (output n rank (replies_in (view_of events rank))) (output n rank (replies_in v)) in
                subst G prefix.1 printed)
            | inr above ↦ (
                let none : view_of run rank ≡ [] = kept.below.empty rank above in
                let H : View → Type 0 = λ v. IsPrefixOf (view_of events rank) v in
                let none_here : view_of events rank ≡ [] = nothing_begun (view_of events rank) (subst H none prefix) in
                rw (none, none_here) (prefix_refl (output n rank (replies_in []))))
          ]);
    }
