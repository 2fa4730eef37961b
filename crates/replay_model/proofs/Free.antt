-- Free steps of a run's log are a replay of it.
use Rattle.std.proofs.Common.{◌≡◌, ◌∙◌, ◌++◌, ◌∷◌, ℕ, List, [], None, Ok, Option, Some, append-nil, inl, inr, length, refl, slice_get, sym}
use Rattle.mpi_call.specs.declared.call.Call.{Call}
use Rattle.mpi_call.specs.declared.reply.Reply.{Reply}
use Rattle.run_model.specs.declared.event.Event.{Event}
use Rattle.run_model.specs.Lists.{Along, IsPrefixOf}
use Rattle.run_model.specs.Program.{PrintsOn}
use Rattle.run_model.specs.Views.{Next, View, view_of}
use Rattle.run_model.proofs.Along.{Along-snoc}
use Rattle.run_model.proofs.Prefixes.{Begins}
use Rattle.run_model.proofs.RunLaws.{Lawful}
use Rattle.run_model.proofs.Views.{option_cases, test_cases}
use Rattle.srr_entry.specs.declared.entry.Entry.{Entry}
use Rattle.srr_entry.specs.declared.log.Log.{Log}
use Rattle.srr_entry.specs.Entries.{entries_for}
use Rattle.srr_entry.specs.Outputs.{Output}
use Rattle.srr_entry.proofs.EntryPlaces.{entry_past}
use Rattle.replay_model.specs.declared.step.Found.{Found}
use Rattle.replay_model.specs.declared.step.Step.TheVariants.{LogEnded, Replied}
use Rattle.replay_model.specs.Breaks.{broken}
use Rattle.replay_model.specs.Filling.{asker_of, filled_reply}
use Rattle.replay_model.specs.Fits.{entry_fits}
use Rattle.replay_model.specs.FreeSteps.{AreFreeSteps, IsFreeStep}
use Rattle.replay_model.specs.Laws.{IsRunWith, ReplaysInEveryOrder, ShowsInEveryOrder}
use Rattle.replay_model.specs.Replays.{IsReplayStep, Replays, diverged, entry_answer, judged, replay_answer}
use Rattle.replay_model.proofs.Cut.{HasAllOf-whole}
use Rattle.replay_model.proofs.Filled.{filled-same}
use Rattle.replay_model.proofs.Fillings.{within}
use Rattle.replay_model.proofs.Prefix.{Begins-run, BeginsRun-Replays, answer-replied, asked_in_run, entry-replied}
use Rattle.replay_model.proofs.RunAnswers.{answer_whole}

not_diverged : (me : ℕ) (own : View) (call : Call) (entry : Entry) (found : Option Found) (reply : Reply) → diverged me own call entry found ≡ Replied reply → ⊥
not_diverged me own call entry found reply h = cc

judged_fine : (me : ℕ) (own : View) (call : Call) (entry : Entry) (reply other : Reply) (found : Option Found)
    → judged me own call entry (Ok other) found ≡ Replied reply → found ≡ None
judged_fine me own call entry reply other None h = refl
judged_fine me own call entry reply other (Some found) h = absurd (not_diverged me own call entry (Some found) reply h)

-- an entry that stands for a reply here, and is answered over longer views, is answered here
earlier : (log : Log) (V W : ℕ → View) (own : View) (me : ℕ) (call : Call) (entry : Entry) (reply other : Reply) → Begins V W
    → slice_get (entries_for log.group log.lists me) (length own) ≡ Some entry → filled_reply log.ranks V me own call entry ≡ Ok other
    → replay_answer log None W me own call ≡ Replied reply → replay_answer log None V me own call ≡ Replied other
earlier log V W own me call entry reply other begins there fill h =
    let n : ℕ = log.ranks in
    let same = filled-same n V W own me call entry other begins fill in
    let later : filled_reply n W me own call entry ≡ Ok other = same.fill ∙ fill in
    let answer : entry_answer log.group W (asker_of n me own) call (Some entry) ≡ Replied reply = rw there at h in
    elim (test_cases (entry_fits n log.group me own call entry)) [
      | inl t ↦
          let judgement : judged me own call entry (Ok other) (broken n W me own call entry) ≡ Replied reply = rw (t, later) at answer in
          let none : broken n V me own call entry ≡ None = sym same.breaks ∙ judged_fine me own call entry reply other (broken n W me own call entry) judgement in
          rw (there, t, fill, none) refl
      | inr t ↦ absurd (not_diverged me own call entry None reply (rw t at answer))
    ]

-- a free step beside a run with this log is a step of its replay
step_replays : (next : Next) (log : Log) (run before : List Event) (event : Event) (rest : View) → Lawful next → IsRunWith next log run
    → Begins (view_of before) (within log.group (view_of run)) → (step : IsFreeStep next log before event)
    → view_of before event.rank ++ rest ≡ view_of run event.rank → IsReplayStep next log None before event
step_replays next log run before event [] lawful is begins step e =
    let own : View = view_of before event.rank in
    let none = entry_past log run event.rank own is.same_log step.member (rw append-nil at (sym e)) in
    absurd (let no : Some step.entry ≡ None = sym step.there ∙ none in cc)
step_replays next log run before event ((c, reply) ∷ rest) lawful is begins step e =
    let own : View = view_of before event.rank in
    let asked = asked_in_run next log.ranks run event.rank own c reply rest is.is_run (sym e) in
    let calls : Some c ≡ Some event.call = sym asked ∙ step.call in
    let same_call : c ≡ event.call = cc in
    let good : replay_answer log None (within log.group (view_of run)) event.rank own event.call ≡ Replied reply =
    rw same_call at (answer_whole next log None run event.rank own c reply rest lawful is step.member (sym e) refl) in
    record {
      member = step.member;
      call = step.call;
      reply = earlier log (view_of before) (within log.group (view_of run)) own event.rank event.call step.entry reply event.reply begins step.there step.reply good;
      mate = step.mate;
      alone = step.alone;
    }

free_along : (next : Next) (log : Log) (run before events : List Event) → Lawful next → IsRunWith next log run → Replays next log None before
    → Along (IsFreeStep next log) before events → Along (IsReplayStep next log None) before events
free_along next log run before [] lawful is all free = tt
free_along next log run before (event ∷ events) lawful is all free =
    let begins = Begins-run next log None run before is all in
    let member = free.0.member in
    let found : IsPrefixOf (view_of before event.rank) (view_of run event.rank) = rw member at (begins event.rank) in
    let step = step_replays next log run before event found.0 lawful is begins free.0 found.1 in
    (step, free_along next log run (before ++ event ∷ []) events lawful is (Along-snoc (IsReplayStep next log None) [] before event all step) free.1)

pub free_replays : (next : Next) (log : Log) (run events : List Event) → Lawful next → IsRunWith next log run → AreFreeSteps next log events → Replays next log None events
free_replays next log run events lawful is free = free_along next log run [] events lawful is tt free

-- and a step of a replay is free
replay_free : (next : Next) (log : Log) (before : List Event) (event : Event) → IsReplayStep next log None before event → IsFreeStep next log before event
replay_free next log before event step =
    let own : View = view_of before event.rank in
    let h = answer-replied log None (view_of before) own event.rank event.call event.reply step.reply in
    elim (option_cases (slice_get (entries_for log.group log.lists event.rank) (length own))) [
      | inl some ↦ record {
        member = step.member;
        call = step.call;
        entry = some.0;
        there = some.1;
        reply = entry-replied log.ranks log.group (view_of before) own event.rank event.call some.0 event.reply (rw some.1 at h);
        mate = step.mate;
        alone = step.alone;
      }
      | inr none ↦ absurd (let no : LogEnded ≡ Replied event.reply = rw none at h in cc)
    ]

replays_free : (next : Next) (log : Log) (before events : List Event) → Along (IsReplayStep next log None) before events → Along (IsFreeStep next log) before events
replays_free next log before [] all = tt
replays_free next log before (event ∷ events) all = (replay_free next log before event all.0, replays_free next log (before ++ event ∷ []) events all.1)

pub replays_in_every_order : (next : Next) (log : Log) (run : List Event) → Lawful next → IsRunWith next log run → ReplaysInEveryOrder next log
replays_in_every_order next log run lawful is events = (λ replays. replays_free next log [] events replays, λ free. free_replays next log run events lawful is free)

-- the headline
pub shows_in_every_order : (next : Next) (output : Output) (log : Log) (run : List Event) → Lawful next → PrintsOn next output → IsRunWith next log run
    → ShowsInEveryOrder next output log run
shows_in_every_order next output log run lawful prints is =
    record {
      moments = λ events free. BeginsRun-Replays next output log None run events lawful prints is (free_replays next log run events lawful is free);
      ends = λ events free done.
          HasAllOf-whole next output log None run events refl lawful is
          (record { replays = free_replays next log run events lawful is free; exhausted = λ event step. done event (replay_free next log events event step) });
    }
