-- The answer to a call, unless it is to wait, does not change as others go on.
use Rattle.std.proofs.Common.{◌∙◌, ◌≡◌, Err, List, None, Ok, Option, Result, Some, inl, inr, length, refl, slice_get, sym, ℕ}
use Rattle.mpi_call.specs.declared.call.Call.{Call}
use Rattle.mpi_call.specs.declared.reply.Reply.{Reply}
use Rattle.run_model.specs.Views.{View}
use Rattle.run_model.proofs.Prefixes.{Begins}
use Rattle.run_model.proofs.Views.{test_cases}
use Rattle.srr_entry.specs.declared.entry.Entry.{Entry}
use Rattle.srr_entry.specs.declared.log.Log.{Log}
use Rattle.srr_entry.specs.Entries.{entries_for}
use Rattle.replay_model.specs.declared.step.Divergence.{Divergence}
use Rattle.replay_model.specs.declared.step.Missing.{Missing}
use Rattle.replay_model.specs.declared.step.Step.{Step}
use Rattle.replay_model.specs.declared.step.Step.TheVariants.{Diverged, Replied, Wait}
use Rattle.replay_model.specs.Breaks.{broken}
use Rattle.replay_model.specs.Filling.{asker_of, filled_reply}
use Rattle.replay_model.specs.Fits.{entry_fits}
use Rattle.replay_model.specs.Replays.{Breakpoint, replay_answer, entry_answer, is_break, judged}
use Rattle.replay_model.proofs.Filled.{filled-same}

-- the answer is that one waits
pub data WaitsOr (step : Step) (P : Type 0) : Type 0 where
  waits : (missing : Missing) → step ≡ Wait missing → WaitsOr step P
  goes : P → WaitsOr step P

judged-same : (n : ℕ) (V W : ℕ → View) (own : View) (me : ℕ) (call : Call) (entry : Entry) (fill : Result Reply Missing)
    → Begins V W → filled_reply n V me own call entry ≡ fill
    → WaitsOr (judged me own call entry fill (broken n V me own call entry)) (judged me own call entry (filled_reply n W me own call entry) (broken n W me own call entry) ≡ judged me own call entry fill (broken n V me own call entry))
judged-same n V W own me call entry (Err missing) begins h = waits missing refl
judged-same n V W own me call entry (Ok reply) begins h =
    let same = filled-same n V W own me call entry reply begins h in
    goes (rw (same.fill, same.breaks, h))

entry_answer-same : (n : ℕ) (group : List ℕ) (V W : ℕ → View) (own : View) (me : ℕ) (call : Call) (entry : Option Entry)
    → Begins V W
    → WaitsOr (entry_answer group V (asker_of n me own) call entry) (entry_answer group W (asker_of n me own) call entry ≡ entry_answer group V (asker_of n me own) call entry)
entry_answer-same n group V W own me call None begins = goes refl
entry_answer-same n group V W own me call (Some entry) begins =
    elim (test_cases (entry_fits n group me own call entry)) [
      | inl t ↦ rw t (judged-same n V W own me call entry (filled_reply n V me own call entry) begins refl)
      | inr t ↦ rw t (goes refl)
    ]

-- the answer, unless it is to wait, is the same over longer views of the others
pub answer_of-same : (log : Log) (stop : Breakpoint) (V W : ℕ → View) (own : View) (me : ℕ) (call : Call) → Begins V W
    → WaitsOr (replay_answer log stop V me own call) (replay_answer log stop W me own call ≡ replay_answer log stop V me own call)
answer_of-same log stop V W own me call begins =
    elim (test_cases (is_break stop me (length own))) [
      | inl t ↦ rw t (goes refl)
      | inr t ↦ rw t (entry_answer-same log.ranks log.group V W own me call (slice_get (entries_for log.group log.lists me) (length own)) begins)
    ]

replied : (step step2 : Step) (reply : Reply) → WaitsOr step (step2 ≡ step) → step ≡ Replied reply → step2 ≡ Replied reply
replied step step2 reply (waits missing w) h = absurd (let e : Wait missing ≡ Replied reply = sym w ∙ h in cc)
replied step step2 reply (goes same) h = same ∙ h

-- a reply stays the reply
pub answer_of-replied : (log : Log) (stop : Breakpoint) (V W : ℕ → View) (own : View) (me : ℕ) (call : Call) (reply : Reply)
    → Begins V W → replay_answer log stop V me own call ≡ Replied reply → replay_answer log stop W me own call ≡ Replied reply
answer_of-replied log stop V W own me call reply begins h = replied _ _ reply (answer_of-same log stop V W own me call begins) h

diverges : (step step2 : Step) (divergence : Divergence) → WaitsOr step (step2 ≡ step) → step ≡ Diverged divergence
    → step2 ≡ Diverged divergence
diverges step step2 divergence (waits missing w) h = absurd (let e : Wait missing ≡ Diverged divergence = sym w ∙ h in cc)
diverges step step2 divergence (goes same) h = same ∙ h

-- a divergence stays the divergence
pub answer_of-diverged : (log : Log) (stop : Breakpoint) (V W : ℕ → View) (own : View) (me : ℕ) (call : Call) (divergence : Divergence)
    → Begins V W → replay_answer log stop V me own call ≡ Diverged divergence → replay_answer log stop W me own call ≡ Diverged divergence
answer_of-diverged log stop V W own me call divergence begins h = diverges _ _ divergence (answer_of-same log stop V W own me call begins) h
