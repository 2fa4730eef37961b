-- What is known once one more turn of a state was tried.
use Rattle.std.proofs.Common.{◌≡◌, ◌≢◌, ◌<◌, ◌∙◌, ◌++◌, ◌∷◌, ℕ, List, [], Option, Some, None, All, append_assoc, false, true, inl, inr, refl, ap, sym, subst}
use Rattle.std.proofs.lemmas.List.Elements.{All-append, All-cons, All-nil}
use Rattle.mpi_call.specs.declared.call.Call.{Call}
use Rattle.mpi_call.specs.declared.call.Halt.{Halt}
use Rattle.mpi_call.specs.declared.call.Halt.TheVariants.{Stuck}
use Rattle.mpi_call.specs.declared.reply.Reply.{Reply}
use Rattle.mpi_call.specs.declared.reply.Reply.TheVariants.{Stopped}
use Rattle.run_model.specs.declared.event.Event.{Event}
use Rattle.run_model.specs.Allowed.{IsPrompt, IsStuck, can_go}
use Rattle.run_model.specs.Due.{halt_of_reply, halted, or_else}
use Rattle.run_model.specs.Numbers.{communicators_of, number_among, origin_of}
use Rattle.run_model.specs.Run.{IsPromptEvent, IsPromptRun}
use Rattle.run_model.specs.Serial.{call_after}
use Rattle.run_model.specs.Views.{Next, view_of}
use Rattle.run_model.proofs.Along.{Along-snoc}
use Rattle.run_model.proofs.ChosenLaws.{cannot_go}
use Rattle.run_model.proofs.Prompt.{IsPromptRun-event}
use Rattle.run_model.proofs.Views.{test_cases}
use Rattle.picked_runs.specs.declared.turn.Pick.{Pick}
use Rattle.picked_runs.specs.declared.turn.Pick.TheVariants.{First}
use Rattle.picked_runs.specs.declared.turn.Turn.{Turn}
use Rattle.picked_runs.specs.Numbering.{AreNumberedInOrder, IsNumberedInOrder}
use Rattle.picked_runs.specs.Turns.{IsPickOf}
use Rattle.picked_runs.specs.Picks.{has_pick, picked_event, picked_reply}
use Rattle.picked_runs.proofs.Numbering.{picked_fresh}
use Rattle.srr_entry.specs.Outputs.{Output}
use Rattle.run_states.specs.Outcomes.{IsProbeKept, RunOutcome, halted_outcome}
use Rattle.run_states.specs.StateLaws.{HaltsDecideOutcomes}
use Rattle.explore.specs.declared.found.FoundOutcome.{FoundOutcome}
use Rattle.explore.specs.declared.met.Met.{Met}
use Rattle.explore.specs.Courses.{IsAnswered, IsTurnHeldBack}
use Rattle.explore.specs.Explored.{IsListed, events_of_turns}
use Rattle.explore.specs.Searching.{HasTried, IsAtEnd, IsOutcomeListed, IsState, IsSearchStep, IsStepFollowed, IsTurnMade, IsUnanswered, IsUnder, question_of}
use Rattle.explore.proofs.Recorded.{halted-append, halted_comes, kept_stopped, stuck_comes, taken_begins, turn_made}
use Rattle.explore.proofs.StuckReplies.{stuck_then}

listed_as : (listed : List FoundOutcome) (one other : RunOutcome) → one ≡ other → IsListed listed one → IsListed listed other
listed_as listed one other same there = (let F : RunOutcome → Type 0 = λ o. IsListed listed o in subst F same there)

pub stopped_by : (reply : Reply) (halt : Halt) → halt_of_reply reply ≡ Some halt → reply ≡ Stopped halt
stopped_by (Stopped other) halt h = (let same : other ≡ halt = cc in ap (λ x. Stopped x) same)
stopped_by reply halt h = absurd (cc)

-- 1. the event that the turn made

none_behind : (o : Option Halt) → or_else o None ≡ o
none_behind None = refl
none_behind (Some halt) = refl

-- after a history without a halt, the halt is that of the one event behind it
pub halt_of_last : (before : List Event) (event : Event) → halted before ≡ None → halted (before ++ event ∷ []) ≡ halt_of_reply event.reply
halt_of_last before event free =
    halted-append before (event ∷ []) ∙ (ap (λ o. or_else o (halted (event ∷ []))) free ∙ none_behind (halt_of_reply event.reply))

-- the turn's event, after the history of its state
pub record IsMade (next : Next) (n : ℕ) (before after : List Event) (turn : Turn) (call : Call) : Type 0 where
  pub asked : call_after next n before turn.rank ≡ Some call
  pub answered : IsAnswered next n before after turn call
  pub run : IsPromptRun next n (before ++ picked_event n before turn.rank call turn.pick ∷ [])
  pub allowed : IsPrompt next n before turn.rank call (picked_reply n before turn.rank call turn.pick)
  pub halt : halted after ≡ halt_of_reply (picked_reply n before turn.rank call turn.pick)

pub made_event : (next : Next) (n : ℕ) (before after : List Event) (turn : Turn) → halted before ≡ None → IsPromptRun next n after → (made : IsTurnMade next n before after turn)
    → IsMade next n before after turn made.call
made_event next n before after turn free run made =
    let event : Event = picked_event n before turn.rank made.call turn.pick in
    let same : after ≡ before ++ event ∷ [] = made.answered.events_are in
    let R : List Event → Type 0 = λ l. IsPromptRun next n l in
    let longer : IsPromptRun next n (before ++ event ∷ []) = subst R same run in
    let step : IsPromptEvent next n before event = IsPromptRun-event next n before [] event longer in
    record { asked = made.asked; answered = made.answered; run = longer; allowed = step.reply; halt = ap halted same ∙ halt_of_last before event free }

-- where its halt is not Stuck, its call could go, so one more turn makes it
pub went_on : (next : Next) (n : ℕ) (before after : List Event) (turn : Turn) (call : Call) → IsMade next n before after turn call
    → (halted after ≡ Some Stuck → ⊥) → can_go n before turn.rank (view_of before turn.rank) call ≡ true
went_on next n before after turn call made other =
    elim (test_cases (can_go n before turn.rank (view_of before turn.rank) call)) [
      | inl t ↦ t
      | inr held ↦
          let reply : picked_reply n before turn.rank call turn.pick ≡ Stopped Stuck = cannot_go next n before turn.rank call (picked_reply n before turn.rank call turn.pick) held made.allowed in
          absurd (other (made.halt ∙ ap halt_of_reply reply))
    ]

pub made_next : (next : Next) (n : ℕ) (turns : List Turn) (after : List Event) (turn : Turn) (call : Call) → IsMade next n (events_of_turns next n turns) after turn call
    → (halted after ≡ Some Stuck → ⊥) → events_of_turns next n (turns ++ turn ∷ []) ≡ after
made_next next n turns after turn call made other =
    let before : List Event = events_of_turns next n turns in
    turn_made next n turns turn call made.asked made.answered.offered (went_on next n before after turn call made other) ∙ sym made.answered.events_are

all_snoc : (P : Turn → Type 0) (turns : List Turn) (turn : Turn) → All P turns → P turn → All P (turns ++ turn ∷ [])
all_snoc P turns turn all one = All-append P turns (turn ∷ []) all (All-cons P turn [] one (All-nil P))

-- with the numbers of a recording machine. (As in `picked_runs`, where it is private.)
picked_numbered : (n : ℕ) (before : List Event) (rank : ℕ) (call : Call) (pick : Pick) → IsNumberedInOrder n before (picked_event n before rank call pick)
picked_numbered n before rank call pick comm number enter there real at =
    let f = picked_fresh n before rank call pick (comm, number) there real in
    let calls : Some f.enter ≡ Some enter = sym f.at ∙ at in
    let same : f.enter ≡ enter = cc in
    f.number ∙ ap (λ e. number_among (communicators_of n before) (origin_of (view_of before rank) number e)) same

made_numbered : (next : Next) (n : ℕ) (before after : List Event) (turn : Turn) → AreNumberedInOrder n before → IsTurnMade next n before after turn → AreNumberedInOrder n after
made_numbered next n before after turn numbered made =
    let N : List Event → Type 0 = λ l. AreNumberedInOrder n l in
    let event : Event = picked_event n before turn.rank made.call turn.pick in
    subst N (sym made.answered.events_are) (Along-snoc (IsNumberedInOrder n) [] before event numbered (picked_numbered n before turn.rank made.call turn.pick))

-- 2. no halt: a state is noted

pub next_step : (next : Next) (n : ℕ) (root : List Event) (turns : List Turn) (after : List Event) (turn : Turn) → IsState next n root turns → turn.rank < n → IsPickOf n turn.pick → IsPromptRun next n after
    → IsTurnMade next n (events_of_turns next n turns) after turn → halted after ≡ None
    → IsSearchStep next n root (turns ++ turn ∷ []) after
next_step next n root turns after turn state below pick run made none =
    let before : List Event = events_of_turns next n turns in
    let call : Call = made.call in
    let m = made_event next n before after turn state.free run made in
    let other : halted after ≡ Some Stuck → ⊥ = λ h. (let no : None ≡ Some Stuck = sym none ∙ h in cc) in
    record {
      before = before;
      event = picked_event n before turn.rank call turn.pick;
      whole = made.answered.events_are;
      made = made_next next n turns after turn call m other;
      more = state.under.more;
      begins = state.under.made;
      probes = state.under.probes;
      ranks = all_snoc (λ (t : Turn). t.rank < n) turns turn state.under.ranks below;
      picks = all_snoc (λ (t : Turn). IsPickOf n t.pick) turns turn state.under.picks pick;
      run = run;
      numbered = made_numbered next n before after turn state.under.numbered made;
      free = none;
    }

pub tried_state : (next : Next) (output : Output) (n polls : ℕ) (root : List Event) (turns : List Turn) (after : List Event) (turn : Turn) (met' : Met)
    → IsState next n root turns → IsPromptRun next n after → IsTurnMade next n (events_of_turns next n turns) after turn → halted after ≡ None
    → IsStepFollowed next n polls met' after → HasTried (question_of next output n polls) met' (events_of_turns next n turns) turn
tried_state next output n polls root turns after turn met' state run made none followed =
    let before : List Event = events_of_turns next n turns in
    let call : Call = made.call in
    let m = made_event next n before after turn state.free run made in
    record {
      call = call;
      asked = made.asked;
      offered = made.answered.offered;
      goes = made.answered.goes;
      moves = λ free kept. followed before (picked_event n before turn.rank call turn.pick) made.answered.events_are kept;
      halts = λ halt reply. (let no : None ≡ Some halt = sym none ∙ (m.halt ∙ ap halt_of_reply reply) in absurd (cc));
    }

-- 3. a halt: what the recording comes to is noted

pub tried_end : (next : Next) (output : Output) (n polls : ℕ) (root : List Event) (turns : List Turn) (after : List Event) (turn : Turn) (met' : Met) (halt : Halt)
    → IsState next n root turns → IsPromptRun next n after → (made : IsTurnMade next n (events_of_turns next n turns) after turn) → halted after ≡ Some halt
    → IsListed met'.found (halted_outcome next output n (events_of_turns next n turns) halt) → HasTried (question_of next output n polls) met' (events_of_turns next n turns) turn
tried_end next output n polls root turns after turn met' halt state run made there listed =
    let before : List Event = events_of_turns next n turns in
    let call : Call = made.call in
    let m = made_event next n before after turn state.free run made in
    record {
      call = call;
      asked = made.asked;
      offered = made.answered.offered;
      goes = made.answered.goes;
      moves = λ free kept. (let no : None ≡ Some halt = sym free ∙ (sym m.halt ∙ there) in absurd (cc));
      halts = λ other reply. (
          let both : Some other ≡ Some halt = sym (ap halt_of_reply reply) ∙ (sym m.halt ∙ there) in
          let same : halt ≡ other = cc in
          listed_as met'.found _ _ (ap (halted_outcome next output n before) same) listed);
    }

-- Stuck: no call can go after the state, so its own recording comes to this
pub stuck_end : (next : Next) (n : ℕ) (root : List Event) (turns : List Turn) (after : List Event) (turn : Turn) → IsState next n root turns → IsPromptRun next n after
    → IsTurnMade next n (events_of_turns next n turns) after turn → halted after ≡ Some Stuck → IsStuck next n (events_of_turns next n turns)
stuck_end next n root turns after turn state run made there =
    let before : List Event = events_of_turns next n turns in
    let m = made_event next n before after turn state.free run made in
    let reply : Reply = picked_reply n before turn.rank made.call turn.pick in
    stuck_then next n before turn.rank made.call reply state.free m.allowed (stopped_by reply Stuck (sym m.halt ∙ there))

pub stuck_listed : (next : Next) (output : Output) (n : ℕ) (root : List Event) (turns : List Turn) (rank : ℕ) (call : Call) (listed : List FoundOutcome) → HaltsDecideOutcomes next output n
    → IsState next n root turns → rank < n → call_after next n (events_of_turns next n turns) rank ≡ Some call → IsStuck next n (events_of_turns next n turns)
    → IsOutcomeListed next output n turns listed → IsListed listed (halted_outcome next output n (events_of_turns next n turns) Stuck)
stuck_listed next output n root turns rank call listed law state below asked stuck noted =
    let c = noted.comes in
    let whole = stuck_comes next output n law (events_of_turns next n turns) c.run rank call (taken_begins next n turns c.run c.taken) c.picked.run c.taken.ended state.free stuck below asked in
    listed_as listed noted.outcome _ (c.outcome_is ∙ whole) noted.listed_is

-- another halt: the recording by one more turn comes to this
pub halt_under : (next : Next) (n : ℕ) (root : List Event) (turns : List Turn) (after : List Event) (turn : Turn) (halt : Halt) → IsState next n root turns → turn.rank < n
    → IsPromptRun next n after → IsTurnMade next n (events_of_turns next n turns) after turn → halted after ≡ Some halt → (halt ≡ Stuck → ⊥)
    → (events_of_turns next n (turns ++ turn ∷ []) ≡ after)
halt_under next n root turns after turn halt state below run made there other =
    let before : List Event = events_of_turns next n turns in
    let m = made_event next n before after turn state.free run made in
    made_next next n turns after turn made.call m (λ h. (let both : Some halt ≡ Some Stuck = sym there ∙ h in other (cc)))

-- its turns make a run under the root, at its end
pub halt_state : (next : Next) (n : ℕ) (root : List Event) (turns : List Turn) (after : List Event) (turn : Turn) (halt : Halt) → IsState next n root turns → turn.rank < n → IsPickOf n turn.pick
    → IsPromptRun next n after → IsTurnMade next n (events_of_turns next n turns) after turn → halted after ≡ Some halt → (halt ≡ Stuck → ⊥)
    → IsUnder next n root (turns ++ turn ∷ [])
halt_state next n root turns after turn halt state below pick run made there other =
    let before : List Event = events_of_turns next n turns in
    let m = made_event next n before after turn state.free run made in
    let event : Event = picked_event n before turn.rank made.call turn.pick in
    let same : events_of_turns next n (turns ++ turn ∷ []) ≡ after = halt_under next n root turns after turn halt state below run made there other in
    let whole : after ≡ root ++ (state.under.more ++ event ∷ []) =
    made.answered.events_are ∙ (ap (λ l. l ++ event ∷ []) state.under.made ∙ append_assoc root state.under.more (event ∷ [])) in
    let R : List Event → Type 0 = λ l. IsPromptRun next n l in
    let N : List Event → Type 0 = λ l. AreNumberedInOrder n l in
    let K : List Event → Type 0 = λ l. IsProbeKept l event in
    record {
      more = state.under.more ++ event ∷ [];
      made = same ∙ whole;
      ranks = all_snoc (λ (t : Turn). t.rank < n) turns turn state.under.ranks below;
      picks = all_snoc (λ (t : Turn). IsPickOf n t.pick) turns turn state.under.picks pick;
      run = subst R (sym same) run;
      numbered = subst N (sym same) (made_numbered next n before after turn state.under.numbered made);
      probes = Along-snoc IsProbeKept root state.under.more event state.under.probes
          (subst K state.under.made (kept_stopped before event halt (stopped_by event.reply halt (sym m.halt ∙ there))));
    }

pub halt_end : (next : Next) (n : ℕ) (root : List Event) (turns : List Turn) (after : List Event) (turn : Turn) (halt : Halt) → IsState next n root turns → turn.rank < n
    → IsPromptRun next n after → IsTurnMade next n (events_of_turns next n turns) after turn → halted after ≡ Some halt → (halt ≡ Stuck → ⊥)
    → IsAtEnd next n (events_of_turns next n (turns ++ turn ∷ []))
halt_end next n root turns after turn halt state below run made there other =
    inr (halt, ap halted (halt_under next n root turns after turn halt state below run made there other) ∙ there)

pub halt_listed : (next : Next) (output : Output) (n : ℕ) (root : List Event) (turns : List Turn) (after : List Event) (turn : Turn) (halt : Halt) (listed : List FoundOutcome)
    → HaltsDecideOutcomes next output n → IsState next n root turns → IsPromptRun next n after → (made : IsTurnMade next n (events_of_turns next n turns) after turn)
    → halted after ≡ Some halt → events_of_turns next n (turns ++ turn ∷ []) ≡ after → IsOutcomeListed next output n (turns ++ turn ∷ []) listed
    → IsListed listed (halted_outcome next output n (events_of_turns next n turns) halt)
halt_listed next output n root turns after turn halt listed law state run made there same noted =
    let before : List Event = events_of_turns next n turns in
    let m = made_event next n before after turn state.free run made in
    let event : Event = picked_event n before turn.rank made.call turn.pick in
    let c = noted.comes in
    let begins = taken_begins next n (turns ++ turn ∷ []) c.run c.taken in
    let whole : (before ++ event ∷ []) ++ begins.0 ≡ c.run = ap (λ l. l ++ begins.0) (sym made.answered.events_are ∙ sym same) ∙ begins.1 in
    let outcome = halted_comes next output n law before c.run event halt (begins.0, whole) c.picked.run c.taken.ended state.free (stopped_by event.reply halt (sym m.halt ∙ there)) in
    listed_as listed noted.outcome _ (c.outcome_is ∙ outcome) noted.listed_is

-- 4. it was not answered

pub unanswered_ended : (next : Next) (n : ℕ) (before : List Event) (turn : Turn) → call_after next n before turn.rank ≡ None → IsUnanswered next n before turn
unanswered_ended next n before turn none =
    record {
      absent = λ call asked. (let no : None ≡ Some call = sym none ∙ asked in absurd (cc));
      held = λ call asked. (let no : None ≡ Some call = sym none ∙ asked in absurd (cc));
    }

pub unanswered_held : (next : Next) (n : ℕ) (before after : List Event) (turn : Turn) (call : Call) → call_after next n before turn.rank ≡ Some call
    → IsTurnHeldBack n before after turn call → IsUnanswered next n before turn
unanswered_held next n before after turn call asked held =
    let A : Call → Type 0 = λ c. turn.pick ≢ First → has_pick n before turn.rank c turn.pick ≡ false in
    let H : Call → Type 0 = λ c. turn.pick ≡ First → can_go n before turn.rank (view_of before turn.rank) c ≡ false in
    let same : (other : Call) → call_after next n before turn.rank ≡ Some other → call ≡ other = λ other h. (let both : Some call ≡ Some other = sym asked ∙ h in cc) in
    record {
      absent = λ other h. subst A (same other h) held.absent;
      held = λ other h. subst H (same other h) held.held;
    }
