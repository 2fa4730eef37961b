-- Histories that their moves do not lead out of come to what each whole run comes to.
use Rattle.std.proofs.Common.{◌≡◌, ◌<◌, ◌∙◌, ◌++◌, ◌∷◌, ℕ, List, [], Some, None, true, false, append-nil, append_assoc, inl, inr, map, nat_lt, refl, ap, sym, subst}
use Rattle.std.proofs.Math.Path.{fun_ext}
use Rattle.std.proofs.lemmas.Bool.{and_from, and_parts, cases_lt, eq-eqb, lt-ltb, ltb-true}
use Rattle.mpi_call.specs.declared.call.Halt.{Halt}
use Rattle.mpi_call.specs.declared.call.Halt.TheVariants.{Aborted, Trapped, Truncated, Mismatched, BadRequest, Limit, Stuck}
use Rattle.mpi_call.specs.declared.reply.Reply.{Reply}
use Rattle.run_model.specs.declared.ending.Ending.{Ending}
use Rattle.run_model.specs.declared.ending.Ending.TheVariants.{Halted}
use Rattle.run_model.specs.declared.event.Event.{Event}
use Rattle.run_model.specs.Due.{halt_of_reply, halted, or_else}
use Rattle.run_model.specs.Endings.{ending_by, ending_of}
use Rattle.run_model.specs.Lists.{Along, are_below}
use Rattle.run_model.specs.Run.{IsPromptEvent, IsPromptRun}
use Rattle.run_model.specs.Serial.{call_after}
use Rattle.run_model.specs.Views.{Next, View, moment_at, replies_in, view_of}
use Rattle.run_model.proofs.Along.{Along-back, Along-front}
use Rattle.run_model.proofs.Halts.{names, was_stopped}
use Rattle.run_model.proofs.MemberLists.{AreMembers-world}
use Rattle.run_model.proofs.Prompt.{IsPromptRun-front, KeptPrompt, kept_all, kept_prompt}
use Rattle.run_model.proofs.RunLaws.{Kept, Lawful}
use Rattle.run_model.proofs.Views.{option_cases}
use Rattle.picked_runs.specs.Made.{pick_of}
use Rattle.picked_runs.specs.Numbering.{AreNumberedInOrder, IsNumberedInOrder}
use Rattle.picked_runs.specs.Picked.{IsPickedEvent}
use Rattle.picked_runs.proofs.Making.{event_picked}
use Rattle.srr_entry.specs.Outputs.{Output}
use Rattle.run_states.specs.Futures.{SameFuture}
use Rattle.run_states.specs.Moves.{AreClosed, IsHalting, IsVisited}
use Rattle.run_states.specs.Outcomes.{IsProbeKept, IsWholeRun, RunOutcome, reported_ending, halted_outcome, last_replies, outcome_of_run, reported_ranks, replies_and}
use Rattle.run_states.specs.StateLaws.{EveryOutcomeIsMet, EveryPatientOutcomeIsMet, HaltsDecideOutcomes, IsOutcomeMet, IsPatientStep}
use Rattle.run_states.proofs.HaltsSeen.{halted-append, no_halt_same}
use Rattle.run_states.proofs.Alike.{Alike, alike}
use Rattle.run_states.proofs.Naming.{same_back}
use Rattle.run_states.proofs.RunPicks.{settled_of}
use Rattle.run_states.proofs.Going.{allowed_goes}
use Rattle.run_states.proofs.Moving.{asks_same, halting_same}
use Rattle.run_states.proofs.LastReplies.{first_halt, last_is, stopped_by}
use Rattle.run_states.proofs.Telling.{TellsAlike, both_along, probes_alike, steps_alike}
use Rattle.run_states.proofs.Closing.{met_from}

-- 1. the ranks that are told are ranks of the run

stopped_below : (next : Next) (n : ℕ) (run : List Event) (rank : ℕ) → Kept next n run → was_stopped (view_of run rank) ≡ true → rank < n
stopped_below next n run rank kept h =
    elim (cases_lt rank n) [
      | inl below ↦ below
      | inr above ↦
          let no : false ≡ true = sym (ap was_stopped (kept.below.empty rank above)) ∙ h in
          absurd (cc)
    ]

one_below : (n rank : ℕ) → rank < n → are_below n (rank ∷ []) ≡ true
one_below n rank below = and_from (nat_lt rank n) true (lt-ltb rank n below) refl

named_below : (next : Next) (n : ℕ) (run : List Event) (halt : Halt) (rank : ℕ) → Kept next n run → halted run ≡ Some halt → names rank halt ≡ true
    → are_below n (rank ∷ []) ≡ true
named_below next n run halt rank kept h named = one_below n rank (stopped_below next n run rank kept (kept.halts.each halt rank h named))

told_below : (next : Next) (n : ℕ) (run : List Event) (halt : Halt) → 0 < n → Kept next n run → halted run ≡ Some halt
    → are_below n (reported_ranks n (Halted halt)) ≡ true
told_below next n run Stuck some kept h = (AreMembers-world n 0 some).below
told_below next n run (Aborted rank code) some kept h = named_below next n run (Aborted rank code) rank kept h (eq-eqb rank rank refl)
told_below next n run (Trapped rank fault) some kept h = named_below next n run (Trapped rank fault) rank kept h (eq-eqb rank rank refl)
told_below next n run (Truncated rank start) some kept h = named_below next n run (Truncated rank start) rank kept h (eq-eqb rank rank refl)
told_below next n run (BadRequest rank start) some kept h = named_below next n run (BadRequest rank start) rank kept h (eq-eqb rank rank refl)
told_below next n run (Mismatched rank) some kept h = refl
told_below next n run Limit some kept h = refl

-- 2. outcomes

abbrev printed_by : Output → ℕ → (ℕ → List Reply) → List ℕ → List (ℕ × List ℕ)
printed_by output n replies ranks = map (λ rank. (rank, output n rank (replies rank))) ranks

printed_same : (output : Output) (n : ℕ) (first second : ℕ → List Reply) (ranks : List ℕ) → ((rank : ℕ) → rank < n → first rank ≡ second rank)
    → are_below n ranks ≡ true → printed_by output n first ranks ≡ printed_by output n second ranks
printed_same output n first second [] same below = refl
printed_same output n first second (rank ∷ ranks) same below =
    let parts = and_parts (nat_lt rank n) (are_below n ranks) below in
    let one : List Reply → ℕ × List ℕ = λ replies. (rank, output n rank replies) in
    ap (λ replies. one replies ∷ printed_by output n first ranks) (same rank (ltb-true rank n parts.0))
    ∙ ap (λ l. one (second rank) ∷ l) (printed_same output n first second ranks same parts.1)

abbrev outcome_by : Output → ℕ → Ending → (ℕ → List Reply) → RunOutcome
outcome_by output n ending replies = record { ending = reported_ending ending; printed = printed_by output n replies (reported_ranks n ending) }

abbrev outcome_with : Ending → List (ℕ × List ℕ) → RunOutcome
outcome_with ending printed = record { ending = reported_ending ending; printed = printed }

-- where one came
pub halt_outcome : (next : Next) (output : Output) (n : ℕ) → Lawful next → (before after : List Event) (event : Event) (halt : Halt)
    → IsPromptRun next n (before ++ event ∷ after) → ((rank : ℕ) → rank < n → call_after next n (before ++ event ∷ after) rank ≡ None)
    → halted before ≡ None → halt_of_reply event.reply ≡ Some halt → outcome_of_run output n (before ++ event ∷ after) ≡ halted_outcome next output n before halt
halt_outcome next output n lawful before after event halt is ended none here =
    let run : List Event = before ++ event ∷ after in
    let front : IsPromptRun next n before = IsPromptRun-front next n before (event ∷ after) is in
    let steps = Along-back (IsPromptEvent next n) [] before (event ∷ after) is.along in
    let all : halted run ≡ Some halt = halted-append before (event ∷ after)
    ∙ (ap (λ o. or_else o (halted (event ∷ after))) none ∙ ap (λ o. or_else o (halted after)) here) in
    let last : (rank : ℕ) → rank < n → replies_in (view_of run rank) ≡ last_replies next n before halt rank = last_is next n before after event halt lawful front none steps here ended in
    let below = told_below next n run halt is.some (kept_all next n run (kept_prompt next n run lawful is)) all in
    ap (λ o. outcome_by output n (ending_by o) (λ rank. replies_in (view_of run rank))) all
    ∙ ap (outcome_with (Halted halt)) (printed_same output n (λ rank. replies_in (view_of run rank)) (last_replies next n before halt) (reported_ranks n (Halted halt)) last below)

-- what a halt decides goes by the future
halted_same : (next : Next) (output : Output) (n : ℕ) (one other : List Event) (halt : Halt) → SameFuture n one other
    → halted_outcome next output n one halt ≡ halted_outcome next output n other halt
halted_same next output n one other halt same =
    let replies : last_replies next n one halt ≡ last_replies next n other halt =
    fun_ext (λ rank. ap (λ (v : View). replies_and (replies_in v) halt (call_after next n one rank)) (same.views rank)
    ∙ ap (replies_and (replies_in (view_of other rank)) halt) (asks_same next n one other rank same)) in
    ap (λ (r : ℕ → List Reply). outcome_by output n (Halted halt) r) replies

-- runs that leave the same come to the same
pub outcome_same : (output : Output) (n : ℕ) (one other : List Event) → halted one ≡ halted other → ((rank : ℕ) → view_of one rank ≡ view_of other rank)
    → outcome_of_run output n one ≡ outcome_of_run output n other
outcome_same output n one other halts same =
    let views : view_of one ≡ view_of other = fun_ext same in
    ap (λ o. outcome_by output n (ending_by o) (λ rank. replies_in (view_of one rank))) halts
    ∙ ap (λ (v : ℕ → View). outcome_by output n (ending_of other) (λ rank. replies_in (v rank))) views

-- 3. what whole runs come to

-- each prefix of a run, from some events on and up to its first halt, is met
abbrev MeetsBeginnings : ℕ → List (List Event) → List Event → List Event → Type 0
MeetsBeginnings n visited root more =
    (mid after : List Event) → more ≡ mid ++ after → halted (root ++ mid) ≡ None → IsVisited n visited (root ++ mid)

halting_of : (next : Next) (n : ℕ) (before : List Event) (event : Event) (halt : Halt) → KeptPrompt next n before → IsPromptEvent next n before event → IsNumberedInOrder n before event
    → halt_of_reply event.reply ≡ Some halt → IsHalting next (moment_at n before event.rank) event.call (pick_of n before event) halt
halting_of next n before event halt kept step ordered here =
    let picked : IsPickedEvent n before event (pick_of n before event) = event_picked next n before event kept.matched kept.below step ordered in
    record {
      below = step.rank;
      asked = step.call;
      offered = picked.offered;
      settled = settled_of n before event picked.event_is;
      halts = ap (λ (e : Event). e.reply) (sym picked.event_is) ∙ stopped_by event.reply halt here;
      goes = allowed_goes next n before event.rank event.call event.reply step.reply;
    }

halted_met : (next : Next) (output : Output) (n : ℕ) (visited : List (List Event)) → Lawful next → (before after : List Event) (event : Event) (halt : Halt)
    → IsPromptRun next n (before ++ event ∷ after) → AreNumberedInOrder n (before ++ event ∷ after)
    → ((rank : ℕ) → rank < n → call_after next n (before ++ event ∷ after) rank ≡ None)
    → halted before ≡ None → halt_of_reply event.reply ≡ Some halt → IsVisited n visited before
    → IsOutcomeMet next output n visited (outcome_of_run output n (before ++ event ∷ after))
halted_met next output n visited lawful before after event halt is ordered ended none here met =
    let one : List Event = met.0 in
    let same : SameFuture n one before = met.2 in
    let back : SameFuture n before one = same_back n one before same in
    let a : Alike n before one = alike n before one back (none ∙ sym (no_halt_same before one back.views none)) in
    let front : IsPromptRun next n before = IsPromptRun-front next n before (event ∷ after) is in
    let steps = Along-back (IsPromptEvent next n) [] before (event ∷ after) is.along in
    let numbers = Along-back (IsNumberedInOrder n) [] before (event ∷ after) ordered in
    let halting : IsHalting next (moment_at n before event.rank) event.call (pick_of n before event) halt =
    halting_of next n before event halt (kept_prompt next n before lawful front) steps.0 numbers.0 here in (
      one,
      met.1,
      inr (record {
        rank = event.rank;
        call = event.call;
        pick = pick_of n before event;
        halt = halt;
        halting = halting_same next n before one event.rank event.call (pick_of n before event) halt back a halting;
        outcome_is = halt_outcome next output n lawful before after event halt is ended none here ∙ halted_same next output n before one halt back;
      }),
    )

whole_met : (next : Next) (output : Output) (n : ℕ) (root more : List Event) (visited : List (List Event)) → Lawful next → IsWholeRun next n (root ++ more) → halted root ≡ None
    → MeetsBeginnings n visited root more → IsOutcomeMet next output n visited (outcome_of_run output n (root ++ more))
whole_met next output n root more visited lawful whole none meets =
    elim (option_cases (halted more)) [
      | inl some ↦
          let f = first_halt more some.0 some.1 in
          let before : List Event = root ++ f.before in
          let split : root ++ more ≡ before ++ f.event ∷ f.after = ap (λ (l : List Event). root ++ l) f.whole ∙ sym (append_assoc root f.before (f.event ∷ f.after)) in
          let free : halted before ≡ None = halted-append root f.before ∙ (ap (λ o. or_else o (halted f.before)) none ∙ f.none) in
          let R : List Event → Type 0 = λ l. IsPromptRun next n l in
          let N : List Event → Type 0 = λ l. AreNumberedInOrder n l in
          let E : List Event → Type 0 = λ l. (rank : ℕ) → rank < n → call_after next n l rank ≡ None in
          let O : List Event → Type 0 = λ l. IsOutcomeMet next output n visited (outcome_of_run output n l) in
          subst O (sym split)
          (halted_met next output n visited lawful before f.after f.event some.0 (subst R split whole.run) (subst N split whole.numbered) (subst E split whole.ended)
          free f.here (meets f.before (f.event ∷ f.after) f.whole free))
      | inr free ↦
          let run : List Event = root ++ more in
          let all : halted run ≡ None = halted-append root more ∙ (ap (λ o. or_else o (halted more)) none ∙ free) in
          let met = meets more [] (sym (append-nil more)) all in
          let same : SameFuture n met.0 run = met.2 in
          let back : SameFuture n run met.0 = same_back n met.0 run same in (
            met.0,
            met.1,
            inl (record {
              ended = λ rank below. asks_same next n met.0 run rank same ∙ whole.ended rank below;
              outcome_is = outcome_same output n run met.0 (all ∙ sym (no_halt_same run met.0 back.views all)) back.views;
            }),
          )
    ]

-- where all that is wanted of a run's steps holds from some events on
wanted_met : (next : Next) (output : Output) (n : ℕ) (IsWanted : List Event → Event → Type 0) → TellsAlike n IsWanted → Lawful next → (root more : List Event) (visited : List (List Event))
    → AreClosed next n root IsWanted visited → IsWholeRun next n (root ++ more) → Along IsWanted root more → halted root ≡ None
    → IsOutcomeMet next output n visited (outcome_of_run output n (root ++ more))
wanted_met next output n IsWanted tells lawful root more visited closed whole wanted none =
    whole_met next output n root more visited lawful whole none (λ mid after e free. (
    let R : List Event → Type 0 = λ l. IsPromptRun next n l in
    let N : List Event → Type 0 = λ l. Along (IsNumberedInOrder n) [] l in
    let K : List Event → Type 0 = λ l. Along IsWanted root l in
    let split : root ++ more ≡ (root ++ mid) ++ after = ap (λ (l : List Event). root ++ l) e ∙ sym (append_assoc root mid after) in
    met_from next n IsWanted tells root mid visited closed
    (IsPromptRun-front next n (root ++ mid) after (subst R split whole.run))
    (Along-front (IsNumberedInOrder n) [] (root ++ mid) after (subst N split whole.numbered))
    (Along-front IsWanted root mid after (subst K e wanted))
    free))

pub every_outcome_is_met : (next : Next) (output : Output) (n : ℕ) → Lawful next → EveryOutcomeIsMet next output n
every_outcome_is_met next output n lawful root more visited closed whole none =
    wanted_met next output n IsProbeKept (probes_alike n) lawful root more visited closed whole (Along-back IsProbeKept [] root more whole.probes) none

pub every_patient_outcome_is_met : (next : Next) (output : Output) (n : ℕ) → Lawful next → EveryPatientOutcomeIsMet next output n
every_patient_outcome_is_met next output n lawful most root more visited closed whole patient none =
    wanted_met next output n (IsPatientStep most) (steps_alike n most) lawful root more visited closed whole
    (both_along most root more (Along-back IsProbeKept [] root more whole.probes) patient) none

pub halts_decide_outcomes : (next : Next) (output : Output) (n : ℕ) → Lawful next → HaltsDecideOutcomes next output n
halts_decide_outcomes next output n lawful before after event halt is ended none stopped =
    halt_outcome next output n lawful before after event halt is ended none (ap halt_of_reply stopped)
