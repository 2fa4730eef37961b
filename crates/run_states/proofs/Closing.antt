-- Histories that their moves do not lead out of have met each run from the first of them on, up to its first halt.
use Rattle.std.proofs.Common.{◌≡◌, ◌∙◌, ◌++◌, ◌∷◌, ℕ, List, [], Option, Some, None, append-nil, append_assoc, refl, ap, sym, subst}
use Rattle.mpi_call.specs.declared.call.Call.{Call}
use Rattle.mpi_call.specs.declared.call.Halt.{Halt}
use Rattle.run_model.specs.declared.event.Event.{Event}
use Rattle.run_model.specs.Due.{halt_of_reply, halted, or_else}
use Rattle.run_model.specs.Lists.{Along}
use Rattle.run_model.specs.Pairs.{IsAllMatched}
use Rattle.run_model.specs.Run.{IsPromptEvent, IsPromptRun}
use Rattle.run_model.specs.Views.{Next}
use Rattle.run_model.proofs.Along.{Along-back}
use Rattle.run_model.proofs.Origins.{AllBelow, AllBelow-more}
use Rattle.run_model.proofs.Prompt.{IsPromptRun-front}
use Rattle.picked_runs.specs.declared.turn.Pick.{Pick}
use Rattle.picked_runs.specs.Made.{pick_of}
use Rattle.picked_runs.specs.Numbering.{AreNumberedInOrder, IsNumberedInOrder}
use Rattle.picked_runs.specs.Picks.{picked_event}
use Rattle.picked_runs.specs.Picked.{IsPickedEvent}
use Rattle.picked_runs.proofs.Making.{event_picked}
use Rattle.run_states.specs.Futures.{SameEvent, SameFuture}
use Rattle.run_states.specs.Moves.{AreClosed, IsVisited, IsMove}
use Rattle.run_states.specs.Outcomes.{IsProbeKept}
use Rattle.run_states.specs.StateLaws.{EveryPatientRunIsMet, EveryRunIsMet, IsPatientStep}
use Rattle.run_states.proofs.HaltsSeen.{halted-append, no_halt_same}
use Rattle.run_states.proofs.Alike.{Alike, alike}
use Rattle.run_states.proofs.Naming.{same_back, same_on}
use Rattle.run_states.proofs.Events.{events_same}
use Rattle.run_states.proofs.Moving.{move_same}
use Rattle.run_states.proofs.Growing.{futures_grow}
use Rattle.run_states.proofs.RunPicks.{settled_of}
use Rattle.run_states.proofs.RunFacts.{all_below, run_matched}
use Rattle.run_states.proofs.Telling.{TellsAlike, probes_alike, steps_alike}

-- 1. halts

free_front : (a b : Option Halt) → or_else a b ≡ None → a ≡ None
free_front None b h = refl
free_front (Some halt) b h = absurd (cc)

free_back : (a b : Option Halt) → or_else a b ≡ None → b ≡ None
free_back None b h = h
free_back (Some halt) b h = absurd (cc)

-- 2. along the run

step_met : (next : Next) (n : ℕ) (IsWanted : List Event → Event → Type 0) (root : List Event) (visited : List (List Event)) → TellsAlike n IsWanted → AreClosed next n root IsWanted visited
    → (before : List Event) (event : Event) → IsAllMatched before → AllBelow n before → IsPromptEvent next n before event → IsNumberedInOrder n before event
    → IsWanted before event → halted before ≡ None → halt_of_reply event.reply ≡ None → IsVisited n visited before → IsVisited n visited (before ++ event ∷ [])
step_met next n IsWanted root visited tells closed before event matched all step ordered wanted none free met =
    let one : List Event = met.0 in
    let same : SameFuture n one before = met.2 in
    let back : SameFuture n before one = same_back n one before same in
    let a : Alike n before one = alike n before one back (none ∙ sym (no_halt_same before one back.views none)) in
    let rank : ℕ = event.rank in
    let call : Call = event.call in
    let pick : Pick = pick_of n before event in
    let picked : IsPickedEvent n before event pick = event_picked next n before event matched all step ordered in
    let here : IsMove next n before rank call pick = record {
      below = step.rank;
      asked = step.call;
      offered = picked.offered;
      settled = settled_of n before event picked.event_is;
      free = ap (λ (e : Event). halt_of_reply e.reply) (sym picked.event_is) ∙ free;
    } in
    let there : IsMove next n one rank call pick = move_same next n before one rank call pick back a here in
    let first : Event = picked_event n before rank call pick in
    let second : Event = picked_event n one rank call pick in
    let event_same : SameEvent before one first second = events_same n before one back a rank call pick picked.offered here.settled in
    let F : Event → Type 0 = λ e. IsWanted before e in
    let wanted_there : IsWanted one second = tells before one first second back event_same (subst F picked.event_is wanted) in
    let next_met = closed.more one rank call pick met.1 there wanted_there in
    let grown : SameFuture n (one ++ second ∷ []) (before ++ first ∷ []) =
    same_back n (before ++ first ∷ []) (one ++ second ∷ []) (futures_grow n before one first second back event_same) in
    let G : Event → Type 0 = λ e. IsVisited n visited (before ++ e ∷ []) in
    subst G (sym picked.event_is) (next_met.0, next_met.1, same_on n next_met.0 (one ++ second ∷ []) (before ++ first ∷ []) next_met.2 grown)

all_met : (next : Next) (n : ℕ) (IsWanted : List Event → Event → Type 0) (root : List Event) (visited : List (List Event)) → TellsAlike n IsWanted → AreClosed next n root IsWanted visited
    → (before events : List Event) → IsAllMatched before → AllBelow n before → Along (IsPromptEvent next n) before events → Along (IsNumberedInOrder n) before events
    → Along IsWanted before events → halted (before ++ events) ≡ None → IsVisited n visited before → IsVisited n visited (before ++ events)
all_met next n IsWanted root visited tells closed before [] matched all run ordered wanted none met = rw append-nil met
all_met next n IsWanted root visited tells closed before (event ∷ events) matched all run ordered wanted none met =
    let both : or_else (halted before) (halted (event ∷ events)) ≡ None = sym (halted-append before (event ∷ events)) ∙ none in
    let later : or_else (halt_of_reply event.reply) (halted events) ≡ None = free_back (halted before) (halted (event ∷ events)) both in
    let more : IsVisited n visited (before ++ event ∷ []) =
    step_met next n IsWanted root visited tells closed before event matched all run.0 ordered.0 wanted.0 (free_front (halted before) (halted (event ∷ events)) both)
    (free_front (halt_of_reply event.reply) (halted events) later) met in
    let free : halted ((before ++ event ∷ []) ++ events) ≡ None = ap halted (append_assoc before (event ∷ []) events) ∙ none in
    let rest = all_met next n IsWanted root visited tells closed (before ++ event ∷ []) events run.0.matched (AllBelow-more n before event all run.0.rank) run.1 ordered.1 wanted.1 free more in
    let H : List Event → Type 0 = λ l. IsVisited n visited l in
    subst H (append_assoc before (event ∷ []) events) rest

-- 3. from the first history on

pub met_from : (next : Next) (n : ℕ) (IsWanted : List Event → Event → Type 0) → TellsAlike n IsWanted → (root more : List Event) (visited : List (List Event))
    → AreClosed next n root IsWanted visited → IsPromptRun next n (root ++ more) → AreNumberedInOrder n (root ++ more) → Along IsWanted root more
    → halted (root ++ more) ≡ None → IsVisited n visited (root ++ more)
met_from next n IsWanted tells root more visited closed is ordered wanted none =
    let front : IsPromptRun next n root = IsPromptRun-front next n root more is in
    all_met next n IsWanted root visited tells closed root more (run_matched next n root front) (all_below next n root front) (Along-back (IsPromptEvent next n) [] root more is.along)
    (Along-back (IsNumberedInOrder n) [] root more ordered) wanted none closed.first

pub every_run_is_met : (next : Next) (n : ℕ) → EveryRunIsMet next n
every_run_is_met next n root more visited closed is ordered kept none =
    met_from next n IsProbeKept (probes_alike n) root more visited closed is ordered kept none

pub every_patient_run_is_met : (next : Next) (n : ℕ) → EveryPatientRunIsMet next n
every_patient_run_is_met next n most root more visited closed is ordered wanted none =
    met_from next n (IsPatientStep most) (steps_alike n most) root more visited closed is ordered wanted none
