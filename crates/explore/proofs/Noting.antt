-- What is noted: outcomes by recordings, and states with their codes.
use Rattle.std.proofs.Common.{◌≡◌, ◌<◌, ◌∙◌, ◌++◌, ◌∷◌, ◌⊎◌, ℕ, ℤ, List, [], Some, None, All, append-nil, append_assoc, false, inl, inr, refl, ap, sym, subst}
use Rattle.mpi_call.specs.declared.call.Halt.{Halt}
use Rattle.mpi_call.specs.declared.call.Halt.TheVariants.{Stuck}
use Rattle.mpi_call.specs.declared.reply.Reply.TheVariants.{Stopped}
use Rattle.mpi_call.specs.Lists.{IsIn}
use Rattle.run_model.specs.declared.event.Event.{Event}
use Rattle.run_model.specs.Due.{halt_of_reply, halted, or_else}
use Rattle.run_model.specs.Lists.{Along}
use Rattle.run_model.specs.Run.{IsPromptEvent, IsPromptRun}
use Rattle.run_model.specs.Views.{Next}
use Rattle.run_model.proofs.Along.{Along-back}
use Rattle.run_model.proofs.ChosenLaws.{cannot_go}
use Rattle.run_model.proofs.Prompt.{IsPromptRun-event}
use Rattle.run_model.proofs.Views.{option_cases}
use Rattle.picked_runs.specs.declared.turn.Pick.{Pick}
use Rattle.picked_runs.specs.declared.turn.Turn.{Turn}
use Rattle.picked_runs.specs.PickLaws.{PicksNumberInOrder}
use Rattle.picked_runs.specs.Picked.{IsPicked}
use Rattle.picked_runs.specs.Turns.{IsPickOf, IsRunByTurns}
use Rattle.picked_runs.specs.Numbering.{AreNumberedInOrder}
use Rattle.srr_entry.specs.Outputs.{Output}
use Rattle.run_states.specs.Codes.{CodesFixKeys}
use Rattle.run_states.specs.Futures.{SameFuture}
use Rattle.run_states.specs.Keys.{KeysFixFutures, state_key}
use Rattle.run_states.specs.Moves.{IsVisited}
use Rattle.run_states.specs.Outcomes.{IsProbeKept, outcome_of_run}
use Rattle.explore.specs.declared.found.FoundOutcome.{FoundOutcome}
use Rattle.explore.specs.declared.met.Met.{Met}
use Rattle.explore.specs.Courses.{ComesTo}
use Rattle.explore.specs.Explored.{OutcomesDiffer, AreTurnsOf, IsFoundOutcome, IsListed, events_of_turns}
use Rattle.explore.specs.Meeting.{IsFoundAdded, IsStateAdded}
use Rattle.explore.specs.Searching.{HasBegun, IsAtEnd, IsOutcomeListed, IsState, IsUnder, IsUnderWay, WentOn, code_at, histories}
use Rattle.explore.proofs.Recorded.{halted-append, kept_stopped, probes_behind, taken_begins}
use Rattle.explore.proofs.Trying.{grows_not, in_longer}

-- 1. behind an end probes are kept

pub along_join : {E : Type 0} (S : List E → E → Type 0) (before xs ys : List E) → Along S before xs → Along S (before ++ xs) ys → Along S before (xs ++ ys)
along_join {E} S before [] ys one two = (let F : List E → Type 0 = λ l. Along S l ys in subst F (append-nil before) two)
along_join {E} S before (x ∷ xs) ys one two =
    let F : List E → Type 0 = λ l. Along S l ys in
    (one.0, along_join S (before ++ x ∷ []) xs ys one.1 (subst F (sym (append_assoc before (x ∷ []) xs)) two))

halted_behind : (before : List Event) (event : Event) (halt : Halt) → event.reply ≡ Stopped halt → (other : Halt) × (halted (before ++ event ∷ []) ≡ Some other)
halted_behind before event halt stopped =
    let here : halted (event ∷ []) ≡ Some halt = ap (λ r. or_else (halt_of_reply r) None) stopped in
    let whole : halted (before ++ event ∷ []) ≡ or_else (halted before) (Some halt) = halted-append before (event ∷ []) ∙ ap (or_else (halted before)) here in
    elim (option_cases (halted before)) [
      | inl some ↦ (some.0, whole ∙ ap (λ o. or_else o (Some halt)) some.1)
      | inr none ↦ (halt, whole ∙ ap (λ o. or_else o (Some halt)) none)
    ]

behind_end : (next : Next) (n : ℕ) (before rest : List Event) → IsPromptRun next n (before ++ rest) → IsAtEnd next n before → Along IsProbeKept before rest
behind_end next n before [] run end = tt
behind_end next n before (event ∷ rest) run end =
    elim end [
      | inl stuck ↦
          let step : IsPromptEvent next n before event = IsPromptRun-event next n before rest event run in
          let reply : event.reply ≡ Stopped Stuck = cannot_go next n before event.rank event.call event.reply (stuck event.rank event.call step.rank step.call) step.reply in
          let now = halted_behind before event Stuck reply in
          (kept_stopped before event Stuck reply, probes_behind next n (before ++ event ∷ []) rest now.0 now.1 (Along-back (IsPromptEvent next n) [] before (event ∷ rest) run.along).1)
      | inr there ↦ probes_behind next n before (event ∷ rest) there.0 there.1 (Along-back (IsPromptEvent next n) [] before (event ∷ rest) run.along)
    ]

-- 2. what the recording by these turns comes to was found

pub found_by : (next : Next) (output : Output) (n : ℕ) (root : List Event) (turns : List Turn) (found : FoundOutcome) → PicksNumberInOrder next n
    → IsUnder next n root turns → IsAtEnd next n (events_of_turns next n turns) → found.turns ≡ turns → ComesTo next output n turns found.outcome
    → IsFoundOutcome next output n root found
found_by next output n root turns found numbers under end same comes =
    let begins = taken_begins next n turns comes.run comes.taken in
    let after : List Event = begins.0 in
    let whole : comes.run ≡ root ++ (under.more ++ after) = sym begins.1 ∙ (ap (λ l. l ++ after) under.made ∙ append_assoc root under.more after) in
    let R : List Event → Type 0 = λ l. IsPromptRun next n l in
    let K : List Event → Type 0 = λ l. Along IsProbeKept l after in
    let T : List Event → Type 0 = λ l. IsRunByTurns next n turns l in
    let U : List Turn → Type 0 = λ l. IsRunByTurns next n l (root ++ (under.more ++ after)) in
    let N : List Event → Type 0 = λ l. AreNumberedInOrder n l in
    let A : List Turn → Type 0 = λ l. AreTurnsOf n l in
    let C : List Event → Type 0 = λ l. found.outcome ≡ outcome_of_run output n l in
    let later : Along IsProbeKept (events_of_turns next n turns) after = behind_end next n (events_of_turns next n turns) after (subst R (sym begins.1) comes.picked.run) end in
    record {
      more = under.more ++ after;
      turns = subst A (sym same) (record { ranks = under.ranks; picks = under.picks });
      taken = subst U (sym same) (subst T whole comes.taken);
      run = subst R whole comes.picked.run;
      numbered = subst N whole (numbers comes.picks comes.run comes.picked);
      probes = along_join IsProbeKept root under.more after under.probes (subst K under.made later);
      outcome_is = subst C whole comes.outcome_is;
    }

-- 3. it is listed, once

in_snoc : {A : Type 0} (x y : A) (xs : List A) → IsIn x (xs ++ y ∷ []) → IsIn x xs ⊎ (y ≡ x)
in_snoc x y [] there = elim there [ inl same ↦ inr same | inr none ↦ absurd none ]
in_snoc x y (z ∷ xs) there =
    elim there [
      | inl same ↦ inl (inl same)
      | inr later ↦ elim (in_snoc x y xs later) [ inl front ↦ inl (inr front) | inr last ↦ inr last ]
    ]

pub in_last : {A : Type 0} (x : A) (xs : List A) → IsIn x (xs ++ x ∷ [])
in_last x [] = inl refl
in_last x (y ∷ xs) = inr (in_last x xs)

apart_more : (listed : List FoundOutcome) (found : FoundOutcome) → OutcomesDiffer listed → (IsListed listed found.outcome → ⊥) → OutcomesDiffer (listed ++ found ∷ [])
apart_more [] found apart new = ((λ there. there.1), tt)
apart_more (one ∷ listed) found apart new = (
  (λ there. elim (in_snoc there.0 found listed there.1) [
    | inl front ↦ apart.0 (there.0, front, there.2)
    | inr last ↦ (
        let F : FoundOutcome → Type 0 = λ f. f.outcome ≡ one.outcome in
        new (one, inl refl, sym (subst F (sym last) there.2)))
  ]),
  apart_more listed found apart.1 (λ there. new (there.0, inr there.1, there.2)),
)

pub found_went : (next : Next) (output : Output) (n : ℕ) (root : List Event) (met met' : Met) (found : FoundOutcome) → IsUnderWay next output n root met
    → IsFoundOutcome next output n root found → IsFoundAdded met met' found → WentOn next output n root met met'
found_went next output n root met met' found way is added =
    let W : Met → Type 0 = λ m. WentOn next output n root met m in
    elim added [
      | inl new ↦
          let listed : List FoundOutcome = met.found ++ found ∷ [] in
          let there : WentOn next output n root met (record met { found = listed }) = record {
            under_way = record {
              are_states = way.are_states;
              coded = way.coded;
              found = λ other there. elim (in_snoc other found met.found there) [
                | inl front ↦ way.found other front
                | inr last ↦ (let F : FoundOutcome → Type 0 = λ f. IsFoundOutcome next output n root f in subst F last is)
              ];
              apart = apart_more met.found found way.apart new.0;
            };
            grows = record { states_stay = ([], append-nil met.states); listed_stay = (found ∷ [], refl); polled_stays = λ h. h };
          } in
          subst W (sym new.1) there
      | inr old ↦
          let there : WentOn next output n root met met = record { under_way = way; grows = grows_not met.states met.found met.polled } in
          subst W (sym old.1) there
    ]

found_listed : (met met' : Met) (found : FoundOutcome) → IsFoundAdded met met' found → IsListed met'.found found.outcome
found_listed met met' found added =
    let L : Met → Type 0 = λ m. IsListed m.found found.outcome in
    elim added [
      | inl new ↦ subst L (sym new.1) (found, in_last found met.found, refl)
      | inr old ↦ subst L (sym old.1) old.0
    ]

pub found_noted : (next : Next) (output : Output) (n : ℕ) (turns : List Turn) (met met' : Met) (found : FoundOutcome) → ComesTo next output n turns found.outcome
    → IsFoundAdded met met' found → IsOutcomeListed next output n turns met'.found
found_noted next output n turns met met' found comes added = record { outcome = found.outcome; comes = comes; listed_is = found_listed met met' found added }

-- 4. states

pub state_went : (next : Next) (output : Output) (n : ℕ) (root : List Event) (met met' : Met) (code : List ℤ) (turns : List Turn) → IsUnderWay next output n root met
    → IsState next n root turns → code_at next n turns ≡ code → IsStateAdded met met' code turns → WentOn next output n root met met'
state_went next output n root met met' code turns way is same added =
    let W : Met → Type 0 = λ m. WentOn next output n root met m in
    elim added [
      | inl new ↦
          let states : List (List Turn) = met.states ++ turns ∷ [] in
          let there : WentOn next output n root met (record met { states = states; codes = met.codes ++ code ∷ [] }) = record {
            under_way = record {
              are_states = λ other there. elim (in_snoc other turns met.states there) [
                | inl front ↦ way.are_states other front
                | inr last ↦ (let F : List Turn → Type 0 = λ l. IsState next n root l in subst F last is)
              ];
              coded = λ other there. elim (in_snoc other code met.codes there) [
                | inl front ↦ (let c = way.coded other front in (c.0, in_longer c.0 met.states states (turns ∷ [], refl) c.1, c.2))
                | inr last ↦ (turns, in_last turns met.states, same ∙ last)
              ];
              found = way.found;
              apart = way.apart;
            };
            grows = record { states_stay = (turns ∷ [], refl); listed_stay = ([], append-nil met.found); polled_stays = λ h. h };
          } in
          subst W (sym new) there
      | inr old ↦
          let there : WentOn next output n root met met = record { under_way = way; grows = grows_not met.states met.found met.polled } in
          subst W (sym old.1) there
    ]

same_future : (n : ℕ) (events : List Event) → SameFuture n events events
same_future n events = record { views = λ rank. refl; pairs = λ name. refl; made = refl }

history_there : (next : Next) (n : ℕ) (turns : List Turn) (states : List (List Turn)) → IsIn turns states → IsIn (events_of_turns next n turns) (histories next n states)
history_there next n turns [] there = absurd there
history_there next n turns (other ∷ states) there =
    elim there [
      | inl same ↦ inl (ap (events_of_turns next n) same)
      | inr later ↦ inr (history_there next n turns states later)
    ]

pub state_met : (next : Next) (output : Output) (n : ℕ) (root : List Event) (met met' : Met) (code : List ℤ) (turns : List Turn) → CodesFixKeys → KeysFixFutures next n
    → IsUnderWay next output n root met → IsPromptRun next n (events_of_turns next n turns) → code_at next n turns ≡ code → IsStateAdded met met' code turns
    → IsVisited n (histories next n met'.states) (events_of_turns next n turns)
state_met next output n root met met' code turns codes keys way run same added =
    let L : Met → Type 0 = λ m. IsVisited n (histories next n m.states) (events_of_turns next n turns) in
    elim added [
      | inl new ↦ subst L (sym new) (events_of_turns next n turns, history_there next n turns (met.states ++ turns ∷ []) (in_last turns met.states), same_future n (events_of_turns next n turns))
      | inr old ↦
          let c = way.coded code old.0 in
          let key : state_key n (events_of_turns next n c.0) ≡ state_key n (events_of_turns next n turns) = codes _ _ (c.2 ∙ sym same) in
          subst L (sym old.1) (events_of_turns next n c.0, history_there next n c.0 met.states c.1, keys (events_of_turns next n c.0) (events_of_turns next n turns) (way.are_states c.0 c.1).under.run run key)
    ]

-- the first state of all needs no law
pub first_met : (next : Next) (n : ℕ) (met met' : Met) (code : List ℤ) (turns : List Turn) → met.codes ≡ [] → IsStateAdded met met' code turns
    → IsVisited n (histories next n met'.states) (events_of_turns next n turns)
first_met next n met met' code turns none added =
    let L : Met → Type 0 = λ m. IsVisited n (histories next n m.states) (events_of_turns next n turns) in
    let I : List (List ℤ) → Type 0 = λ l. IsIn code l in
    elim added [
      | inl new ↦ subst L (sym new) (events_of_turns next n turns, history_there next n turns (met.states ++ turns ∷ []) (in_last turns met.states), same_future n (events_of_turns next n turns))
      | inr old ↦ absurd (subst I none old.0)
    ]

-- 5. where a search begins

pub went_not : (next : Next) (output : Output) (n : ℕ) (root : List Event) (met : Met) → IsUnderWay next output n root met → WentOn next output n root met met
went_not next output n root met way = record { under_way = way; grows = grows_not met.states met.found met.polled }

pub none_way : (next : Next) (output : Output) (n : ℕ) (root : List Event) (met : Met) → met ≡ record { states = []; codes = []; found = []; polled = false }
    → IsUnderWay next output n root met
none_way next output n root met none =
    let W : Met → Type 0 = λ m. IsUnderWay next output n root m in
    subst W (sym none) (record { are_states = λ turns there. absurd there; coded = λ code there. absurd there; found = λ found there. absurd there; apart = tt })

pub root_under : (next : Next) (n : ℕ) (turns : List Turn) → All (λ (t : Turn). t.rank < n) turns → All (λ (t : Turn). IsPickOf n t.pick) turns → IsPromptRun next n (events_of_turns next n turns)
    → AreNumberedInOrder n (events_of_turns next n turns) → IsUnder next n (events_of_turns next n turns) turns
root_under next n turns all picks run numbered =
    record { more = []; made = sym (append-nil (events_of_turns next n turns)); ranks = all; picks = picks; run = run; numbered = numbered; probes = tt }

pub begun_free : (next : Next) (output : Output) (n : ℕ) (under : List Turn) (met : Met) → halted (events_of_turns next n under) ≡ None
    → IsVisited n (histories next n met.states) (events_of_turns next n under) → HasBegun next output n under met
begun_free next output n under met free there =
    record { free = λ none. there; ended = λ halt some. (let no : None ≡ Some halt = sym free ∙ some in absurd (cc)) }

pub begun_ended : (next : Next) (output : Output) (n : ℕ) (under : List Turn) (met : Met) (halt : Halt) → halted (events_of_turns next n under) ≡ Some halt
    → IsOutcomeListed next output n under met.found → HasBegun next output n under met
begun_ended next output n under met halt some noted =
    record { free = λ none. (let no : Some halt ≡ None = sym some ∙ none in absurd (cc)); ended = λ other there. noted }

-- the first state
pub begun_state : (next : Next) (output : Output) (n : ℕ) (under turns : List Turn) (picks : List Pick) (met met' : Met) (code : List ℤ) → PicksNumberInOrder next n
    → All (λ (t : Turn). t.rank < n) under → All (λ (t : Turn). IsPickOf n t.pick) under → IsPicked next n picks (events_of_turns next n under) → halted (events_of_turns next n under) ≡ None → turns ≡ under
    → met ≡ record { states = []; codes = []; found = []; polled = false } → code_at next n under ≡ code → IsStateAdded met met' code turns
    → WentOn next output n (events_of_turns next n under) met met' × HasBegun next output n under met'
begun_state next output n under turns picks met met' code numbers all within picked free copied none same added =
    let root : List Event = events_of_turns next n under in
    let A : List Turn → Type 0 = λ l. IsStateAdded met met' code l in
    let here : IsStateAdded met met' code under = subst A copied added in
    let state : IsState next n root under = record { under = root_under next n under all within picked.run (numbers picks root picked); free = free } in (
      state_went next output n root met met' code under (none_way next output n root met none) state same here,
      begun_free next output n under met' free (first_met next n met met' code under (ap (λ (m : Met). m.codes) none) here),
    )
