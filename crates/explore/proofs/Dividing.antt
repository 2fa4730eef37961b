-- Where a search has looked at some of its states, what a whole run comes to is listed, or a whole run comes to it that goes on from one of the
-- others.
use Rattle.std.proofs.Common.{◌≡◌, ◌<◌, ◌∙◌, ◌++◌, ◌∷◌, ◌⊎◌, Bool, ℕ, suc, zero, List, [], None, append-nil, append_assoc, drop, false, take, true, inl, inr, refl, ap, sym, subst}
use Rattle.mpi_call.specs.Lists.{IsIn}
use Rattle.run_model.specs.declared.event.Event.{Event}
use Rattle.run_model.specs.Chosen.{order_of}
use Rattle.run_model.specs.Due.{halt_of_reply}
use Rattle.run_model.specs.Lists.{Along}
use Rattle.run_model.specs.Run.{IsPromptRun}
use Rattle.run_model.specs.Serial.{call_after}
use Rattle.run_model.specs.Views.{Next, View, replies_in}
use Rattle.run_model.proofs.Along.{Along-back}
use Rattle.run_model.proofs.Views.{option_cases}
use Rattle.picked_runs.specs.declared.turn.Turn.{Turn}
use Rattle.picked_runs.specs.Numbering.{AreNumberedInOrder}
use Rattle.srr_entry.specs.Outputs.{Output}
use Rattle.run_states.specs.Futures.{SameFuture}
use Rattle.run_states.specs.Moves.{IsVisited}
use Rattle.run_states.specs.Outcomes.{IsPatientEvent, IsProbeKept, IsWholeRun, RunOutcome, outcome_of_run}
use Rattle.run_states.specs.StateLaws.{EveryStepIsMade, FuturesAreSame, HaltsDecideOutcomes}
use Rattle.explore.specs.declared.found.FoundOutcome.{FoundOutcome}
use Rattle.explore.specs.Explored.{IsListed, events_of_turns}
use Rattle.explore.specs.Searching.{IsFollowed, IsLookedAt, IsState, histories, question_of, seen_of}
use Rattle.explore.proofs.NothingMissed.{history_in, listed_as}
use Rattle.explore.proofs.Noting.{along_join}
use Rattle.explore.proofs.Patience.{patient_alike}
use Rattle.explore.proofs.Tried.{stopped_by}

-- 1. runs that go on

-- what is wanted of a run that goes on: where a rank was held back, its next event is patient; the rest is wanted too, and is told alike
pub record IsKept (n polls : ℕ) (polled : Bool) (IsSteady : List Event → List Event → Type 0) : Type 0 where
  pub now : (before : List Event) (event : Event) (rest : List Event) → IsSteady before (event ∷ rest) → polled ≡ true → IsPatientEvent polls before event
  pub later : (before : List Event) (event : Event) (rest : List Event) → IsSteady before (event ∷ rest) → IsSteady (before ++ event ∷ []) rest
  pub alike : (one other more rest : List Event) → SameFuture n one other → SameFuture n (one ++ more) (other ++ rest) → IsSteady one more → IsSteady other rest

-- a run that has ended goes on from these events, and comes to this
pub record IsOnward (next : Next) (output : Output) (n : ℕ) (IsSteady : List Event → List Event → Type 0) (outcome : RunOutcome) (before rest : List Event) : Type 0 where
  pub run : IsPromptRun next n (before ++ rest)
  pub ended : (rank : ℕ) → rank < n → call_after next n (before ++ rest) rank ≡ None
  pub numbered : AreNumberedInOrder n (before ++ rest)
  pub probes : Along IsProbeKept before rest
  pub steady : IsSteady before rest
  pub outcome_is : outcome ≡ outcome_of_run output n (before ++ rest)

-- its like, by as many events
record HasOnward (next : Next) (output : Output) (n : ℕ) (IsSteady : List Event → List Event → Type 0) (outcome : RunOutcome) (other rest : List Event) : Type 0 where
  like : List Event
  order : order_of like ≡ order_of rest
  onward : IsOnward next output n IsSteady outcome other like

onward_from : (next : Next) (output : Output) (n polls : ℕ) (polled : Bool) (IsSteady : List Event → List Event → Type 0) (outcome : RunOutcome) (one other rest : List Event)
    → FuturesAreSame next output n → IsKept n polls polled IsSteady → IsPromptRun next n other → AreNumberedInOrder n other → SameFuture n other one
    → IsOnward next output n IsSteady outcome one rest → HasOnward next output n IsSteady outcome other rest
onward_from next output n polls polled IsSteady outcome one other rest law kept run numbered same on =
    let back : SameFuture n one other = record { views = λ rank. sym (same.views rank); pairs = λ name. sym (same.pairs name); made = sym same.made } in
    let like = law one other rest on.run on.numbered run numbered back in
    record {
      like = like.rest;
      order = like.order;
      onward = record {
        run = like.run;
        ended = λ rank below. (
            let V : View → Type 0 = λ v. next n rank (replies_in v) ≡ None in
            subst V (like.future.views rank) (on.ended rank below));
        numbered = like.numbered;
        probes = like.probes on.probes;
        steady = kept.alike one other rest like.rest back like.future on.steady;
        outcome_is = on.outcome_is ∙ like.outcome;
      };
    }

-- by one event
onward_more : (next : Next) (output : Output) (n polls : ℕ) (polled : Bool) (IsSteady : List Event → List Event → Type 0) (outcome : RunOutcome) (before : List Event) (event : Event) (rest : List Event)
    → IsKept n polls polled IsSteady → IsOnward next output n IsSteady outcome before (event ∷ rest) → IsOnward next output n IsSteady outcome (before ++ event ∷ []) rest
onward_more next output n polls polled IsSteady outcome before event rest kept on =
    let whole : before ++ event ∷ rest ≡ (before ++ event ∷ []) ++ rest = sym (append_assoc before (event ∷ []) rest) in
    let R : List Event → Type 0 = λ l. IsPromptRun next n l in
    let E : List Event → Type 0 = λ l. (rank : ℕ) → rank < n → call_after next n l rank ≡ None in
    let N : List Event → Type 0 = λ l. AreNumberedInOrder n l in
    record {
      run = subst R whole on.run;
      ended = subst E whole on.ended;
      numbered = subst N whole on.numbered;
      probes = on.probes.1;
      steady = kept.later before event rest on.steady;
      outcome_is = on.outcome_is ∙ ap (outcome_of_run output n) whole;
    }

-- 2. along a run

-- what is known of a search
pub record IsDivided (next : Next) (output : Output) (n polls : ℕ) (root : List Event) (states left : List (List Turn)) (listed : List FoundOutcome) (polled : Bool) : Type 0 where
  pub are_states : (turns : List Turn) → IsIn turns states → IsState next n root turns
  pub looked : (turns : List Turn) → IsIn turns states → IsLookedAt (question_of next output n polls) (seen_of states listed polled) (events_of_turns next n turns) ⊎ IsIn turns left

-- a run goes on from a state that is left
pub record GoesOnLeft (next : Next) (output : Output) (n : ℕ) (IsSteady : List Event → List Event → Type 0) (outcome : RunOutcome) (root : List Event) (left : List (List Turn)) : Type 0 where
  pub turns : List Turn
  pub there : IsIn turns left
  pub state : IsState next n root turns
  pub rest : List Event
  pub onward : IsOnward next output n IsSteady outcome (events_of_turns next n turns) rest

walk : (next : Next) (output : Output) (n polls : ℕ) (root : List Event) (states left : List (List Turn)) (listed : List FoundOutcome) (polled : Bool) (IsSteady : List Event → List Event → Type 0) (outcome : RunOutcome)
    → EveryStepIsMade next n → FuturesAreSame next output n → HaltsDecideOutcomes next output n → IsKept n polls polled IsSteady
    → IsDivided next output n polls root states left listed polled
    → (ranks : List ℕ) (turns : List Turn) (rest : List Event) → order_of rest ≡ ranks → IsIn turns states → IsOnward next output n IsSteady outcome (events_of_turns next n turns) rest
    → IsListed listed outcome ⊎ GoesOnLeft next output n IsSteady outcome root left
walk next output n polls root states left listed polled IsSteady outcome steps futures halts kept d ranks turns [] order there on =
    let before : List Event = events_of_turns next n turns in
    elim (d.looked turns there) [
      | inr later ↦ inr (record { turns = turns; there = later; state = d.are_states turns there; rest = []; onward = on })
      | inl looked ↦
          let E : List Event → Type 0 = λ l. (rank : ℕ) → rank < n → call_after next n l rank ≡ None in
          inl (listed_as listed _ outcome (sym (on.outcome_is ∙ ap (outcome_of_run output n) (append-nil before))) (looked.ends (subst E (append-nil before) on.ended)))
    ]
walk next output n polls root states left listed polled IsSteady outcome steps futures halts kept d [] turns (event ∷ rest) order there on = absurd (cc)
walk next output n polls root states left listed polled IsSteady outcome steps futures halts kept d (rank ∷ ranks) turns (event ∷ rest) order there on =
    let before : List Event = events_of_turns next n turns in
    let state = d.are_states turns there in
    elim (d.looked turns there) [
      | inr later ↦ inr (record { turns = turns; there = later; state = state; rest = event ∷ rest; onward = on })
      | inl looked ↦
          let made = steps before rest event on.run on.numbered in
          elim (option_cases (halt_of_reply event.reply)) [
            | inl some ↦
                let stopped = stopped_by event.reply some.0 some.1 in
                inl (listed_as listed _ outcome (sym (on.outcome_is ∙ halts before rest event some.0 on.run on.ended state.free stopped))
                (looked.halts event.rank event.call made.pick some.0 (made.halts some.0 stopped)))
            | inr none ↦
                let K : Event → Type 0 = λ e. IsProbeKept before e in
                let F : Event → Type 0 = λ e. IsFollowed next n polls (seen_of states listed polled) before e in
                let followed : IsFollowed next n polls (seen_of states listed polled) before event =
                subst F (sym made.made) (looked.moves event.rank event.call made.pick (made.moves none) (subst K made.made on.probes.0)) in
                elim followed [
                  | inr vain ↦ absurd (vain.1 (kept.now before event rest on.steady vain.0))
                  | inl met ↦
                      let found = history_in next n states met.0 met.1 in
                      let two = d.are_states found.0 found.1 in
                      let S : List Event → Type 0 = λ l. SameFuture n l (before ++ event ∷ []) in
                      let onward = onward_from next output n polls polled IsSteady outcome (before ++ event ∷ []) (events_of_turns next n found.0) rest futures kept two.under.run two.under.numbered
                      (subst S (sym found.2) met.2) (onward_more next output n polls polled IsSteady outcome before event rest kept on) in
                      let behind : order_of rest ≡ ranks = cc in
                      walk next output n polls root states left listed polled IsSteady outcome steps futures halts kept d ranks found.0 onward.like (onward.order ∙ behind) found.1 onward.onward
                ]
          ]
    ]

-- 3. from the root on

pub divided : (next : Next) (output : Output) (n polls : ℕ) (root : List Event) (states left : List (List Turn)) (listed : List FoundOutcome) (polled : Bool) (IsSteady : List Event → List Event → Type 0)
    → EveryStepIsMade next n → FuturesAreSame next output n → HaltsDecideOutcomes next output n → IsKept n polls polled IsSteady
    → IsDivided next output n polls root states left listed polled → IsVisited n (histories next n states) root
    → (more : List Event) → IsWholeRun next n (root ++ more) → IsSteady root more
    → IsListed listed (outcome_of_run output n (root ++ more)) ⊎ GoesOnLeft next output n IsSteady (outcome_of_run output n (root ++ more)) root left
divided next output n polls root states left listed polled IsSteady steps futures halts kept d met more whole steady =
    let outcome : RunOutcome = outcome_of_run output n (root ++ more) in
    let on : IsOnward next output n IsSteady outcome root more = record {
      run = whole.run;
      ended = whole.ended;
      numbered = whole.numbered;
      probes = Along-back IsProbeKept [] root more whole.probes;
      steady = steady;
      outcome_is = refl;
    } in
    let found = history_in next n states met.0 met.1 in
    let two = d.are_states found.0 found.1 in
    let S : List Event → Type 0 = λ l. SameFuture n l root in
    let onward = onward_from next output n polls polled IsSteady outcome root (events_of_turns next n found.0) more futures kept two.under.run two.under.numbered (subst S (sym found.2) met.2) on in
    walk next output n polls root states left listed polled IsSteady outcome steps futures halts kept d (order_of onward.like) found.0 onward.like refl found.1 onward.onward

-- what goes on from a state that is left is a whole run, if the root keeps its probes
pub left_whole : (next : Next) (output : Output) (n : ℕ) (root : List Event) (IsSteady : List Event → List Event → Type 0) (outcome : RunOutcome) (turns : List Turn) (rest : List Event)
    → Along IsProbeKept [] root → IsState next n root turns → IsOnward next output n IsSteady outcome (events_of_turns next n turns) rest → IsWholeRun next n (events_of_turns next n turns ++ rest)
left_whole next output n root IsSteady outcome turns rest probes state on =
    let K : List Event → Type 0 = λ l. Along IsProbeKept [] l in
    let own : Along IsProbeKept [] (events_of_turns next n turns) = subst K (sym state.under.made) (along_join IsProbeKept [] root state.under.more probes state.under.probes) in
    record { run = on.run; ended = on.ended; numbered = on.numbered; probes = along_join IsProbeKept [] (events_of_turns next n turns) rest own on.probes }

-- 4. what is wanted of runs

abbrev pub IsFree : Bool → List Event → List Event → Type 0
IsFree polled before rest = polled ≡ false

pub free_kept : (n polls : ℕ) (polled : Bool) → IsKept n polls polled (IsFree polled)
free_kept n polls polled =
    record {
      now = λ before event rest free held. (let no : true ≡ false = sym held ∙ free in absurd (cc));
      later = λ before event rest free. free;
      alike = λ one other more rest same whole free. free;
    }

pub patient_kept : (n polls : ℕ) (polled : Bool) → IsKept n polls polled (λ before rest. Along (IsPatientEvent polls) before rest)
patient_kept n polls polled =
    record {
      now = λ before event rest patient held. patient.0;
      later = λ before event rest patient. patient.1;
      alike = λ one other more rest same whole patient. patient_alike polls one other more rest same.views whole.views patient;
    }

pub taken_or_left : {A : Type 0} (k : ℕ) (xs : List A) (x : A) → IsIn x xs → IsIn x (take k xs) ⊎ IsIn x (drop k xs)
taken_or_left zero xs x there = inr there
taken_or_left (suc k) [] x there = absurd there
taken_or_left (suc k) (y ∷ xs) x there =
    elim there [
      | inl same ↦ inl (inl same)
      | inr later ↦ elim (taken_or_left k xs x later) [ inl front ↦ inl (inr front) | inr back ↦ inr back ]
    ]
