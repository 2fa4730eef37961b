-- From all that was tried a state is looked at, and from all states that were a search is whole.
use Rattle.std.proofs.Common.{◌≡◌, ◌<◌, ◌≤◌, ◌+◌, ◌∙◌, ◌++◌, ◌∷◌, ◌⊎◌, ℕ, suc, zero, List, [], Option, Some, None, append_assoc, arith, drop, false, get_or, length, length-append, slice_get, take, true, inl, inr, refl, ap, sym, subst}
use Rattle.std.proofs.lemmas.List.{take-append-le}
use Rattle.mpi_call.specs.declared.call.Call.{Call}
use Rattle.mpi_call.specs.declared.call.Halt.{Halt}
use Rattle.mpi_call.specs.declared.call.Halt.TheVariants.{Stuck}
use Rattle.mpi_call.specs.declared.reply.Reply.TheVariants.{Stopped}
use Rattle.mpi_call.specs.Lists.{IsIn}
use Rattle.run_model.specs.declared.event.Event.{Event}
use Rattle.run_model.specs.Allowed.{IsStuck, can_go}
use Rattle.run_model.specs.Due.{halt_of_reply, halted}
use Rattle.run_model.specs.Lists.{Along, IsPrefixOf}
use Rattle.run_model.specs.Run.{IsPromptRun}
use Rattle.run_model.specs.Serial.{call_after, next_can_go}
use Rattle.run_model.specs.Views.{Next, moment_at, view_of}
use Rattle.run_model.proofs.Along.{Along-front}
use Rattle.run_model.proofs.Views.{option_cases}
use Rattle.picked_runs.specs.declared.turn.Pick.{Pick}
use Rattle.picked_runs.specs.declared.turn.Turn.{Turn}
use Rattle.picked_runs.specs.Picks.{picked_event, picked_reply}
use Rattle.srr_entry.specs.Outputs.{Output}
use Rattle.run_states.specs.Moves.{IsHalting}
use Rattle.run_states.specs.Outcomes.{IsPatientEvent, IsProbeKept, IsWholeRun, RunOutcome, halted_outcome, outcome_of_run}
use Rattle.run_states.specs.StateLaws.{EveryStepIsMade, FuturesAreSame, HaltsDecideOutcomes}
use Rattle.explore.specs.declared.found.Explored.{Explored}
use Rattle.explore.specs.declared.found.FoundOutcome.{FoundOutcome}
use Rattle.explore.specs.declared.met.Met.{Met}
use Rattle.explore.specs.Explored.{OutcomesDiffer, IsBehind, IsExplored, IsFoundOutcome, IsReachableOutcome, IsLeftPatient, IsListed, events_of_turns}
use Rattle.explore.specs.Searching.{StaysMet, HasBegun, HasLookedAt, HasTriedRanks, IsAtEnd, IsOutcomeListed, IsSearched, IsState, IsUnderWay, question_of, seen_by}
use Rattle.explore.specs.SearchLaws.{AllRunsAreListed, PatientRunsAreListed}
use Rattle.explore.proofs.Dividing.{GoesOnLeft, IsDivided, IsFree, divided, free_kept, left_whole, patient_kept, taken_or_left}
use Rattle.explore.proofs.Joining.{held_reply}
use Rattle.explore.proofs.Recorded.{ended_comes, taken_begins}
use Rattle.explore.proofs.Tried.{stopped_by, stuck_listed}
use Rattle.explore.proofs.Trying.{followed_longer, listed_longer, looked_longer, met_longer}

listed_as : (listed : List FoundOutcome) (one other : RunOutcome) → one ≡ other → IsListed listed one → IsListed listed other
listed_as listed one other same there = (let F : RunOutcome → Type 0 = λ o. IsListed listed o in subst F same there)

-- 1. a state

-- where no call can go, the halt is Stuck
halt_stuck : (next : Next) (n : ℕ) (before : List Event) (rank : ℕ) (call : Call) (pick : Pick) (halt : Halt) → IsPromptRun next n before
    → IsHalting next (moment_at n before rank) call pick halt → IsStuck next n before → Stuck ≡ halt
halt_stuck next n before rank call pick halt run halting stuck =
    let reply : picked_reply n before rank call pick ≡ Stopped Stuck = held_reply next n before rank call pick run halting.offered (stuck rank call halting.below halting.asked) in
    let both : Stopped Stuck ≡ Stopped halt = sym reply ∙ halting.halts in
    cc

pub looked_made : (next : Next) (output : Output) (n polls : ℕ) (met : Met) (root : List Event) (turns : List Turn) → IsState next n root turns
    → HasTriedRanks (question_of next output n polls) met (events_of_turns next n turns) n true → HasLookedAt (question_of next output n polls) met turns
looked_made next output n polls met root turns state tried =
    let before : List Event = events_of_turns next n turns in
    record {
      moves = λ rank call pick move kept. tried.moves rank call pick move.below move kept;
      halts = λ rank call pick halt halting. (elim halting.goes [
        | inl t ↦ tried.halts rank call pick halt halting.below halting (λ first. t)
        | inr stuck ↦ listed_as met.found _ _ (ap (halted_outcome next output n before) (halt_stuck next n before rank call pick halt state.under.run halting stuck)) (tried.stuck refl stuck)
      ]);
      ends = λ ended. (
          let s = tried.some refl in
          let no : None ≡ Some s.1 = sym (ended s.0 s.2) ∙ s.3 in
          absurd (cc));
    }

goes_as : (n : ℕ) (before : List Event) (rank : ℕ) (asked : Option Call) (call : Call) → asked ≡ Some call → next_can_go n before rank asked ≡ false
    → can_go n before rank (view_of before rank) call ≡ false
goes_as n before rank asked call same h = (let F : Option Call → Type 0 = λ o. next_can_go n before rank o ≡ false in subst F same h)

pub idle_stuck : (next : Next) (output : Output) (n polls : ℕ) (met : Met) (before : List Event) → HasTriedRanks (question_of next output n polls) met before n false → IsStuck next n before
idle_stuck next output n polls met before tried rank call below asked =
    goes_as n before rank (call_after next n before rank) call asked (tried.idle refl rank below)

pub idle_end : (next : Next) (output : Output) (n polls : ℕ) (met : Met) (before : List Event) → HasTriedRanks (question_of next output n polls) met before n false → IsAtEnd next n before
idle_end next output n polls met before tried = inl (idle_stuck next output n polls met before tried)

pub looked_idle : (next : Next) (output : Output) (n polls : ℕ) (met met' : Met) (root : List Event) (turns : List Turn) → HaltsDecideOutcomes next output n → IsState next n root turns
    → StaysMet met.states met'.states met.found met'.found met.polled met'.polled
    → HasTriedRanks (question_of next output n polls) met (events_of_turns next n turns) n false → IsOutcomeListed next output n turns met'.found → HasLookedAt (question_of next output n polls) met' turns
looked_idle next output n polls met met' root turns law state grows tried noted =
    let before : List Event = events_of_turns next n turns in
    let stuck : IsStuck next n before = idle_stuck next output n polls met before tried in
    record {
      moves = λ rank call pick move kept.
          followed_longer next n polls met.states met'.states met.found met'.found met.polled met'.polled before (picked_event n before rank call pick) grows (tried.moves rank call pick move.below move kept);
      halts = λ rank call pick halt halting.
          listed_as met'.found _ _ (ap (halted_outcome next output n before) (halt_stuck next n before rank call pick halt state.under.run halting stuck))
          (stuck_listed next output n root turns rank call met'.found law state halting.below halting.asked stuck noted);
      ends = λ ended. (
          let c = noted.comes in
          listed_as met'.found noted.outcome _ (c.outcome_is ∙ ended_comes next output n before c.run (taken_begins next n turns c.run c.taken) c.picked.run ended) noted.listed_is);
    }

-- 2. all states

pub all_taken : {A : Type 0} (k : ℕ) (xs : List A) → drop k xs ≡ [] → take k xs ≡ xs
all_taken zero [] h = refl
all_taken zero (x ∷ xs) h = absurd (cc)
all_taken (suc k) [] h = refl
all_taken (suc k) (x ∷ xs) h = ap (λ l. x ∷ l) (all_taken k xs h)

pub taken_longer : {A : Type 0} (k : ℕ) (xs ys : List A) → IsPrefixOf xs ys → k ≤ length xs → take k ys ≡ take k xs
taken_longer {A} k xs ys longer few =
    let F : List A → List A = λ l. take k l in
    ap F (sym longer.1) ∙ take-append-le k xs longer.0 few

-- the last of those that were taken
in_taken : {A : Type 0} (k : ℕ) (xs : List A) (x y : A) → slice_get xs k ≡ Some y → IsIn x (take (suc k) xs) → IsIn x (take k xs) ⊎ (y ≡ x)
in_taken zero [] x y h there = absurd there
in_taken (suc k) [] x y h there = absurd there
in_taken zero (z ∷ xs) x y h there =
    let first : z ≡ y = cc in
    elim there [ inl same ↦ inr (sym first ∙ same) | inr none ↦ absurd none ]
in_taken (suc k) (z ∷ xs) x y h there =
    elim there [
      | inl same ↦ inl (inl same)
      | inr later ↦ elim (in_taken k xs x y h later) [ inl front ↦ inl (inr front) | inr last ↦ inr last ]
    ]

pub got_in : {A : Type 0} (k : ℕ) (xs : List A) (x : A) → slice_get xs k ≡ Some x → IsIn x xs
got_in k [] x h = absurd (cc)
got_in zero (y ∷ xs) x h = (let same : y ≡ x = cc in inl same)
got_in (suc k) (y ∷ xs) x h = inr (got_in k xs x h)

pub got_at : {A : Type 0} (k : ℕ) (xs : List A) (x : A) → k < length xs → x ≡ get_or xs k x → slice_get xs k ≡ Some x
got_at k [] x below is = absurd (omega (arith, below))
got_at zero (y ∷ xs) x below is = ap (λ z. Some z) (sym is)
got_at (suc k) (y ∷ xs) x below is = got_at k xs x (omega (arith, below)) is

pub got_below : {A : Type 0} (k : ℕ) (xs : List A) (x : A) → slice_get xs k ≡ Some x → k < length xs
got_below k [] x h = absurd (cc)
got_below zero (y ∷ xs) x h = omega arith
got_below (suc k) (y ∷ xs) x h = (let below = got_below k xs x h in omega (arith, below))

pub below_longer : {A : Type 0} (k : ℕ) (xs ys : List A) → IsPrefixOf xs ys → k < length xs → k + 1 ≤ length ys
below_longer k xs ys longer below = (let many = length-append xs longer.0 in let same = ap length longer.1 in omega (arith, many, same, below))

-- what holds of those that were taken and of one more
pub taken_more : {A : Type 0} (P : A → Type 0) (at : ℕ) (x : A) (xs ys : List A) → IsPrefixOf xs ys → slice_get xs at ≡ Some x
    → ((one : A) → IsIn one (take at xs) → P one) → P x → (one : A) → IsIn one (take (at + 1) ys) → P one
taken_more {A} P at x xs ys longer got all here one there =
    let F : List A → Type 0 = λ l. IsIn one l in
    let e : at + 1 ≡ suc at = omega arith in
    let G : ℕ → Type 0 = λ k. IsIn one (take k ys) in
    let few : at < length xs = got_below at xs x got in
    let within : suc at ≤ length xs = omega (arith, few) in
    elim (in_taken at xs one x got (subst F (taken_longer (suc at) xs ys longer within) (subst G e there))) [
      | inl front ↦ all one front
      | inr last ↦ subst P last here
    ]

-- one more state was looked at
pub looked_more : (next : Next) (output : Output) (n polls : ℕ) (met met' : Met) (at : ℕ) (turns : List Turn) → StaysMet met.states met'.states met.found met'.found met.polled met'.polled
    → slice_get met.states at ≡ Some turns
    → ((one : List Turn) → IsIn one (take at met.states) → HasLookedAt (question_of next output n polls) met one) → HasLookedAt (question_of next output n polls) met' turns
    → (one : List Turn) → IsIn one (take (at + 1) met'.states) → HasLookedAt (question_of next output n polls) met' one
looked_more next output n polls met met' at turns grows got all here =
    let L : List Turn → Type 0 = λ l. HasLookedAt (question_of next output n polls) met' l in
    taken_more L at turns met.states met'.states grows.states_stay got
    (λ one front. looked_longer next output n polls met.states met'.states met.found met'.found met.polled met'.polled (events_of_turns next n one) grows (all one front)) here

searched : (next : Next) (output : Output) (n polls : ℕ) (under : List Turn) (first met : Met) (looked : ℕ) → HasBegun next output n under first
    → StaysMet first.states met.states first.found met.found first.polled met.polled → halted (events_of_turns next n under) ≡ None
    → ((turns : List Turn) → IsIn turns (take looked met.states) → HasLookedAt (question_of next output n polls) met turns) → drop looked met.states ≡ []
    → IsSearched (question_of next output n polls) (events_of_turns next n under) (seen_by met)
searched next output n polls under first met looked begun grows free all none =
    let F : List (List Turn) → Type 0 = λ l. (turns : List Turn) → IsIn turns l → HasLookedAt (question_of next output n polls) met turns in
    record {
      first = met_longer next n first.states met.states (events_of_turns next n under) grows.states_stay (begun.free free);
      looked = subst F (all_taken looked met.states none) all;
    }

-- the first halt of a history. (As in `run_states`, where it is private.)
record HasFirstHalt (events : List Event) (halt : Halt) : Type 0 where
  before : List Event
  event : Event
  after : List Event
  whole : events ≡ before ++ event ∷ after
  none : halted before ≡ None
  here : halt_of_reply event.reply ≡ Some halt

first_halt : (events : List Event) (halt : Halt) → halted events ≡ Some halt → HasFirstHalt events halt
first_halt [] halt h = absurd (cc)
first_halt (event ∷ events) halt h =
    elim (option_cases (halt_of_reply event.reply)) [
      | inl some ↦
          let same : Some some.0 ≡ Some halt = rw some.1 at h in
          record { before = []; event = event; after = events; whole = refl; none = refl; here = some.1 ∙ same }
      | inr none ↦
          let f = first_halt events halt (rw none at h) in
          record { before = event ∷ f.before; event = f.event; after = f.after; whole = ap (λ l. event ∷ l) f.whole; none = rw none f.none; here = f.here }
    ]

-- a root that is halted decides what its runs come to
halted_runs : (next : Next) (output : Output) (n : ℕ) (root one other : List Event) (halt : Halt) → HaltsDecideOutcomes next output n → halted root ≡ Some halt
    → IsPromptRun next n (root ++ one) → ((rank : ℕ) → rank < n → call_after next n (root ++ one) rank ≡ None)
    → IsPromptRun next n (root ++ other) → ((rank : ℕ) → rank < n → call_after next n (root ++ other) rank ≡ None)
    → outcome_of_run output n (root ++ one) ≡ outcome_of_run output n (root ++ other)
halted_runs next output n root one other halt law there run ended run' ended' =
    let f = first_halt root halt there in
    let stopped : f.event.reply ≡ Stopped halt = stopped_by f.event.reply halt f.here in
    let whole : (more : List Event) → root ++ more ≡ f.before ++ f.event ∷ (f.after ++ more) =
    λ more. ap (λ l. l ++ more) f.whole ∙ append_assoc f.before (f.event ∷ f.after) more in
    let R : List Event → Type 0 = λ l. IsPromptRun next n l in
    let E : List Event → Type 0 = λ l. (rank : ℕ) → rank < n → call_after next n l rank ≡ None in
    let decided : (more : List Event) → IsPromptRun next n (root ++ more) → ((rank : ℕ) → rank < n → call_after next n (root ++ more) rank ≡ None)
    → outcome_of_run output n (root ++ more) ≡ halted_outcome next output n f.before halt =
    λ more r e. ap (outcome_of_run output n) (whole more) ∙ law f.before (f.after ++ more) f.event halt (subst R (whole more) r) (subst E (whole more) e) f.none stopped in
    decided one run ended ∙ sym (decided other run' ended')

pub root_listed : (next : Next) (output : Output) (n : ℕ) (under : List Turn) (first met : Met) (halt : Halt) (more : List Event) → HaltsDecideOutcomes next output n
    → HasBegun next output n under first → StaysMet first.states met.states first.found met.found first.polled met.polled
    → halted (events_of_turns next n under) ≡ Some halt → IsWholeRun next n (events_of_turns next n under ++ more)
    → IsListed met.found (outcome_of_run output n (events_of_turns next n under ++ more))
root_listed next output n under first met halt more law begun grows there whole =
    let root : List Event = events_of_turns next n under in
    let noted = begun.ended halt there in
    let c = noted.comes in
    let begins = taken_begins next n under c.run c.taken in
    let R : List Event → Type 0 = λ l. IsPromptRun next n l in
    let E : List Event → Type 0 = λ l. (rank : ℕ) → rank < n → call_after next n l rank ≡ None in
    let same : outcome_of_run output n (root ++ begins.0) ≡ outcome_of_run output n (root ++ more) =
    halted_runs next output n root begins.0 more halt law there (subst R (sym begins.1) c.picked.run) (subst E (sym begins.1) c.taken.ended) whole.run whole.ended in
    listed_longer first.found met.found _ grows.listed_stay
    (listed_as first.found noted.outcome _ (c.outcome_is ∙ (ap (outcome_of_run output n) (sym begins.1) ∙ same)) noted.listed_is)

-- what is kept of runs that go on from what is left
left_of : (next : Next) (output : Output) (n : ℕ) (root : List Event) (IsSteady : List Event → List Event → Type 0) (outcome : RunOutcome) (left : List (List Turn)) → Along IsProbeKept [] root
    → GoesOnLeft next output n IsSteady outcome root left → IsReachableOutcome next output n left outcome
left_of next output n root IsSteady outcome left probes on =
    record {
      turns = on.turns;
      there = on.there;
      more = on.rest;
      whole = left_whole next output n root IsSteady outcome on.turns on.rest probes on.state on.onward;
      outcome_is = on.onward.outcome_is;
    }

patient_left : (next : Next) (output : Output) (n polls : ℕ) (root : List Event) (outcome : RunOutcome) (left : List (List Turn)) → Along IsProbeKept [] root
    → GoesOnLeft next output n (λ before events. Along (IsPatientEvent polls) before events) outcome root left → IsLeftPatient next output n polls left outcome
patient_left next output n polls root outcome left probes on =
    record {
      left = record {
        turns = on.turns;
        there = on.there;
        more = on.rest;
        whole = left_whole next output n root (λ before events. Along (IsPatientEvent polls) before events) outcome on.turns on.rest probes on.state on.onward;
        outcome_is = on.onward.outcome_is;
      };
      patient = on.onward.steady;
    }

divides : (next : Next) (output : Output) (n polls : ℕ) (root : List Event) (met : Met) (looked : ℕ) → IsUnderWay next output n root met
    → ((turns : List Turn) → IsIn turns (take looked met.states) → HasLookedAt (question_of next output n polls) met turns)
    → IsDivided next output n polls root met.states (drop looked met.states) met.found met.polled
divides next output n polls root met looked way all =
    record {
      are_states = way.are_states;
      looked = λ turns there. (elim (taken_or_left looked met.states turns there) [ inl t ↦ inl (all turns t) | inr l ↦ inr l ]);
    }

in_dropped : {A : Type 0} (k : ℕ) (xs : List A) (x : A) → IsIn x (drop k xs) → IsIn x xs
in_dropped zero xs x there = there
in_dropped (suc k) [] x there = there
in_dropped (suc k) (y ∷ xs) x there = inr (in_dropped k xs x there)

behind_root : (next : Next) (output : Output) (n : ℕ) (root : List Event) (met : Met) (looked : ℕ) → IsUnderWay next output n root met
    → (turns : List Turn) → IsIn turns (drop looked met.states) → IsBehind next n root turns
behind_root next output n root met looked way turns there =
    let under = (way.are_states turns (in_dropped looked met.states turns there)).under in
    record { more = under.more; made = under.made; probes = under.probes }

-- the laws of histories that a search rests on
pub record AreLawful (next : Next) (output : Output) (n : ℕ) : Type 0 where
  pub steps : EveryStepIsMade next n
  pub futures : FuturesAreSame next output n
  pub halts : HaltsDecideOutcomes next output n
  pub patient : PatientRunsAreListed next output n
  pub all : AllRunsAreListed next output n

pub explored_all : (next : Next) (output : Output) (n polls : ℕ) (under : List Turn) (first met : Met) (looked : ℕ) (explored : Explored)
    → AreLawful next output n → HasBegun next output n under first → IsUnderWay next output n (events_of_turns next n under) met
    → StaysMet first.states met.states first.found met.found first.polled met.polled
    → ((turns : List Turn) → IsIn turns (take looked met.states) → HasLookedAt (question_of next output n polls) met turns)
    → explored.found ≡ met.found → explored.left ≡ drop looked met.states → explored.polled ≡ met.polled
    → IsExplored next output n polls under explored
explored_all next output n polls under first met looked explored laws begun way grows all found left polled =
    let root : List Event = events_of_turns next n under in
    let law : HaltsDecideOutcomes next output n = laws.halts in
    let rest : List (List Turn) = drop looked met.states in
    let d : IsDivided next output n polls root met.states rest met.found met.polled = divides next output n polls root met looked way all in
    let B : List (List Turn) → Type 0 = λ l. (turns : List Turn) → IsIn turns l → IsBehind next n root turns in
    let A : List FoundOutcome → Type 0 = λ l. OutcomesDiffer l in
    let S : List FoundOutcome → Type 0 = λ l. (one : FoundOutcome) → IsIn one l → IsFoundOutcome next output n root one in
    record {
      sound = subst S (sym found) way.found;
      apart = subst A (sym found) way.apart;
      left = λ turns there. (
          let I : List (List Turn) → Type 0 = λ l. IsIn turns l in
          let state = way.are_states turns (in_dropped looked met.states turns (subst I left there)) in
          record { ranks = state.under.ranks; picks = state.under.picks });
      patient = λ none more whole steady. (
          let L : List FoundOutcome → Type 0 = λ l. IsListed l (outcome_of_run output n (root ++ more)) in
          subst L (sym found) (elim (option_cases (halted root)) [
            | inl some ↦ root_listed next output n under first met some.0 more law begun grows some.1 whole
            | inr free ↦ laws.patient polls root more met.states met.found met.polled
                (searched next output n polls under first met looked begun grows free all (sym left ∙ none)) free whole steady
          ]));
      complete = λ none never more whole. (
          let L : List FoundOutcome → Type 0 = λ l. IsListed l (outcome_of_run output n (root ++ more)) in
          subst L (sym found) (elim (option_cases (halted root)) [
            | inl some ↦ root_listed next output n under first met some.0 more law begun grows some.1 whole
            | inr free ↦ laws.all polls root more met.states met.found met.polled
                (searched next output n polls under first met looked begun grows free all (sym left ∙ none)) (sym polled ∙ never) free whole
          ]));
      behind = subst B (sym left) (behind_root next output n root met looked way);
      divided_patient = λ more whole steady. (
          let outcome : RunOutcome = outcome_of_run output n (root ++ more) in
          let G : List FoundOutcome → List (List Turn) → Type 0 = λ l r. IsListed l outcome ⊎ IsLeftPatient next output n polls r outcome in
          subst (λ l. G l explored.left) (sym found) (subst (λ r. G met.found r) (sym left) (elim (option_cases (halted root)) [
            | inl some ↦ inl (root_listed next output n under first met some.0 more law begun grows some.1 whole)
            | inr free ↦ elim (divided next output n polls root met.states rest met.found met.polled (λ before events. Along (IsPatientEvent polls) before events) laws.steps laws.futures law
                (patient_kept n polls met.polled) d (met_longer next n first.states met.states root grows.states_stay (begun.free free)) more whole steady) [
                  | inl listed ↦ inl listed
                  | inr on ↦ inr (patient_left next output n polls root outcome rest (Along-front IsProbeKept [] root more whole.probes) on)
                ]
          ])));
      divided = λ never more whole. (
          let outcome : RunOutcome = outcome_of_run output n (root ++ more) in
          let G : List FoundOutcome → List (List Turn) → Type 0 = λ l r. IsListed l outcome ⊎ IsReachableOutcome next output n r outcome in
          subst (λ l. G l explored.left) (sym found) (subst (λ r. G met.found r) (sym left) (elim (option_cases (halted root)) [
            | inl some ↦ inl (root_listed next output n under first met some.0 more law begun grows some.1 whole)
            | inr free ↦ elim (divided next output n polls root met.states rest met.found met.polled (IsFree met.polled) laws.steps laws.futures law
                (free_kept n polls met.polled) d (met_longer next n first.states met.states root grows.states_stay (begun.free free)) more whole (sym polled ∙ never)) [
                  | inl listed ↦ inl listed
                  | inr on ↦ inr (left_of next output n root (IsFree met.polled) outcome rest (Along-front IsProbeKept [] root more whole.probes) on)
                ]
          ])));
    }
