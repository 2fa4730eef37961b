-- One more event behind a state: it was followed, or need not be.
use Rattle.std.proofs.Common.{◌≡◌, ◌<◌, ◌≤◌, ◌+◌, ◌-◌, ◌∙◌, ◌++◌, ◌∷◌, ℕ, List, [], append-nil, append_assoc, arith, get_or, length, length-append, take, inl, inr, refl, ap, sym, subst, true}
use Rattle.std.proofs.Math.Seq.{take-length}
use Rattle.std.proofs.lemmas.List.{take_more}
use Rattle.run_model.specs.declared.event.Event.{Event}
use Rattle.run_model.specs.Due.{halted}
use Rattle.run_model.specs.Run.{IsPromptRun}
use Rattle.run_model.specs.Views.{Next}
use Rattle.run_model.proofs.Along.{Along-snoc}
use Rattle.picked_runs.specs.declared.turn.Turn.{Turn}
use Rattle.picked_runs.specs.Numbering.{AreNumberedInOrder}
use Rattle.srr_entry.specs.Outputs.{Output}
use Rattle.run_states.specs.Moves.{IsVisited}
use Rattle.run_states.specs.Outcomes.{IsPatientEvent, IsProbeKept}
use Rattle.explore.specs.declared.met.Met.{Met}
use Rattle.explore.specs.Searching.{IsState, IsSearchStep, IsStepFollowed, IsUnderWay, WentOn, histories}

pub record AreSame {E : Type 0} (xs ys : List E) (x y : E) : Type 0 where
  pub fronts : xs ≡ ys
  pub lasts : x ≡ y

pub snoc_same : {E : Type 0} (xs ys : List E) (x y : E) → xs ++ x ∷ [] ≡ ys ++ y ∷ [] → AreSame xs ys x y
snoc_same [] [] x y h = (let same : x ≡ y = cc in record { fronts = refl; lasts = same })
snoc_same [] (b ∷ []) x y h = absurd (cc)
snoc_same [] (b ∷ c ∷ ys) x y h = absurd (cc)
snoc_same (a ∷ []) [] x y h = absurd (cc)
snoc_same (a ∷ c ∷ xs) [] x y h = absurd (cc)
snoc_same {E} (a ∷ xs) (b ∷ ys) x y h =
    let heads : a ≡ b = cc in
    let tails : xs ++ x ∷ [] ≡ ys ++ y ∷ [] = cc in
    let rest = snoc_same xs ys x y tails in
    let F : E → List E → List E = λ e l. e ∷ l in
    record { fronts = ap (λ e. F e xs) heads ∙ ap (F b) rest.fronts; lasts = rest.lasts }

pub followed_unkept : (next : Next) (n polls : ℕ) (met : Met) (before : List Event) (event : Event) (events : List Event) → events ≡ before ++ event ∷ []
    → (IsProbeKept before event → ⊥) → IsStepFollowed next n polls met events
followed_unkept next n polls met before event events whole not other last same kept =
    let s = snoc_same before other event last (sym whole ∙ same) in
    let F : List Event → Event → Type 0 = λ l e. IsProbeKept l e in
    absurd (not (subst (λ l. F l event) (sym s.fronts) (subst (λ e. F other e) (sym s.lasts) kept)))

pub followed_vain : (next : Next) (n polls : ℕ) (met : Met) (before : List Event) (event : Event) (events : List Event) → events ≡ before ++ event ∷ []
    → (IsPatientEvent polls before event → ⊥) → met.polled ≡ true → IsStepFollowed next n polls met events
followed_vain next n polls met before event events whole not polled other last same kept =
    let s = snoc_same before other event last (sym whole ∙ same) in
    let F : List Event → Event → Type 0 = λ l e. IsPatientEvent polls l e in
    inr (polled, λ patient. not (subst (λ l. F l event) (sym s.fronts) (subst (λ e. F other e) (sym s.lasts) patient)))

pub followed_met : (next : Next) (n polls : ℕ) (met : Met) (events : List Event) → IsVisited n (histories next n met.states) events → IsStepFollowed next n polls met events
followed_met next n polls met events there other last same kept =
    let F : List Event → Type 0 = λ l. IsVisited n (histories next n met.states) l in
    inl (subst F same there)

-- a run without events has no last one
pub followed_none : (next : Next) (n polls : ℕ) (met : Met) (events shown : List Event) → shown ≡ events → length shown < 1 → IsStepFollowed next n polls met events
followed_none next n polls met events shown same few before event whole kept =
    let many = length-append before (event ∷ []) in
    let e : length shown ≡ length (before ++ event ∷ []) = ap length (same ∙ whole) in
    absurd (omega (arith, many, e, few))

-- the events but the last, and the last
pub last_split : (shown events : List Event) (event : Event) → shown ≡ events → 1 ≤ length shown → event ≡ get_or shown (length shown - 1) event
    → events ≡ take (length shown - 1) shown ++ event ∷ []
last_split shown events event same some last =
    let k : ℕ = length shown - 1 in
    let within : k < length shown = omega arith in
    let all : k + 1 ≡ length shown = omega arith in
    sym same ∙ (sym (take-length shown) ∙ (ap (λ j. take j shown) (sym all) ∙ (take_more shown k event within ∙ ap (λ e. take k shown ++ e ∷ []) (sym last))))

pub vain_went : (next : Next) (output : Output) (n : ℕ) (root : List Event) (met : Met) → IsUnderWay next output n root met
    → WentOn next output n root met (record met { polled = true })
vain_went next output n root met way =
    record {
      under_way = record { are_states = way.are_states; coded = way.coded; found = way.found; apart = way.apart };
      grows = record { states_stay = ([], append-nil met.states); listed_stay = ([], append-nil met.found); polled_stays = λ h. refl };
    }

-- an event that keeps its probe makes a state
pub step_state : (next : Next) (n : ℕ) (root : List Event) (turns : List Turn) (events : List Event)
    → (step : IsSearchStep next n root turns events) → IsProbeKept step.before step.event → IsState next n root turns
step_state next n root turns events step kept =
    let before : List Event = step.before in
    let event : Event = step.event in
    let K : List Event → Type 0 = λ l. IsProbeKept l event in
    let R : List Event → Type 0 = λ l. IsPromptRun next n l in
    let N : List Event → Type 0 = λ l. AreNumberedInOrder n l in
    let whole : events ≡ root ++ (step.more ++ event ∷ []) = step.whole ∙ (ap (λ l. l ++ event ∷ []) step.begins ∙ append_assoc root step.more (event ∷ [])) in
    record {
      under = record {
        more = step.more ++ event ∷ [];
        made = step.made ∙ whole;
        ranks = step.ranks;
        picks = step.picks;
        run = subst R (sym step.made) step.run;
        numbered = subst N (sym step.made) step.numbered;
        probes = Along-snoc IsProbeKept root step.more event step.probes (subst K step.begins kept);
      };
      free = ap halted step.made ∙ step.free;
    }

-- the same, of what stands for the events in code
pub step_kept : (next : Next) (n : ℕ) (root : List Event) (turns : List Turn) (other : List Event) (last : Event) (events : List Event)
    → IsSearchStep next n root turns events → events ≡ other ++ last ∷ [] → IsProbeKept other last → IsState next n root turns
step_kept next n root turns other last events step whole kept =
    let s = snoc_same other step.before last step.event (sym whole ∙ step.whole) in
    let F : List Event → Event → Type 0 = λ l e. IsProbeKept l e in
    step_state next n root turns events step (subst (λ l. F l step.event) s.fronts (subst (λ e. F other e) s.lasts kept))
