-- A state at which one quiet call was followed.
use Rattle.std.proofs.Common.{◌≡◌, ◌<◌, ◌≤◌, ◌+◌, ◌∙◌, ◌++◌, ◌∷◌, if◌then◌else◌, ℕ, suc, zero, List, [], Option, Some, None, Bool, MatchBool, true, false, is_some, length, ltb-false, nat_lt, slice_get, take, arith, inl, inr, refl, ap, sym, subst}
use Rattle.std.proofs.lemmas.Bool.{cases_order}
use Rattle.std.proofs.lemmas.List.{take_all}
use Rattle.mpi_call.specs.Lists.{IsIn}
use Rattle.mpi_call.specs.declared.call.Call.{Call}
use Rattle.mpi_call.specs.declared.reply.Reply.{Reply}
use Rattle.mpi_call.specs.declared.call.Halt.{Halt}
use Rattle.mpi_call.specs.declared.reply.Reply.TheVariants.{NotYet, Stopped}
use Rattle.run_model.specs.declared.event.Event.{Event}
use Rattle.run_model.specs.Due.{halt_of_reply}
use Rattle.run_model.specs.Lists.{IsPrefixOf}
use Rattle.run_model.specs.Serial.{call_after}
use Rattle.run_model.specs.Views.{Next}
use Rattle.run_model.proofs.Views.{option_cases}
use Rattle.picked_runs.specs.declared.turn.Pick.TheVariants.{First}
use Rattle.picked_runs.specs.declared.turn.Turn.{Turn}
use Rattle.picked_runs.specs.Picks.{picked_event, picked_reply}
use Rattle.srr_entry.specs.Outputs.{Output}
use Rattle.run_states.specs.Outcomes.{IsProbeKept}
use Rattle.quiet_calls.specs.Closure.{IsQuietCallMet}
use Rattle.quiet_calls.specs.Quiet.{Races, is_quiet, is_reckoned}
use Rattle.explore.specs.declared.met.Met.{Met}
use Rattle.explore.specs.declared.quiet.Hindrance.{Hindrance}
use Rattle.explore.specs.declared.quiet.Look.{Look}
use Rattle.explore.specs.declared.quiet.Look.TheVariants.{Followed, Hindered, Opened}
use Rattle.explore.specs.Courses.{IsAnswered}
use Rattle.explore.specs.Explored.{events_of_turns}
use Rattle.explore.specs.QuietFirst.{ArePassed, AreReckonedBelow, HasLookedAtQuietly, IsLastAnswered, is_hindered}
use Rattle.explore.specs.Searching.{StaysMet, HasTried, IsFollowed, histories, question_of, seen_by}
use Rattle.explore.proofs.Looking.{taken_more}
use Rattle.explore.proofs.Stepping.{AreSame, snoc_same}
use Rattle.explore.proofs.Tried.{stopped_by}
use Rattle.explore.proofs.Trying.{looked_longer, met_longer}

-- 1. a quiet call that was made

pub record IsQuietlyMade (next : Next) (n : ℕ) (before : List Event) (rank : ℕ) (call : Call) : Type 0 where
  pub free : halt_of_reply (picked_reply n before rank call First) ≡ None
  pub ready : picked_reply n before rank call First ≡ NotYet → ⊥
  pub probe : IsProbeKept before (picked_event n before rank call First)

pub quietly_made : (next : Next) (n : ℕ) (before after : List Event) (rank : ℕ) (call : Call) → IsAnswered next n before after (record { rank = rank; pick = First }) call → IsLastAnswered after
    → IsQuietlyMade next n before rank call
quietly_made next n before after rank call answered last =
    let q : Event = picked_event n before rank call First in
    let s : AreSame last.before before last.event q = snoc_same last.before before last.event q (sym last.whole ∙ answered.events_are) in
    let F : Event → Type 0 = λ e. halt_of_reply e.reply ≡ None in
    let R : Event → Type 0 = λ e. e.reply ≡ NotYet → ⊥ in
    let P : List Event → Event → Type 0 = λ l e. IsProbeKept l e in
    record {
      free = subst F s.lasts last.free;
      ready = subst R s.lasts last.ready;
      probe = subst (λ l. P l q) s.fronts (subst (λ e. P last.before e) s.lasts last.probe);
    }

pub quiet_met : (next : Next) (output : Output) (n polls : ℕ) (races : Races) (met : Met) (before after : List Event) (rank : ℕ) (call : Call) → rank < n
    → call_after next n before rank ≡ Some call → is_quiet races call ≡ true → IsAnswered next n before after (record { rank = rank; pick = First }) call → IsLastAnswered after
    → HasTried (question_of next output n polls) met before (record { rank = rank; pick = First }) → IsQuietCallMet next n races (histories next n met.states) before
quiet_met next output n polls races met before after rank call below asked kind answered last tried =
    let made : IsQuietlyMade next n before rank call = quietly_made next n before after rank call answered last in
    let both : Some tried.call ≡ Some call = sym tried.asked ∙ asked in
    let same : tried.call ≡ call = cc in
    let M : Call → Type 0 = λ c. halt_of_reply (picked_reply n before rank c First) ≡ None → IsProbeKept before (picked_event n before rank c First)
    → IsFollowed next n polls (seen_by met) before (picked_event n before rank c First) in
    let followed : IsFollowed next n polls (seen_by met) before (picked_event n before rank call First) = subst M same tried.moves made.free made.probe in
    record {
      rank = rank;
      call = call;
      quiet = record { kind = kind; below = below; asked = asked; free = made.free; ready = made.ready; probe = made.probe };
      met = elim followed [
        | inl met ↦ met
        | inr vain ↦ absurd (vain.1 (λ held. absurd (made.ready held)))
      ];
    }

-- 2. next calls that are reckoned with

pub reckoned_none : (next : Next) (n : ℕ) (races : Races) (before : List Event) → AreReckonedBelow next n races before 0
reckoned_none next n races before rank call below asked = absurd (omega (arith, below))

pub reckoned_more : (next : Next) (n : ℕ) (races : Races) (before : List Event) (rank : ℕ) (next_call : Option Call) → call_after next n before rank ≡ next_call
    → ((call : Call) → next_call ≡ Some call → is_reckoned races rank call ≡ true) → AreReckonedBelow next n races before rank
    → AreReckonedBelow next n races before (rank + 1)
reckoned_more next n races before rank next_call is here earlier other call below asked =
    elim (cases_order other rank) [
      | inl same ↦
          let F : ℕ → Type 0 = λ r. is_reckoned races r call ≡ true in
          subst F (sym same) (here call (sym is ∙ (ap (call_after next n before) (sym same) ∙ asked)))
      | inr apart ↦ elim apart [
        | inl less ↦ earlier other call less asked
        | inr more ↦ absurd (omega (arith, more, below))
      ]
    ]

-- 3. what was looked at stays looked at

pub quietly_longer : (next : Next) (output : Output) (n polls : ℕ) (races : Races) (met met' : Met) (turns : List Turn)
    → StaysMet met.states met'.states met.found met'.found met.polled met'.polled → HasLookedAtQuietly (question_of next output n polls) races met turns
    → HasLookedAtQuietly (question_of next output n polls) races met' turns
quietly_longer next output n polls races met met' turns grows l =
    record {
      reckoned = l.reckoned;
      looked = elim l.looked [
        | inl wide ↦ inl (looked_longer next output n polls met.states met'.states met.found met'.found met.polled met'.polled (events_of_turns next n turns) grows wide)
        | inr quiet ↦ inr (record {
          rank = quiet.rank;
          call = quiet.call;
          quiet = quiet.quiet;
          met = met_longer next n met.states met'.states (events_of_turns next n turns ++ picked_event n (events_of_turns next n turns) quiet.rank quiet.call First ∷ []) grows.states_stay quiet.met;
        })
      ];
    }

-- 4. whether the last event was answered

not_stopped : (reply : Reply) → ((halt : Halt) → reply ≡ Stopped halt → ⊥) → halt_of_reply reply ≡ None
not_stopped reply free =
    elim (option_cases (halt_of_reply reply)) [
      | inl some ↦ absurd (free some.0 (stopped_by reply some.0 some.1))
      | inr none ↦ none
    ]

pub last_answered : (before : List Event) (event : Event) (events : List Event) (kept : Bool) → events ≡ before ++ event ∷ [] → (event.reply ≡ NotYet → ⊥)
    → ((halt : Halt) → event.reply ≡ Stopped halt → ⊥) → MatchBool kept (IsProbeKept before event) (IsProbeKept before event → ⊥)
    → MatchBool kept (IsLastAnswered events) (IsLastAnswered events → ⊥)
last_answered before event events true whole ready free probe =
    record { before = before; event = event; whole = whole; free = not_stopped event.reply free; ready = ready; probe = probe }
last_answered before event events false whole ready free not =
    λ last. (
    let s : AreSame last.before before last.event event = snoc_same last.before before last.event event (sym last.whole ∙ whole) in
    let P : List Event → Event → Type 0 = λ l e. IsProbeKept l e in
    not (subst (λ l. P l event) s.fronts (subst (λ e. P last.before e) s.lasts last.probe)))

-- 5. what is not so

pub not_both : {A : Type 0} → false ≡ true → A
not_both h = absurd (cc)

pub hindered : {A B : Type 0} (o : Option A) → is_some o ≡ true → o ≡ None → B
hindered None h none = (let no : false ≡ true = h in not_both no)
hindered (Some x) h none = absurd (cc)

pub some_none : {A B : Type 0} {x : A} → Some x ≡ None → B
some_none h = absurd (cc)

-- 6. all states

pub quietly_more : (next : Next) (output : Output) (n polls : ℕ) (races : Races) (met met' : Met) (at : ℕ) (turns : List Turn)
    → StaysMet met.states met'.states met.found met'.found met.polled met'.polled → slice_get met.states at ≡ Some turns
    → ((one : List Turn) → IsIn one (take at met.states) → HasLookedAtQuietly (question_of next output n polls) races met one) → HasLookedAtQuietly (question_of next output n polls) races met' turns
    → (one : List Turn) → IsIn one (take (at + 1) met'.states) → HasLookedAtQuietly (question_of next output n polls) races met' one
quietly_more next output n polls races met met' at turns grows got all here =
    let L : List Turn → Type 0 = λ l. HasLookedAtQuietly (question_of next output n polls) races met' l in
    taken_more L at turns met.states met'.states grows.states_stay got (λ one front. quietly_longer next output n polls races met met' one grows (all one front)) here

pub not_below : (a b : ℕ) → false ≡ nat_lt a b → b ≤ a
not_below a b h = ltb-false a b (sym h)

pub all_quietly : (P : List Turn → Type 0) (at : ℕ) (states : List (List Turn)) → length states ≤ at → ((one : List Turn) → IsIn one (take at states) → P one)
    → (one : List Turn) → IsIn one states → P one
all_quietly P at states enough all =
    let F : List (List Turn) → Type 0 = λ l. (one : List Turn) → IsIn one l → P one in
    subst F (take_all at states enough) all

-- 7. what came of looking

pub hindered_not : {A : Type 0} {hindrance : Hindrance} {turn : Turn} → Hindered hindrance ≡ Followed turn → A
hindered_not h = absurd (cc)

pub opened_not : {A : Type 0} {turn : Turn} → Opened ≡ Followed turn → A
opened_not h = absurd (cc)

pub same_turn : (one other : Turn) → Followed one ≡ Followed other → one ≡ other
same_turn one other h = cc

-- 8. states that were looked at before their turn came

got_front : {A : Type 0} (k : ℕ) (xs more : List A) (x : A) → slice_get xs k ≡ Some x → slice_get (xs ++ more) k ≡ Some x
got_front k [] more x h = absurd (cc)
got_front zero (y ∷ xs) more x h = h
got_front (suc k) (y ∷ xs) more x h = got_front k xs more x h

pub got_longer : {A : Type 0} (k : ℕ) (xs ys : List A) (x : A) → IsPrefixOf xs ys → slice_get xs k ≡ Some x → slice_get ys k ≡ Some x
got_longer {A} k xs ys x longer got =
    let F : List A → Type 0 = λ l. slice_get l k ≡ Some x in
    subst F longer.1 (got_front k xs longer.0 x got)

pub passed_longer : (next : Next) (output : Output) (n polls : ℕ) (races : Races) (met met' : Met) (places : List ℕ)
    → StaysMet met.states met'.states met.found met'.found met.polled met'.polled → ArePassed (question_of next output n polls) races met places → ArePassed (question_of next output n polls) races met' places
passed_longer next output n polls races met met' places grows passed place there =
    let p = passed place there in
    (p.0, got_longer place met.states met'.states p.0 grows.states_stay p.1, quietly_longer next output n polls races met met' p.0 grows p.2)

pub passed_more : (next : Next) (output : Output) (n polls : ℕ) (races : Races) (met : Met) (places : List ℕ) (place : ℕ) (turns : List Turn)
    → ArePassed (question_of next output n polls) races met places → slice_get met.states place ≡ Some turns → HasLookedAtQuietly (question_of next output n polls) races met turns
    → ArePassed (question_of next output n polls) races met (places ++ place ∷ [])
passed_more next output n polls races met [] place turns passed got looked other there =
    elim there [
      | inl same ↦ (turns, (let F : ℕ → Type 0 = λ p. slice_get met.states p ≡ Some turns in subst F same got), looked)
      | inr none ↦ absurd none
    ]
passed_more next output n polls races met (first ∷ places) place turns passed got looked other there =
    elim there [
      | inl same ↦ passed other (inl same)
      | inr later ↦ passed_more next output n polls races met places place turns (λ p in_later. passed p (inr in_later)) got looked other later
    ]

-- where a state was looked at its place is among them
pub passed_by : (next : Next) (output : Output) (n polls : ℕ) (races : Races) (met met' : Met) (hindered : Bool) (places : List ℕ) (place : ℕ) (turns : List Turn)
    → StaysMet met.states met'.states met.found met'.found met.polled met'.polled → ArePassed (question_of next output n polls) races met places → slice_get met.states place ≡ Some turns
    → (hindered ≡ false → HasLookedAtQuietly (question_of next output n polls) races met' turns)
    → ArePassed (question_of next output n polls) races met' (if hindered then places else places ++ place ∷ [])
passed_by next output n polls races met met' true places place turns grows passed got looked = passed_longer next output n polls races met met' places grows passed
passed_by next output n polls races met met' false places place turns grows passed got looked =
    passed_more next output n polls races met' places place turns (passed_longer next output n polls races met met' places grows passed)
    (got_longer place met.states met'.states turns grows.states_stay got) (looked refl)

pub followed_free : (look : Look) (turn : Turn) → look ≡ Followed turn → is_hindered look ≡ false
followed_free look turn h = ap is_hindered h

pub one_place : (one other : ℕ) → Some one ≡ Some other → one ≡ other
one_place one other h = cc

pub same_state : (one other : List Turn) → Some one ≡ Some other → one ≡ other
same_state one other h = cc
