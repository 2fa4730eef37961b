-- What is open to a call behind an event that takes nothing which the call suits: what was, and the event's own start.
use Rattle.std.proofs.Common.{◌≡◌, ◌<◌, ◌∙◌, ◌++◌, ◌∷◌, ◌⊎◌, ℕ, List, [], Some, None, true, false, inl, inr, length, slice_get, refl, ap, sym, subst, arith}
use Rattle.std.proofs.Math.Seq.{take-append_seam}
use Rattle.std.proofs.lemmas.Bool.{false_from_ne_true}
use Rattle.mpi_call.specs.declared.call.Call.{Call}
use Rattle.run_model.specs.declared.event.Event.{Event}
use Rattle.run_model.specs.Choice.{choice, suits}
use Rattle.run_model.specs.Pairs.{IsAllMatched, Name, name_at, named, pair_of, pair_with, pairs_of, partner_of, same_name}
use Rattle.run_model.specs.Views.{is_start, starts_of, view_of}
use Rattle.run_model.proofs.Choosing.{IsOpenAt, choice_is, choice_none, choice_some}
use Rattle.run_model.proofs.Positions.{name_at-below, name_position, new_name}
use Rattle.run_model.proofs.StartLemmas.{slice_get-last}
use Rattle.run_model.proofs.Views.{option_cases, test_cases}
use Rattle.picked_runs.proofs.Grown.{Grows-event, named-new, named-other, pairs_of-push}
use Rattle.picked_runs.proofs.Pairing.{free_before, new_free, new_partner, partner_of-past, same_name-true}
use Rattle.run_states.specs.Futures.{mate_name}
use Rattle.quiet_calls.proofs.Beside.{name_on, named_on, one_place}
use Rattle.quiet_calls.proofs.Swapping.{pair_is}

slice_get-end : {A : Type 0} (xs : List A) → slice_get xs (length xs) ≡ None
slice_get-end [] = refl
slice_get-end (x ∷ xs) = slice_get-end xs

-- 1. whom an event pairs

pub not_same : (a b : Name) → (a ≡ b → ⊥) → same_name a b ≡ false
not_same a b apart = false_from_ne_true (same_name a b) (λ t. apart (same_name-true a b t))

-- another start is as free as it was
pub free_on : (before : List Event) (event : Event) (name : Name) → event.met ≡ [] → partner_of (pairs_of before) name ≡ None → (mate_name before event.mate ≡ Some name → ⊥)
    → (new_name before event ≡ name → ⊥) → partner_of (pairs_of (before ++ event ∷ [])) name ≡ None
free_on before event name none_met free other new =
    let P : List (Name × Name) = pairs_of before in
    let last : partner_of (pair_of before event) name ≡ None = elim (option_cases (mate_name before event.mate)) [
      | inl some ↦
          let one : pair_of before event ≡ (some.0, new_name before event) ∷ [] = pair_is before event none_met ∙ ap (λ m. pair_with m (new_name before event)) some.1 in
          let apart : same_name some.0 name ≡ false = not_same some.0 name (λ e. other (some.1 ∙ ap (λ (x : Name). Some x) e)) in
          let beside : same_name (new_name before event) name ≡ false = not_same (new_name before event) name new in
          ap (λ l. partner_of l name) one ∙ rw (apart, beside) refl
      | inr none ↦ ap (λ l. partner_of l name) (pair_is before event none_met ∙ ap (λ m. pair_with m (new_name before event)) none)
    ] in
    ap (λ l. partner_of l name) (pairs_of-push before event) ∙ (partner_of-past P (pair_of before event) name free ∙ last)

pub was_free : (before : List Event) (event : Event) (name : Name) → partner_of (pairs_of (before ++ event ∷ [])) name ≡ None → partner_of (pairs_of before) name ≡ None
was_free before event name free =
    free_before (pairs_of before) (pair_of before event) name (ap (λ l. partner_of l name) (sym (pairs_of-push before event)) ∙ free)

-- 2. what is open to a call of a rank

-- the event takes no start that the call suits
abbrev pub TakesNone : List Event → Event → ℕ → Call → Type 0
TakesNone before event me call =
    (name : Name) (start : Call) → mate_name before event.mate ≡ Some name → named before name ≡ Some start → suits me call name.0 start ≡ true → ⊥

-- the event's name is not that of a start which was there
pub new_apart : (before : List Event) (event : Event) (name : Name) (start : Call) → named before name ≡ Some start → new_name before event ≡ name → ⊥
new_apart before event name start made same =
    let none : named before (new_name before event) ≡ None = slice_get-end (starts_of (view_of before event.rank)) in
    let no : None ≡ Some start = sym none ∙ (ap (named before) same ∙ made) in
    cc

pub open_stays : (before : List Event) (event : Event) (me : ℕ) (call : Call) (at : ℕ) → event.met ≡ [] → TakesNone before event me call → IsOpenAt before me call at
    → IsOpenAt (before ++ event ∷ []) me call at
open_stays before event me call at none_met none o =
    let apart : mate_name before event.mate ≡ Some o.name → ⊥ = λ h. none o.name o.start h o.made o.suited in
    let new : new_name before event ≡ o.name → ⊥ = λ e. new_apart before event o.name o.start o.made e in
    record {
      name = o.name;
      start = o.start;
      there = name_on before (event ∷ []) at o.name o.there;
      made = named_on before (event ∷ []) o.name o.start o.made;
      free = free_on before event o.name none_met o.free apart new;
      suited = o.suited;
    }

-- the event itself is open behind it
pub record IsOpenNew (before : List Event) (event : Event) (me : ℕ) (call : Call) (at : ℕ) : Type 0 where
  pub place : at ≡ length before
  pub starts : is_start (event.call, event.reply) ≡ true
  pub suited : suits me call event.rank event.call ≡ true
  pub alone : mate_name before event.mate ≡ None

named_from : (before : List Event) (event : Event) (name : Name) (start : Call) → named (before ++ event ∷ []) name ≡ Some start
    → (named before name ≡ Some start) ⊎ ((new_name before event ≡ name) × (is_start (event.call, event.reply) ≡ true) × (event.call ≡ start))
named_from before event name start h =
    elim (test_cases (is_start (event.call, event.reply))) [
      | inl t ↦ elim ((Grows-event before event t).back name start h) [
        | inl new ↦
            let F : Name → Type 0 = λ x. named (before ++ event ∷ []) x ≡ Some start in
            let same : Some event.call ≡ Some start = sym (named-new before event t) ∙ subst F new h in
            let called : event.call ≡ start = cc in
            inr (sym new, t, called)
        | inr was ↦ inl was
      ]
      | inr t ↦ inl (sym (named-other before event t name) ∙ h)
    ]

pub seam_name : (before : List Event) (event : Event) → is_start (event.call, event.reply) ≡ true → name_at (before ++ event ∷ []) (length before) ≡ Some (new_name before event)
seam_name before event t = rw (take-append_seam before (event ∷ []), slice_get-last before event, t) refl

-- a start with a partner is not free
-- a mate is an earlier start
pub mate_apart : (before : List Event) (event : Event) (old : Name) → is_start (event.call, event.reply) ≡ true → mate_name before event.mate ≡ Some old
    → old ≡ new_name before event → ⊥
mate_apart before event old starts mate same =
    elim (option_cases event.mate) [
      | inl some ↦
          let at : ℕ = some.0 in
          let there : name_at before at ≡ Some old = sym (ap (mate_name before) some.1) ∙ mate in
          let below : at < length before = name_at-below before at old there in
          let here : name_at (before ++ event ∷ []) at ≡ Some (new_name before event) = name_on before (event ∷ []) at old there ∙ ap (λ (x : Name). Some x) same in
          let place : at ≡ length before = one_place (before ++ event ∷ []) at (length before) (new_name before event) here (seam_name before event starts) in
          omega (arith, below, place)
      | inr none ↦ (let no : None ≡ Some old = sym (ap (mate_name before) none) ∙ mate in absurd (cc))
    ]

taken_new : (before : List Event) (event : Event) (old : Name) → event.met ≡ [] → mate_name before event.mate ≡ Some old → partner_of (pairs_of before) (new_name before event) ≡ None
    → (old ≡ new_name before event → ⊥) → partner_of (pairs_of (before ++ event ∷ [])) (new_name before event) ≡ None → ⊥
taken_new before event old none_met mate free apart h =
    let new : Name = new_name before event in
    let P : List (Name × Name) = pairs_of before in
    let one : pair_of before event ≡ (old, new) ∷ [] = pair_is before event none_met ∙ ap (λ m. pair_with m new) mate in
    let there : partner_of (pairs_of (before ++ event ∷ [])) new ≡ Some old =
    ap (λ l. partner_of l new) (pairs_of-push before event) ∙ (ap (λ l. partner_of (P ++ l) new) one ∙ new_partner P old new free apart) in
    let no : Some old ≡ None = sym there ∙ h in
    cc

pub open_from : (before : List Event) (event : Event) (me : ℕ) (call : Call) (at : ℕ) → IsAllMatched before → event.met ≡ [] → IsOpenAt (before ++ event ∷ []) me call at
    → IsOpenAt before me call at ⊎ IsOpenNew before event me call at
open_from before event me call at matched none_met o =
    elim (named_from before event o.name o.start o.made) [
      | inl was ↦
          let place = name_position before o.name o.start was in
          let same : place.0 ≡ at = one_place (before ++ event ∷ []) place.0 at o.name (name_on before (event ∷ []) place.0 o.name place.1) o.there in
          let F : ℕ → Type 0 = λ i. name_at before i ≡ Some o.name in
          inl (record { name = o.name; start = o.start; there = subst F same place.1; made = was; free = was_free before event o.name o.free; suited = o.suited })
      | inr new ↦
          let t : is_start (event.call, event.reply) ≡ true = new.1 in
          let N : Name → Type 0 = λ x. name_at (before ++ event ∷ []) at ≡ Some x in
          let here : name_at (before ++ event ∷ []) at ≡ Some (new_name before event) = subst N (sym new.0) o.there in
          let rank : event.rank ≡ o.name.0 = ap (λ (x : Name). x.0) new.0 in
          let S : ℕ → Call → Type 0 = λ r c. suits me call r c ≡ true in
          let C : Call → Type 0 = λ c. S o.name.0 c in
          let R : ℕ → Type 0 = λ r. S r event.call in
          let P : Name → Type 0 = λ x. partner_of (pairs_of (before ++ event ∷ [])) x ≡ None in
          let free : partner_of (pairs_of (before ++ event ∷ [])) (new_name before event) ≡ None = subst P (sym new.0) o.free in
          let grows = Grows-event before event t in
          inr (record {
            place = one_place (before ++ event ∷ []) at (length before) (new_name before event) here (seam_name before event t);
            starts = t;
            suited = subst R (sym rank) (subst C (sym new.2) o.suited);
            alone = elim (option_cases (mate_name before event.mate)) [
              | inl some ↦ absurd (taken_new before event some.0 none_met some.1 (new_free (named before) (named (before ++ event ∷ [])) (pairs_of before) (new_name before event) matched grows)
                  (λ e. mate_apart before event some.0 t some.1 e) free)
              | inr none ↦ none
            ];
          })
    ]

-- 3. the earliest that is open

pub record IsNewChoice (before : List Event) (event : Event) (me : ℕ) (call : Call) : Type 0 where
  pub was : choice before me call ≡ None
  pub now : choice (before ++ event ∷ []) me call ≡ Some (length before)
  pub starts : is_start (event.call, event.reply) ≡ true
  pub suited : suits me call event.rank event.call ≡ true
  pub alone : mate_name before event.mate ≡ None

pub choice_behind : (before : List Event) (event : Event) (me : ℕ) (call : Call) → IsAllMatched before → event.met ≡ [] → TakesNone before event me call
    → (choice (before ++ event ∷ []) me call ≡ choice before me call) ⊎ IsNewChoice before event me call
choice_behind before event me call matched none_met none =
    let after : List Event = before ++ event ∷ [] in
    elim (option_cases (choice before me call)) [
      | inl some ↦
          let c = choice_some before me call some.0 some.1 in
          inl (choice_is after me call some.0
          (record {
            chosen = open_stays before event me call some.0 none_met none c.chosen;
            first = λ other o. elim (open_from before event me call other matched none_met o) [
              | inl was ↦ c.first other was
              | inr new ↦
                  let below : some.0 < length before = name_at-below before some.0 c.chosen.name c.chosen.there in
                  let place : other ≡ length before = new.place in
                  omega (arith, below, place)
            ];
          })
          ∙ sym some.1)
      | inr free ↦ elim (option_cases (choice after me call)) [
        | inl new ↦
            let c = choice_some after me call new.0 new.1 in
            elim (open_from before event me call new.0 matched none_met c.chosen) [
              | inl was ↦ absurd (choice_none before me call free new.0 was)
              | inr is ↦ inr (record { was = free; now = new.1 ∙ ap (λ (x : ℕ). Some x) is.place; starts = is.starts; suited = is.suited; alone = is.alone })
            ]
        | inr still ↦ inl (still ∙ sym free)
      ]
    ]
