-- Pairs meet their conditions after a start that takes the earliest open start which suits it, or none where there is none.
use Rattle.std.proofs.Common.{◌≡◌, ◌<◌, ◌≤◌, ◌∙◌, ◌++◌, ◌∷◌, ℕ, List, [], Option, Some, None, true, append-nil, inl, inr, is_some, refl, ap, sym, subst, arith}
use Rattle.std.proofs.lemmas.Bool.{and_parts}
use Rattle.mpi_call.specs.declared.call.Call.{Call}
use Rattle.mpi_call.specs.Calls.{is_starting}
use Rattle.run_model.specs.declared.event.Event.{Event}
use Rattle.run_model.specs.Choice.{choice, suits}
use Rattle.run_model.specs.Pairs.{AreAllMatched, IsAllMatched, Name, name_at, named, pair_with, pairs_of, partner_of}
use Rattle.run_model.specs.Views.{is_done, is_start}
use Rattle.run_model.proofs.Choosing.{IsChoiceAt, IsOpenAt, choice_none, choice_some}
use Rattle.run_model.proofs.Positions.{name_at-lower, name_position, new_name}
use Rattle.run_model.proofs.Views.{option_cases}
use Rattle.picked_runs.proofs.Grown.{Grows-event, named-new, pairs_of-push}
use Rattle.picked_runs.proofs.Pairing.{AreMatched-alone, AreMatched-paired}
use Rattle.run_states.specs.Futures.{mate_name}
use Rattle.quiet_calls.proofs.Swapping.{pair_is}
use Rattle.quiet_calls.proofs.Fitting.{meet_suits, met, never_itself, suits_meet}

-- an open start that the event's call suits is open to it
open_at : (before : List Event) (me : ℕ) (call : Call) (name : Name) (start : Call) → named before name ≡ Some start → partner_of (pairs_of before) name ≡ None
    → suits me call name.0 start ≡ true → (at : ℕ) × (o : IsOpenAt before me call at) × (o.name ≡ name)
open_at before me call name start made free suited =
    let place = name_position before name start made in
    (place.0, record { name = name; start = start; there = place.1; made = made; free = free; suited = suited }, refl)

alone_matched : (before : List Event) (event : Event) → IsAllMatched before → is_start (event.call, event.reply) ≡ true → event.mate ≡ None → event.met ≡ []
    → choice before event.rank event.call ≡ None → IsAllMatched (before ++ event ∷ [])
alone_matched before event matched starts mate none_met none =
    let M : Name → Option Call = named (before ++ event ∷ []) in
    let P : List (Name × Name) = pairs_of before in
    let new : Name = new_name before event in
    let grows = Grows-event before event starts in
    let at = named-new before event starts in
    let F : List (Name × Name) → Type 0 = λ l. AreAllMatched M l in
    let pairs : pairs_of (before ++ event ∷ []) ≡ P =
    pairs_of-push before event ∙ (ap (λ l. P ++ l) (pair_is before event none_met ∙ ap (λ m. pair_with (mate_name before m) new) mate) ∙ append-nil P) in
    subst F (sym pairs) (AreMatched-alone (named before) M P new matched grows (λ other takes free.
    let c = met M other new takes in
    elim (grows.back other c.0 c.1) [
      | inl e ↦ never_itself M other new e takes
      | inr there ↦
          let suited : suits event.rank event.call other.0 c.0 ≡ true = meet_suits M other new c.0 event.call c.1 at takes in
          let o = open_at before event.rank event.call other c.0 there free suited in
          choice_none before event.rank event.call none o.0 o.1
    ]))

paired_matched : (before : List Event) (event : Event) (at : ℕ) → IsAllMatched before → is_start (event.call, event.reply) ≡ true → event.mate ≡ Some at → event.met ≡ []
    → IsChoiceAt before event.rank event.call at → IsAllMatched (before ++ event ∷ [])
paired_matched before event at matched starts mate none_met c =
    let N : Name → Option Call = named before in
    let M : Name → Option Call = named (before ++ event ∷ []) in
    let P : List (Name × Name) = pairs_of before in
    let new : Name = new_name before event in
    let o = c.chosen in
    let old : Name = o.name in
    let starting : is_starting event.call ≡ true = (and_parts (is_starting event.call) (is_done event.reply) starts).0 in
    let grows = Grows-event before event starts in
    let new_at = named-new before event starts in
    let F : List (Name × Name) → Type 0 = λ l. AreAllMatched M l in
    let one : mate_name before event.mate ≡ Some old = ap (mate_name before) mate ∙ o.there in
    let pairs : pairs_of (before ++ event ∷ []) ≡ P ++ (old, new) ∷ [] =
    pairs_of-push before event ∙ ap (λ l. P ++ l) (pair_is before event none_met ∙ ap (λ m. pair_with m new) one) in
    subst F (sym pairs) (AreMatched-paired N M P old new matched grows (record {
      call = o.start;
      there = o.made;
      free = o.free;
      fit = suits_meet M old new o.start event.call starting (grows.kept old o.start o.made) new_at o.suited;
      first = λ number less takes. elim (option_cases (partner_of P (old.0, number))) [
        | inl some ↦ ap is_some some.1
        | inr none ↦
            let lower = grows.lower old o.start number o.made less in
            let suited : suits event.rank event.call old.0 lower.0 ≡ true =
            meet_suits M (old.0, number) new lower.0 event.call (grows.kept (old.0, number) lower.0 lower.1) new_at takes in
            let found = open_at before event.rank event.call (old.0, number) lower.0 lower.1 none suited in
            let low : at ≤ found.0 = c.first found.0 found.1 in
            let there : name_at before found.0 ≡ Some (old.0, number) = found.1.there ∙ ap (λ (x : Name). Some x) found.2 in
            let below : found.0 < at = name_at-lower before found.0 at (old.0, number) old there o.there refl less in
            absurd (omega arith)
      ];
    }))

pub matched_chosen : (before : List Event) (event : Event) → IsAllMatched before → is_start (event.call, event.reply) ≡ true
    → event.mate ≡ choice before event.rank event.call → event.met ≡ [] → IsAllMatched (before ++ event ∷ [])
matched_chosen before event matched starts mate none_met =
    elim (option_cases (choice before event.rank event.call)) [
      | inl some ↦ paired_matched before event some.0 matched starts (mate ∙ some.1) none_met (choice_some before event.rank event.call some.0 some.1)
      | inr none ↦ alone_matched before event matched starts (mate ∙ none) none_met none
    ]
