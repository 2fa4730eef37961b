-- The positions of a start's mates are those of its partner.
use Rattle.std.proofs.Common.{◌≡◌, ◌∷◌, [], ℕ, List, Option, Some, None, inl, inr, arith, refl, ap}
use Rattle.std.specs.Prelude.{option_and_then, option_to_list}
use Rattle.mpi_call.specs.declared.call.Call.{Call}
use Rattle.run_model.specs.declared.event.Event.{Event}
use Rattle.run_model.specs.Pairs.{IsMatched, Name, name_at, named, pairs_of, partner_of}
use Rattle.run_model.specs.Run.{IsEvent, IsRun}
use Rattle.run_model.specs.Views.{Next, starts_of, view_of}
use Rattle.run_model.proofs.Along.{Along-keeps}
use Rattle.run_model.proofs.Matched.{none_matched}
use Rattle.run_model.proofs.Meeting.{event_matched}
use Rattle.run_model.proofs.StartLemmas.{slice_get-below}
use Rattle.causes.specs.Positions.{is_start_of, mates_of, position_of, positions}
use Rattle.causes.proofs.Deciding.{below_some}
use Rattle.causes.proofs.PartnerLemmas.{starts_from}
use Rattle.run_drawing.proofs.TwinStarts.{start_named}

-- no mates, or the one that the name names
abbrev pub IsPlaced : List Event → Option Name → List ℕ → Type 0
IsPlaced events None places = places ≡ []
IsPlaced events (Some name) places = (q : ℕ) × (places ≡ q ∷ []) × (name_at events q ≡ Some name)

-- of each start the mates are its partner
pub record HasMates (events : List Event) : Type 0 where
  pub matched : IsMatched events
  pub placed : (at : ℕ) (name : Name) → name_at events at ≡ Some name → IsPlaced events (partner_of (pairs_of events) name) (mates_of events at)

-- a start that is named stands somewhere
named_there : (events : List Event) (name : Name) (call : Call) → named events name ≡ Some call → (q : ℕ) × (position_of events name ≡ Some q) × (name_at events q ≡ Some name)
named_there events name call is =
    let low = slice_get-below (starts_of (view_of events name.0)) name.1 call is in
    let many = starts_from name.0 0 events in
    let found = below_some (positions (is_start_of name.0) 0 events) name.1 (omega (arith, low, many)) in
    (found.0, found.1, start_named events name.0 name.1 found.0 found.1)

partner_there : (events : List Event) (name other : Name) → IsMatched events → partner_of (pairs_of events) name ≡ Some other → (q : ℕ) × (position_of events other ≡ Some q) × (name_at events q ≡ Some other)
partner_there events name other matched paired = elim (matched.pairs_accept name other paired) [
  | inl takes ↦ named_there events other takes.send_call takes.send_is
  | inr takes ↦ named_there events other takes.post_call takes.post_is
]

partner_placed : (events : List Event) (name : Name) (partner : Option Name) → IsMatched events → partner_of (pairs_of events) name ≡ partner
    → IsPlaced events partner (option_to_list (option_and_then (position_of events) partner))
partner_placed events name None matched paired = refl
partner_placed events name (Some other) matched paired =
    let there = partner_there events name other matched paired in
    (there.0, ap option_to_list there.1, there.2)

pub matched_mates : (events : List Event) → IsMatched events → HasMates events
matched_mates events matched = record {
  matched = matched;
  placed = λ at name there. rw there (partner_placed events name (partner_of (pairs_of events) name) matched refl);
}

pub run_mates : (next : Next) (n : ℕ) (events : List Event) → IsRun next n events → HasMates events
run_mates next n events run =
    matched_mates events (Along-keeps (IsEvent next n) IsMatched (λ before event matched is. event_matched next n before event is) [] events none_matched run.along)
