-- The earliest open start that a call suits has the same name after histories that leave the same, where what the call suits is of one rank.
use Rattle.std.proofs.Common.{◌≡◌, ◌≤◌, ◌<◌, ◌==◌, ◌&&◌, ◌∙◌, ℕ, ℤ, List, Option, Some, None, Bool, true, inl, inr, is_some, refl, ap, sym, arith}
use Rattle.std.proofs.lemmas.Bool.{and_parts, cases_order, eqb-true}
use Rattle.mpi_call.specs.declared.call.Call.{Call}
use Rattle.mpi_call.specs.declared.call.Call.TheVariants.{Send, Post, Enter}
use Rattle.mpi_call.specs.declared.call.Kind.{Kind}
use Rattle.mpi_call.specs.declared.call.Op.{Op}
use Rattle.mpi_call.specs.Acceptance.{source_agrees, tag_agrees}
use Rattle.run_model.specs.declared.event.Event.{Event}
use Rattle.run_model.specs.Choice.{choice, suits}
use Rattle.run_model.specs.Pairs.{Name, name_at, named}
use Rattle.run_model.specs.Views.{View, start_at}
use Rattle.run_model.proofs.Choosing.{IsChoiceAt, IsOpenAt, choice_is_none, choice_none, choice_some}
use Rattle.run_model.proofs.Positions.{name_at-lower, name_position}
use Rattle.run_model.proofs.Views.{option_cases}
use Rattle.picked_runs.specs.Picks.{call_from, looks}
use Rattle.picked_runs.proofs.Narrowing.{suits_back}
use Rattle.run_states.specs.Futures.{SameFuture, mate_name}

pub same_back : (n : ℕ) (one other : List Event) → SameFuture n one other → SameFuture n other one
same_back n one other same = record { views = λ rank. sym (same.views rank); pairs = λ name. sym (same.pairs name); made = sym same.made }

pub same_on : (n : ℕ) (one two three : List Event) → SameFuture n one two → SameFuture n two three → SameFuture n one three
same_on n one two three p q =
    record { views = λ rank. p.views rank ∙ q.views rank; pairs = λ name. p.pairs name ∙ q.pairs name; made = p.made ∙ q.made }

-- an open start is open in the other history too
pub open_moves : (n : ℕ) (one other : List Event) → SameFuture n one other → (me : ℕ) (call : Call) (at : ℕ) (o : IsOpenAt one me call at)
    → (there : ℕ) × (p : IsOpenAt other me call there) × (p.name ≡ o.name)
open_moves n one other same me call at o =
    let made : named other o.name ≡ Some o.start = ap (λ (v : View). start_at v o.name.1) (sym (same.views o.name.0)) ∙ o.made in
    let place = name_position other o.name o.start made in
    (place.0, record { name = o.name; start = o.start; there = place.1; made = made; free = sym (same.pairs o.name) ∙ o.free; suited = o.suited }, refl)

pub none_moves : (n : ℕ) (one other : List Event) → SameFuture n one other → (me : ℕ) (call : Call) → choice one me call ≡ None → choice other me call ≡ None
none_moves n one other same me call none =
    choice_is_none other me call (λ at o. (let m = open_moves n other one (same_back n one other same) me call at o in choice_none one me call none m.0 m.1))

-- all that the call suits is of one rank
abbrev pub HasOneOwner : ℕ → Call → Type 0
HasOneOwner me call = (a b : ℕ) (x y : Call) → suits me call a x ≡ true → suits me call b y ≡ true → a ≡ b

not_before : (n : ℕ) (one other : List Event) → SameFuture n one other → (me : ℕ) (call : Call) (a b : ℕ) (p : IsChoiceAt one me call a) (q : IsChoiceAt other me call b)
    → p.chosen.name.0 ≡ q.chosen.name.0 → p.chosen.name.1 < q.chosen.name.1 → ⊥
not_before n one other same me call a b p q owner less =
    let m = open_moves n one other same me call a p.chosen in
    let at : ℕ = m.0 in
    let low : b ≤ at = q.first at m.1 in
    let there : name_at other at ≡ Some p.chosen.name = m.1.there ∙ ap (λ (x : Name). Some x) m.2 in
    let below : at < b = name_at-lower other at b p.chosen.name q.chosen.name there q.chosen.there owner less in
    omega arith

pub choice_names : (n : ℕ) (one other : List Event) → SameFuture n one other → (me : ℕ) (call : Call) → HasOneOwner me call
    → mate_name one (choice one me call) ≡ mate_name other (choice other me call)
choice_names n one other same me call owns =
    elim (option_cases (choice one me call)) [
      | inl a ↦
          let p = choice_some one me call a.0 a.1 in
          elim (option_cases (choice other me call)) [
            | inl b ↦
                let q = choice_some other me call b.0 b.1 in
                let x : Name = p.chosen.name in
                let y : Name = q.chosen.name in
                let owner : x.0 ≡ y.0 = owns x.0 y.0 p.chosen.start q.chosen.start p.chosen.suited q.chosen.suited in
                let number : x.1 ≡ y.1 = elim (cases_order x.1 y.1) [
                  | inl e ↦ e
                  | inr apart ↦ elim apart [
                    | inl less ↦ absurd (not_before n one other same me call a.0 b.0 p q owner less)
                    | inr more ↦ absurd (not_before n other one (same_back n one other same) me call b.0 a.0 q p (sym owner) more)
                  ]
                ] in
                let pair : ℕ → ℕ → Name = λ r k. (r, k) in
                let name : x ≡ y = ap (λ r. pair r x.1) owner ∙ ap (pair y.0) number in
                ap (mate_name one) a.1 ∙ (p.chosen.there ∙ (ap (λ (m : Name). Some m) name ∙ sym (ap (mate_name other) b.1 ∙ q.chosen.there)))
            | inr none ↦
                let m = open_moves n one other same me call a.0 p.chosen in
                absurd (choice_none other me call none m.0 m.1)
          ]
      | inr none ↦ ap (mate_name one) none ∙ sym (ap (mate_name other) (none_moves n one other same me call none))
    ]

-- a choice has a name
pub is_named : (before : List Event) (me : ℕ) (call : Call) → is_some (choice before me call) ≡ is_some (mate_name before (choice before me call))
is_named before me call =
    elim (option_cases (choice before me call)) [
      | inl some ↦
          let there : mate_name before (choice before me call) ≡ Some (choice_some before me call some.0 some.1).chosen.name =
          ap (mate_name before) some.1 ∙ (choice_some before me call some.0 some.1).chosen.there in
          ap is_some some.1 ∙ sym (ap is_some there)
      | inr none ↦ ap is_some none ∙ sym (ap (λ o. is_some (mate_name before o)) none)
    ]

-- a Send suits receives of its destination
send_owner : (me comm dest tag : ℕ) (ints : List ℤ) (sync : Bool) (owner : ℕ) (start : Call) → suits me (Send comm dest tag ints sync) owner start ≡ true → owner ≡ dest
send_owner me comm dest tag ints sync owner (Post c source t room) h =
    let one = and_parts (comm == c) ((dest == owner) && (source_agrees source me && tag_agrees t tag)) h in
    let two = and_parts (dest == owner) (source_agrees source me && tag_agrees t tag) one.1 in
    sym (eqb-true dest owner two.0)
send_owner me comm dest tag ints sync owner start h = absurd (cc)

pub sends_own : (me comm dest tag : ℕ) (ints : List ℤ) (sync : Bool) → HasOneOwner me (Send comm dest tag ints sync)
sends_own me comm dest tag ints sync a b x y p q = send_owner me comm dest tag ints sync a x p ∙ sym (send_owner me comm dest tag ints sync b y q)

-- an Enter suits nothing
pub enters_own : (me comm : ℕ) (kind : Kind) (root : Option ℕ) (op : Option Op) (count : ℕ) (ints : List ℤ) → HasOneOwner me (Enter comm kind root op count ints)
enters_own me comm kind root op count ints a b x y p q = absurd (cc)

-- a receive or a probe that is narrowed to a sender suits what that one sent
pub narrowed_own : (me sender : ℕ) (call : Call) → looks call ≡ true → HasOneOwner me (call_from sender call)
narrowed_own me sender call h a b x y p q = (suits_back me sender call a x h p).1 ∙ sym (suits_back me sender call b y h q).1
