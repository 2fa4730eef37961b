-- The same can be picked after histories that leave the same; and where nothing can be picked no message is there.
use Rattle.std.proofs.Common.{◌≡◌, ◌∙◌, ◌&&◌, ℕ, List, Option, None, Bool, true, false, inl, inr, is_some, not, refl, ap, sym}
use Rattle.std.proofs.lemmas.Bool.{and_from, and_parts}
use Rattle.mpi_call.specs.declared.call.Call.{Call}
use Rattle.mpi_call.specs.declared.call.Halt.{Halt}
use Rattle.mpi_call.specs.Calls.{listed_by}
use Rattle.run_model.specs.declared.event.Event.{Event}
use Rattle.run_model.specs.Allowed.{flags_of}
use Rattle.run_model.specs.Choice.{choice}
use Rattle.run_model.specs.Due.{due}
use Rattle.run_model.specs.Views.{View, moment_at, moment_of, view_of}
use Rattle.run_model.proofs.Choosing.{IsOpenAt, choice_none, choice_some}
use Rattle.run_model.proofs.Views.{option_cases, test_cases}
use Rattle.picked_runs.specs.declared.turn.Pick.{Pick}
use Rattle.picked_runs.specs.declared.turn.Pick.TheVariants.{First, Sender, Index}
use Rattle.picked_runs.specs.Picks.{call_from, completes_one, has_pick, is_offered, is_ready_at, looks, picked_choice}
use Rattle.picked_runs.proofs.Narrowing.{suits_on}
use Rattle.run_states.specs.Futures.{SameFuture, mate_name}
use Rattle.run_states.specs.Moves.{HasNoPick, IsPickSettled}
use Rattle.run_states.proofs.Alike.{Alike, due_same, flags_same}
use Rattle.run_states.proofs.Naming.{choice_names, is_named, narrowed_own}

-- with each rank's own view
pub own_due : (n : ℕ) (one other : List Event) → Alike n one other → (me : ℕ) (call : Call) → due n one me (view_of one me) call ≡ due n other me (view_of other me) call
own_due n one other a me call =
    due_same n one other a me (view_of one me) call ∙ ap (λ (v : ℕ → View). due n other me (v me) call) a.views

pub own_flags : (n : ℕ) (one other : List Event) → Alike n one other → (me : ℕ) (starts : List ℕ)
    → flags_of (moment_at n one me) starts ≡ flags_of (moment_at n other me) starts
own_flags n one other a me starts =
    flags_same n one other a me (view_of one me) starts ∙ ap (λ (v : ℕ → View). flags_of (moment_of n other me (v me)) starts) a.views

sender_same : (n : ℕ) (one other : List Event) → SameFuture n one other → (me : ℕ) (call : Call) (sender : ℕ)
    → (looks call && is_some (picked_choice one me call (Sender sender))) ≡ (looks call && is_some (picked_choice other me call (Sender sender)))
sender_same n one other same me call sender =
    elim (test_cases (looks call)) [
      | inl t ↦
          let narrowed : Call = call_from sender call in
          let names : mate_name one (choice one me narrowed) ≡ mate_name other (choice other me narrowed) = choice_names n one other same me narrowed (narrowed_own me sender call t) in
          let some : is_some (choice one me narrowed) ≡ is_some (choice other me narrowed) =
          is_named one me narrowed ∙ (ap is_some names ∙ sym (is_named other me narrowed)) in
          ap (λ (b : Bool). looks call && b) some
      | inr f ↦ rw f refl
    ]

pub offered_same : (n : ℕ) (one other : List Event) → SameFuture n one other → Alike n one other → (me : ℕ) (call : Call) (pick : Pick)
    → has_pick n one me call pick ≡ has_pick n other me call pick
offered_same n one other same a me call First = refl
offered_same n one other same a me call (Sender sender) =
    let B : Option Halt → Bool → Bool = λ o b. not (is_some o) && b in
    ap (λ o. B o (looks call && is_some (picked_choice one me call (Sender sender)))) (own_due n one other a me call)
    ∙ ap (B (due n other me (view_of other me) call)) (sender_same n one other same me call sender)
offered_same n one other same a me call (Index index) =
    let B : Option Halt → List Bool → Bool = λ o flags. not (is_some o) && (completes_one call && is_ready_at flags index) in
    ap (λ o. B o (flags_of (moment_at n one me) (listed_by call))) (own_due n one other a me call)
    ∙ ap (B (due n other me (view_of other me) call)) (own_flags n one other a me (listed_by call))

-- what is settled in one history is settled in the other
pub settled_same : (n : ℕ) (one other : List Event) → SameFuture n one other → Alike n one other → (me : ℕ) (call : Call) (pick : Pick)
    → IsPickSettled n one me call pick → IsPickSettled n other me call pick
settled_same n one other same a me call First none =
    record {
      senders = λ sender. sym (offered_same n one other same a me call (Sender sender)) ∙ none.senders sender;
      indices = λ index. sym (offered_same n one other same a me call (Index index)) ∙ none.indices index;
    }
settled_same n one other same a me call (Sender sender) settled = tt
settled_same n one other same a me call (Index index) settled = tt

-- where no sender can be picked no start is open to a receive or a probe
pub no_pick_none : (n : ℕ) (before : List Event) (me : ℕ) (call : Call) → looks call ≡ true → due n before me (view_of before me) call ≡ None
    → HasNoPick n before me call → choice before me call ≡ None
no_pick_none n before me call look none lacks =
    elim (option_cases (choice before me call)) [
      | inl some ↦
          let o = (choice_some before me call some.0 some.1).chosen in
          let sender : ℕ = o.name.0 in
          let narrowed : Call = call_from sender call in
          let there : IsOpenAt before me narrowed some.0 =
          record { name = o.name; start = o.start; there = o.there; made = o.made; free = o.free; suited = suits_on me sender call o.name.0 o.start o.suited refl } in
          elim (option_cases (choice before me narrowed)) [
            | inl found ↦
                let offered : is_offered n before me (view_of before me) call (Sender sender) ≡ true = and_from (looks call) (is_some (choice before me narrowed)) look (ap is_some found.1) in
                let can : has_pick n before me call (Sender sender) ≡ true =
                and_from (not (is_some (due n before me (view_of before me) call))) (is_offered n before me (view_of before me) call (Sender sender)) (ap (λ (o : Option Halt). not (is_some o)) none) offered in
                let absent : true ≡ false = sym can ∙ lacks.senders sender in
                absurd (cc)
            | inr free ↦ absurd (choice_none before me narrowed free some.0 there)
          ]
      | inr free ↦ free
    ]

-- what a sender that can be picked says of the call
pub sender_looks : (n : ℕ) (before : List Event) (me : ℕ) (call : Call) (sender : ℕ) → has_pick n before me call (Sender sender) ≡ true → looks call ≡ true
sender_looks n before me call sender h =
    (and_parts (looks call) (is_some (picked_choice before me call (Sender sender)))
    (and_parts (not (is_some (due n before me (view_of before me) call))) (is_offered n before me (view_of before me) call (Sender sender)) h).1).0

-- and an index
pub index_completes : (n : ℕ) (before : List Event) (me : ℕ) (call : Call) (index : ℕ) → has_pick n before me call (Index index) ≡ true → completes_one call ≡ true
index_completes n before me call index h =
    (and_parts (completes_one call) (is_ready_at (flags_of (moment_at n before me) (listed_by call)) index)
    (and_parts (not (is_some (due n before me (view_of before me) call))) (is_offered n before me (view_of before me) call (Index index)) h).1).0
