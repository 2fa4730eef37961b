-- The views of longer histories.
use Rattle.std.proofs.Common.{◌++◌, ◌==◌, ◌∙◌, ◌∷◌, ◌≡◌, ◌≤◌, ◌⊎◌, Bool, List, None, Option, Some, [], append-nil, arith, false, inl, inr, length, refl, true, ℕ}
use Rattle.std.proofs.lemmas.Bool.{eq-eqb}
use Rattle.run_model.specs.declared.event.Event.{Event}
use Rattle.run_model.specs.Views.{view_of}

pub test_cases : (b : Bool) → (b ≡ true) ⊎ (b ≡ false)
test_cases true = inl refl
test_cases false = inr refl

pub view_of-append : (xs ys : List Event) (rank : ℕ) → view_of (xs ++ ys) rank ≡ view_of xs rank ++ view_of ys rank
view_of-append [] ys rank = refl
view_of-append (x ∷ xs) ys rank =
    elim (test_cases (x.rank == rank)) [
      | inl h ↦ rw (h, view_of-append xs ys rank)
      | inr h ↦ rw (h, view_of-append xs ys rank)
    ]

-- one more event of the rank, and of another
pub view_of-own : (events : List Event) (event : Event) → view_of (events ++ event ∷ []) event.rank ≡ view_of events event.rank ++ (event.call, event.reply) ∷ []
view_of-own events event =
    let h : (event.rank == event.rank) ≡ true = eq-eqb event.rank event.rank refl in
    view_of-append events (event ∷ []) event.rank ∙ rw h refl

pub view_of-other : (events : List Event) (event : Event) (rank : ℕ) → (event.rank == rank) ≡ false → view_of (events ++ event ∷ []) rank ≡ view_of events rank
view_of-other events event rank h = view_of-append events (event ∷ []) rank ∙ rw (h, append-nil) refl

-- a rank has no more calls than there are events
pub length-view_of : (events : List Event) (rank : ℕ) → length (view_of events rank) ≤ length events
length-view_of [] rank = omega arith
length-view_of (event ∷ events) rank =
    elim (test_cases (event.rank == rank)) [
      | inl h ↦ rw h (let rest = length-view_of events rank in omega (arith, rest))
      | inr h ↦ rw h (let rest = length-view_of events rank in omega (arith, rest))
    ]

-- one more event of a rank that is given apart
pub view_of-mine : (before : List Event) (event : Event) (rank : ℕ) → event.rank ≡ rank → view_of (before ++ event ∷ []) rank ≡ view_of before rank ++ (event.call, event.reply) ∷ []
view_of-mine before event rank same =
    let t : (event.rank == rank) ≡ true = eq-eqb event.rank rank same in
    rw (view_of-append before (event ∷ []) rank, t)

pub option_cases : {A : Type 0} (o : Option A) → ((x : A) × (o ≡ Some x)) ⊎ (o ≡ None)
option_cases (Some x) = inl (x, refl)
option_cases None = inr refl
