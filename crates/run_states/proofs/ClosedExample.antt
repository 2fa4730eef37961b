-- A program of one rank that ends at once: two histories are closed under its moves.
use Rattle.std.proofs.Common.{◌≡◌, ◌<◌, ◌∷◌, ◌++◌, ℕ, zero, suc, List, [], Some, None, true, false, inl, inr, length, refl, slice_get, subst, arith}
use Rattle.mpi_call.specs.declared.call.Call.{Call}
use Rattle.mpi_call.specs.declared.call.Call.TheVariants.{End}
use Rattle.run_model.specs.declared.event.Event.{Event}
use Rattle.run_model.specs.Views.{Next}
use Rattle.picked_runs.specs.declared.turn.Pick.{Pick}
use Rattle.picked_runs.specs.declared.turn.Pick.TheVariants.{First, Sender, Index}
use Rattle.picked_runs.specs.Picks.{picked_event}
use Rattle.run_states.specs.Futures.{SameFuture}
use Rattle.run_states.specs.Moves.{AreClosed, IsVisited, IsMove}
use Rattle.run_states.specs.Outcomes.{IsProbeKept}

abbrev ends_at_once : Next
ends_at_once n rank replies = slice_get (End ∷ []) (length replies)

abbrev ended : List Event
ended = picked_event 1 [] 0 End First ∷ []

abbrev both : List (List Event)
both = [] ∷ ended ∷ []

itself : (events : List Event) → SameFuture 1 events events
itself events = record { views = λ rank. refl; pairs = λ name. refl; made = refl }

-- after no events the one move ends the rank
abbrev GoesOn : List Event → Type 0
GoesOn before =
    (rank : ℕ) (call : Call) (pick : Pick) → IsMove ends_at_once 1 before rank call pick → IsVisited 1 both (before ++ picked_event 1 before rank call pick ∷ [])

at_first : GoesOn []
at_first (suc rank) call pick move = (let below : suc rank < 1 = move.below in absurd (omega (arith, below)))
at_first zero call First move =
    let asked : Some End ≡ Some call = move.asked in
    let same : End ≡ call = cc in
    let F : Call → Type 0 = λ c. IsVisited 1 both (picked_event 1 [] 0 c First ∷ []) in
    let here : F End = (ended, inr (inl refl), itself ended) in
    subst F same here
at_first zero call (Sender sender) move =
    let asked : Some End ≡ Some call = move.asked in
    let same : call ≡ End = cc in
    let F : Call → Type 0 = λ c. IsMove ends_at_once 1 [] 0 c (Sender sender) in
    let there : F End = subst F same move in
    let no : false ≡ true = there.offered in
    absurd (cc)
at_first zero call (Index index) move =
    let asked : Some End ≡ Some call = move.asked in
    let same : call ≡ End = cc in
    let F : Call → Type 0 = λ c. IsMove ends_at_once 1 [] 0 c (Index index) in
    let there : F End = subst F same move in
    let no : false ≡ true = there.offered in
    absurd (cc)

-- and then there is none
at_last : GoesOn ended
at_last (suc rank) call pick move = (let below : suc rank < 1 = move.below in absurd (omega (arith, below)))
at_last zero call pick move = (let no : None ≡ Some call = move.asked in absurd (cc))

closed : AreClosed ends_at_once 1 [] IsProbeKept both
closed =
    record {
      first = ([], inl refl, itself []);
      more = λ before rank call pick there move kept. elim there [
        | inl same ↦ subst GoesOn same at_first rank call pick move
        | inr later ↦ elim later [
          | inl same ↦ subst GoesOn same at_last rank call pick move
          | inr none ↦ absurd none
        ]
      ];
    }
