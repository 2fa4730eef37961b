-- Picks that events need, with one more event.
use Rattle.std.proofs.Common.{◌≡◌, ◌≤◌, ◌++◌, ◌∷◌, ◌∙◌, List, [], ap, append-nil, append_assoc, arith, length, refl, subst, suc, sym, ℕ}
use Rattle.run_model.specs.declared.event.Event.{Event}
use Rattle.run_model.specs.Chosen.{IsChosenEvent, order_of}
use Rattle.run_model.specs.Lists.{Along}
use Rattle.picked_runs.specs.declared.turn.Pick.{Pick}
use Rattle.picked_runs.specs.declared.turn.Pick.TheVariants.{First}
use Rattle.picked_runs.specs.declared.turn.Turn.{Turn}
use Rattle.picked_runs.specs.Turns.{turns_of}
use Rattle.picked_runs.specs.Picked.{later_picks, next_pick, picks_and}
use Rattle.mpi_machine.specs.Made.{AreNeeded, IsNeeded, IsPlain}

few_later : (count : ℕ) (picks : List Pick) → length picks ≤ suc count → length (later_picks picks) ≤ count
few_later count [] h = omega arith
few_later count (pick ∷ picks) h = omega arith

none_next : (picks : List Pick) → length picks ≤ 0 → next_pick picks ≡ First
none_next [] h = refl
none_next (pick ∷ picks) h = absurd (omega arith)

-- which picks this
pub needed_more : (n : ℕ) (before events : List Event) (picks : List Pick) (event : Event) (pick : Pick) → AreNeeded n before picks events
    → IsNeeded n (before ++ events) event pick → AreNeeded n before (picks_and picks (length events) pick) (events ++ event ∷ [])
needed_more n before [] picks event pick are new =
    let F : List Event → Type 0 = λ l. IsNeeded n l event pick in
    (subst F (append-nil before) new, tt)
needed_more n before (first ∷ events) picks event pick are new =
    let F : List Event → Type 0 = λ l. IsNeeded n l event pick in
    let moved : F ((before ++ first ∷ []) ++ events) = subst F (sym (append_assoc before (first ∷ []) events)) new in
    (are.0, needed_more n (before ++ first ∷ []) events (later_picks picks) event pick are.1 moved)

-- which picks nothing
pub needed_same : (n : ℕ) (before events : List Event) (picks : List Pick) (event : Event) → AreNeeded n before picks events → length picks ≤ length events
    → AreNeeded n before picks (events ++ event ∷ [])
needed_same n before [] picks event are few = (λ own. none_next picks few, tt)
needed_same n before (first ∷ events) picks event are few =
    (are.0, needed_same n (before ++ first ∷ []) events (later_picks picks) event are.1 (few_later (length events) picks few))

own_turns : (n : ℕ) (before events : List Event) (picks : List Pick) → AreNeeded n before picks events → Along (IsChosenEvent n) before events
    → turns_of (order_of events) picks ≡ turns_of (order_of events) []
own_turns n before [] picks are own = refl
own_turns n before (event ∷ events) picks are own =
    let F : Pick → List Turn → List Turn = λ pick turns. (record { rank = event.rank; pick = pick }) ∷ turns in
    ap (λ pick. F pick (turns_of (order_of events) (later_picks picks))) (are.0 own.0)
    ∙ ap (F First) (own_turns n (before ++ event ∷ []) events (later_picks picks) are.1 own.1)

-- the machine's own events pick nothing
pub is_plain : (n : ℕ) (picks : List Pick) (events : List Event) → AreNeeded n [] picks events → IsPlain n picks events
is_plain n picks events are = λ own. own_turns n [] events picks are own
