-- The pairs of a history with more events, and what pairs that meet one after the other keep.
use Rattle.std.proofs.Common.{◌≡◌, ℕ, List, [], ◌∷◌, ◌++◌, append_assoc, append-nil, sym, ◌∙◌, subst, ap, Option}
use Rattle.mpi_call.specs.declared.call.Call.{Call}
use Rattle.run_model.specs.declared.event.Event.{Event}
use Rattle.run_model.specs.Pairs.{Name, AreMatched, MeetInTurn, IsMatched, mated, named, pair_of, pairs_from, pairs_of}
use Rattle.run_model.specs.Run.{IsEvent}
use Rattle.run_model.specs.Views.{Next}

pub pairs_from-append : (before xs ys : List Event) → pairs_from before (xs ++ ys) ≡ pairs_from before xs ++ pairs_from (before ++ xs) ys
pairs_from-append before [] ys = rw append-nil
pairs_from-append before (x ∷ xs) ys =
    let P : List (Name × Name) = pair_of before x in
    let Q : List (Name × Name) = pairs_from (before ++ x ∷ []) xs in
    let rest = pairs_from-append (before ++ x ∷ []) xs ys in
    let here = append_assoc before (x ∷ []) xs in
    ap (λ l. P ++ l) (rest ∙ ap (λ h. Q ++ pairs_from h ys) here) ∙ sym (append_assoc P Q (pairs_from (before ++ x ∷ xs) ys))

pub pairs_of-push : (before : List Event) (event : Event) → pairs_of (before ++ event ∷ []) ≡ pairs_of before ++ pair_of before event
pairs_of-push before event = pairs_from-append [] before (event ∷ []) ∙ rw append-nil

-- the conditions hold after the last
pub met_last : (N : Name → Option Call) (pairs met : List (Name × Name)) → MeetInTurn N pairs met → AreMatched N (pairs ++ met)
met_last N pairs [] are = rw append-nil are
met_last N pairs (pair ∷ met) are =
    let F : List (Name × Name) → Type 0 = λ l. AreMatched N l in
    subst F (append_assoc pairs (pair ∷ []) met) (met_last N (pairs ++ pair ∷ []) met are.3)

-- after an event of a run
pub event_matched : (next : Next) (n : ℕ) (before : List Event) (event : Event) → IsEvent next n before event → IsMatched (before ++ event ∷ [])
event_matched next n before event step =
    let F : List (Name × Name) → Type 0 = λ l. AreMatched (named (before ++ event ∷ [])) l in
    let all = met_last (named (before ++ event ∷ [])) (pairs_of before ++ mated before event) event.met step.meets in
    subst F (append_assoc (pairs_of before) (mated before event) event.met ∙ sym (pairs_of-push before event)) all
