-- What the input files of a run hold.
use Rattle.std.proofs.Common.{◌≡◌, ◌<◌, ℕ, List, [], ◌∷◌, Option, Some, None, All, inl, inr, refl}
use Rattle.std.specs.Option.{option_to_list}
use Rattle.std.specs.List.{AllZip}
use Rattle.std.proofs.lemmas.List.Elements.{All-cons, All-nil}
use Rattle.c_program.specs.Tree.{Program}
use Rattle.c_types.specs.Checks.{IsProgramOf}
use Rattle.group_plan.specs.OrderText.{IsTurnLine}
use Rattle.group_plan.specs.Plans.{number_of_ranks}
use Rattle.group_plan.specs.PlanText.{IsPlanText}
use Rattle.picked_runs.specs.declared.turn.Turn.{Turn}
use Rattle.picked_runs.specs.Turns.{IsPickOf}
use Rattle.wiz_tool.specs.declared.failure.Failure.{Failure}
use Rattle.wiz_runs.specs.Runs.{run_requirements, run_texts}
use Rattle.wiz_tool.specs.Inputs.{Refused}
use Rattle.wiz_task.specs.Recordings.{AreTurns}
use Rattle.wiz_task.specs.Requirements.{a_plan}
use Rattle.wiz_task.specs.inside.Refusals.{AreRefusedTurns, IsUnmetIn}
use Rattle.wiz_tool.specs.inside.Told.{IsFailureBy}
use Rattle.wiz_task.proofs.InputLemmas.{weaken}

pub run_texts_are : (text plan : List ℕ) (order : Option (List ℕ)) → run_texts (text ∷ plan ∷ option_to_list order) ≡ record { program = text; plan = plan; order = order }
run_texts_are text plan None = refl
run_texts_are text plan (Some order) = refl

plan_first : (text plan : List ℕ) (order : Option (List ℕ)) (program : Program) → IsProgramOf text program → (refused : Refused) → IsUnmetIn (a_plan plan ∷ []) refused
    → IsUnmetIn (run_requirements (text ∷ plan ∷ option_to_list order)) refused
plan_first text plan None program is refused (inl here, none) = (inr ((program, is), inl here), none)
plan_first text plan None program is refused (inr later, none) = absurd later.1
plan_first text plan (Some order) program is refused (inl here, none) = (inr ((program, is), inl here), none)
plan_first text plan (Some order) program is refused (inr later, none) = absurd later.1

pub plan_unmet : (text plan : List ℕ) (order : Option (List ℕ)) (program : Program) (failure : Failure) → IsProgramOf text program → IsFailureBy (IsUnmetIn (a_plan plan ∷ [])) failure
    → IsFailureBy (IsUnmetIn (run_requirements (text ∷ plan ∷ option_to_list order))) failure
plan_unmet text plan order program failure is =
    weaken (IsUnmetIn (a_plan plan ∷ [])) (IsUnmetIn (run_requirements (text ∷ plan ∷ option_to_list order))) (plan_first text plan order program is) failure

order_first : (text plan : List ℕ) (order : Option (List ℕ)) (program : Program) (groups : List (List ℕ)) → IsProgramOf text program → IsPlanText plan groups
    → (refused : Refused) → AreRefusedTurns (number_of_ranks groups) order refused → IsUnmetIn (run_requirements (text ∷ plan ∷ option_to_list order)) refused
order_first text plan None program groups is is_plan refused none = absurd none
order_first text plan (Some order) program groups is is_plan refused (refusal, none) =
    (inr ((program, is), inr ((groups, is_plan), inl (groups, is_plan, refusal))), none)

pub order_unmet : (text plan : List ℕ) (order : Option (List ℕ)) (program : Program) (groups : List (List ℕ)) (failure : Failure) → IsProgramOf text program → IsPlanText plan groups
    → IsFailureBy (AreRefusedTurns (number_of_ranks groups) order) failure → IsFailureBy (IsUnmetIn (run_requirements (text ∷ plan ∷ option_to_list order))) failure
order_unmet text plan order program groups failure is is_plan =
    weaken (AreRefusedTurns (number_of_ranks groups) order) (IsUnmetIn (run_requirements (text ∷ plan ∷ option_to_list order))) (order_first text plan order program groups is is_plan) failure

zip_below : (n : ℕ) (lines : List (List ℕ)) (turns : List Turn) → AllZip (IsTurnLine n) lines turns → All (λ (turn : Turn). turn.rank < n) turns
zip_below n [] [] all = All-nil (λ (turn : Turn). turn.rank < n)
zip_below n [] (turn ∷ turns) all = absurd all
zip_below n (line ∷ lines) [] all = absurd all
zip_below n (line ∷ lines) (turn ∷ turns) all = All-cons (λ (turn : Turn). turn.rank < n) turn turns all.0.1.0 (zip_below n lines turns all.1)

pub turns_below : (n : ℕ) (order : Option (List ℕ)) (turns : List Turn) → AreTurns n order turns → All (λ (turn : Turn). turn.rank < n) turns
turns_below n None turns are = rw are (All-nil (λ (turn : Turn). turn.rank < n))
turns_below n (Some text) turns are = zip_below n _ turns are

zip_picks : (n : ℕ) (lines : List (List ℕ)) (turns : List Turn) → AllZip (IsTurnLine n) lines turns → All (λ (turn : Turn). IsPickOf n turn.pick) turns
zip_picks n [] [] all = All-nil (λ (turn : Turn). IsPickOf n turn.pick)
zip_picks n [] (turn ∷ turns) all = absurd all
zip_picks n (line ∷ lines) [] all = absurd all
zip_picks n (line ∷ lines) (turn ∷ turns) all = All-cons (λ (turn : Turn). IsPickOf n turn.pick) turn turns all.0.1.1 (zip_picks n lines turns all.1)

pub picks_below : (n : ℕ) (order : Option (List ℕ)) (turns : List Turn) → AreTurns n order turns → All (λ (turn : Turn). IsPickOf n turn.pick) turns
picks_below n None turns are = rw are (All-nil (λ (turn : Turn). IsPickOf n turn.pick))
picks_below n (Some text) turns are = zip_picks n _ turns are
