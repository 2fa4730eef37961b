-- What the input files of a replay, and of what is regrouped or compared, hold.
use Rattle.std.proofs.Common.{ℕ, List, [], ◌∷◌, Option, Some, None, inl, inr}
use Rattle.std.specs.Option.{option_to_list}
use Rattle.group_plan.specs.PlanText.{IsPlanText}
use Rattle.srr_entry.specs.declared.log.Log.{Log}
use Rattle.srr_log2.specs.Formats.{IsTextOfLog}
use Rattle.wiz_tool.specs.declared.failure.Failure.{Failure}
use Rattle.wiz_logs.specs.Logs.{replay_requirements}
use Rattle.wiz_tool.specs.Inputs.{Refused}
use Rattle.wiz_task.specs.Requirements.{a_comparison, a_join, a_log, a_program, a_refinement, its_program}
use Rattle.wiz_task.specs.inside.Refusals.{IsRefusedComparison, IsRefusedJoin, IsRefusedRefinement, IsUnmetIn}
use Rattle.wiz_logs.specs.inside.Replaying.{used_text}
use Rattle.wiz_tool.specs.inside.Told.{IsFailureBy}
use Rattle.wiz_task.proofs.InputLemmas.{alone_unmet, weaken}

log_first : (bytes : List ℕ) (text : Option (List ℕ)) (refused : Refused) → IsUnmetIn (a_log bytes ∷ []) refused → IsUnmetIn (replay_requirements (bytes ∷ option_to_list text)) refused
log_first bytes None refused (inl here, none) = (inl here, none)
log_first bytes None refused (inr later, none) = absurd later.1
log_first bytes (Some text) refused (inl here, none) = (inl here, none)
log_first bytes (Some text) refused (inr later, none) = absurd later.1

pub log_unmet : (bytes : List ℕ) (text : Option (List ℕ)) (failure : Failure) → IsFailureBy (IsUnmetIn (a_log bytes ∷ [])) failure
    → IsFailureBy (IsUnmetIn (replay_requirements (bytes ∷ option_to_list text))) failure
log_unmet bytes text = weaken (IsUnmetIn (a_log bytes ∷ [])) (IsUnmetIn (replay_requirements (bytes ∷ option_to_list text))) (log_first bytes text)

used_first : (bytes : List ℕ) (log : Log) (text : Option (List ℕ)) → IsTextOfLog bytes log → (refused : Refused) → IsUnmetIn (a_program (used_text log text) ∷ []) refused
    → IsUnmetIn (replay_requirements (bytes ∷ option_to_list text)) refused
used_first bytes log None is refused (inl here, none) = (inr ((log, is), inl (log, is, here)), none)
used_first bytes log None is refused (inr later, none) = absurd later.1
used_first bytes log (Some text) is refused (inl here, none) = (inr ((log, is), inl here), none)
used_first bytes log (Some text) is refused (inr later, none) = absurd later.1

pub used_unmet : (bytes : List ℕ) (log : Log) (text : Option (List ℕ)) (failure : Failure) → IsTextOfLog bytes log → IsFailureBy (IsUnmetIn (a_program (used_text log text) ∷ [])) failure
    → IsFailureBy (IsUnmetIn (replay_requirements (bytes ∷ option_to_list text))) failure
used_unmet bytes log text failure is =
    weaken (IsUnmetIn (a_program (used_text log text) ∷ [])) (IsUnmetIn (replay_requirements (bytes ∷ option_to_list text))) (used_first bytes log text is) failure

pub own_unmet : (bytes : List ℕ) (log : Log) (failure : Failure) → IsTextOfLog bytes log → IsFailureBy (IsUnmetIn (a_program log.program ∷ [])) failure
    → IsFailureBy (IsUnmetIn (its_program bytes ∷ [])) failure
own_unmet bytes log failure is_log is =
    weaken (IsUnmetIn (a_program log.program ∷ [])) (IsUnmetIn (its_program bytes ∷ []))
    (λ refused of. (inl (log, is_log, alone_unmet (a_program log.program) refused.refusal of.0), of.1)) failure is

pub refinement_unmet : (bytes plan : List ℕ) (log : Log) (groups : List (List ℕ)) (failure : Failure) → IsTextOfLog bytes log → IsPlanText plan groups
    → IsFailureBy (IsRefusedRefinement log groups) failure → IsFailureBy (IsUnmetIn (a_refinement bytes plan ∷ [])) failure
refinement_unmet bytes plan log groups failure is_log is_plan is =
    weaken (IsRefusedRefinement log groups) (IsUnmetIn (a_refinement bytes plan ∷ []))
    (λ refused of. (inl (log, groups, is_log, is_plan, of.0), of.1)) failure is

pub join_unmet : (bytes others : List ℕ) (one other : Log) (failure : Failure) → IsTextOfLog bytes one → IsTextOfLog others other
    → IsFailureBy (IsRefusedJoin one other) failure → IsFailureBy (IsUnmetIn (a_join bytes others ∷ [])) failure
join_unmet bytes others one other failure is_one is_other is =
    weaken (IsRefusedJoin one other) (IsUnmetIn (a_join bytes others ∷ []))
    (λ refused of. (inl (one, other, is_one, is_other, of.0), of.1)) failure is

pub comparison_unmet : (bytes others : List ℕ) (one other : Log) (failure : Failure) → IsTextOfLog bytes one → IsTextOfLog others other
    → IsFailureBy (IsRefusedComparison one other) failure → IsFailureBy (IsUnmetIn (a_comparison bytes others ∷ [])) failure
comparison_unmet bytes others one other failure is_one is_other is =
    weaken (IsRefusedComparison one other) (IsUnmetIn (a_comparison bytes others ∷ []))
    (λ refused of. (inl (one, other, is_one, is_other, of.0), of.1)) failure is
