-- A requirement is never met and unmet.
use Rattle.std.proofs.Common.{◌≡◌, ◌∙◌, sym, true, false, ℕ, List, [], ◌∷◌, inl, inr}
use Rattle.c_program.specs.Tree.{Program}
use Rattle.c_lex.specs.declared.fault.SourceFault.{SourceFault}
use Rattle.c_types.specs.Checks.{IsFaultOf, IsProgramOf}
use Rattle.picked_runs.specs.declared.turn.Turn.{Turn}
use Rattle.group_plan.specs.OneReading.{OrdersHaveOneReading, PlansHaveOneReading}
use Rattle.group_plan.specs.OrderText.{IsOrderText}
use Rattle.group_plan.specs.Plans.{number_of_ranks}
use Rattle.group_plan.specs.PlanText.{IsPlanText}
use Rattle.srr_entry.specs.declared.log.Log.{Log}
use Rattle.srr_log2.specs.Formats.{IsTextOfLog, LogsHaveOneReading}
use Rattle.srr_regroup.specs.declared.join_fault.JoinFault.{JoinFault}
use Rattle.srr_regroup.specs.declared.join_fault.JoinFault.TheVariants.{Ranks as LogRanks, Programs, Shared}
use Rattle.srr_regroup.specs.declared.refine_fault.RefineFault.{RefineFault}
use Rattle.srr_regroup.specs.declared.refine_fault.RefineFault.TheVariants.{Ranks as PlanRanks, Crosses}
use Rattle.srr_regroup.specs.Joining.{CanJoin, IsJoinFault}
use Rattle.srr_regroup.specs.Refining.{CanRefine, IsRefineFault, crosses}
use Rattle.mpi_call.specs.Collectives.{is_member}
use Rattle.wiz_tool.specs.declared.refusal.Refusal.{Refusal}
use Rattle.wiz_tool.specs.declared.refusal.Refusal.TheVariants.{Words, Missing, ReadFault, Program as BadProgram, Plan as BadPlan, Order as BadOrder, Log as BadLog, TooLong, Refine as BadRefine, Join as BadJoin, Compare as BadCompare}
use Rattle.view_diff.specs.declared.compare_fault.CompareFault.{CompareFault}
use Rattle.view_diff.specs.declared.compare_fault.CompareFault.TheVariants as compare
use Rattle.view_diff.specs.Comparing.{CanCompare, IsCompareFault}
use Rattle.wiz_task.specs.Requirements.{AreMet, IsCompareRefusal, IsFirstUnmet, IsJoinRefusal, IsLogRefusal, IsMet, IsOrderRefusal, IsPlanRefusal, IsProgramRefusal, IsRefineRefusal, IsUnmetBy, Requirement, a_comparison, a_join, a_log, a_plan, a_program, a_refinement, an_order, its_program}

-- a text with a program has no fault
abbrev pub ProgramsHaveNoFault : Type 0
ProgramsHaveNoFault = (text : List ℕ) (program : Program) (fault : SourceFault) → IsProgramOf text program → IsFaultOf text fault → ⊥

program_apart : ProgramsHaveNoFault → (text : List ℕ) (program : Program) (refusal : Refusal) → IsProgramOf text program → IsProgramRefusal text refusal → ⊥
program_apart programs text program Words is unmet = unmet
program_apart programs text program Missing is unmet = unmet
program_apart programs text program ReadFault is unmet = unmet
program_apart programs text program (BadProgram fault) is unmet = programs text program fault is unmet
program_apart programs text program (BadPlan fault) is unmet = unmet
program_apart programs text program (BadOrder fault) is unmet = unmet
program_apart programs text program (BadLog fault) is unmet = unmet
program_apart programs text program TooLong is unmet = unmet
program_apart programs text program (BadRefine fault) is unmet = unmet
program_apart programs text program (BadJoin fault) is unmet = unmet
program_apart programs text program (BadCompare fault) is unmet = unmet

plan_apart : PlansHaveOneReading → (text : List ℕ) (groups : List (List ℕ)) (refusal : Refusal) → IsPlanText text groups → IsPlanRefusal text refusal → ⊥
plan_apart plans text groups Words is unmet = unmet
plan_apart plans text groups Missing is unmet = unmet
plan_apart plans text groups ReadFault is unmet = unmet
plan_apart plans text groups (BadProgram fault) is unmet = unmet
plan_apart plans text groups (BadPlan fault) is unmet = plans.never_both text groups fault is unmet
plan_apart plans text groups (BadOrder fault) is unmet = unmet
plan_apart plans text groups (BadLog fault) is unmet = unmet
plan_apart plans text groups TooLong is unmet = unmet
plan_apart plans text groups (BadRefine fault) is unmet = unmet
plan_apart plans text groups (BadJoin fault) is unmet = unmet
plan_apart plans text groups (BadCompare fault) is unmet = unmet

order_apart : (n : ℕ) → OrdersHaveOneReading n → (text : List ℕ) (turns : List Turn) (refusal : Refusal) → IsOrderText n text turns → IsOrderRefusal n text refusal → ⊥
order_apart n orders text turns Words is unmet = unmet
order_apart n orders text turns Missing is unmet = unmet
order_apart n orders text turns ReadFault is unmet = unmet
order_apart n orders text turns (BadProgram fault) is unmet = unmet
order_apart n orders text turns (BadPlan fault) is unmet = unmet
order_apart n orders text turns (BadOrder fault) is unmet = orders.never_both text turns fault is unmet
order_apart n orders text turns (BadLog fault) is unmet = unmet
order_apart n orders text turns TooLong is unmet = unmet
order_apart n orders text turns (BadRefine fault) is unmet = unmet
order_apart n orders text turns (BadJoin fault) is unmet = unmet
order_apart n orders text turns (BadCompare fault) is unmet = unmet

log_apart : LogsHaveOneReading → (bytes : List ℕ) (log : Log) (refusal : Refusal) → IsTextOfLog bytes log → IsLogRefusal bytes refusal → ⊥
log_apart logs bytes log Words is unmet = unmet
log_apart logs bytes log Missing is unmet = unmet
log_apart logs bytes log ReadFault is unmet = unmet
log_apart logs bytes log (BadProgram fault) is unmet = unmet
log_apart logs bytes log (BadPlan fault) is unmet = unmet
log_apart logs bytes log (BadOrder fault) is unmet = unmet
log_apart logs bytes log (BadLog fault) is unmet = logs.never_both bytes log fault is unmet
log_apart logs bytes log TooLong is unmet = unmet
log_apart logs bytes log (BadRefine fault) is unmet = unmet
log_apart logs bytes log (BadJoin fault) is unmet = unmet
log_apart logs bytes log (BadCompare fault) is unmet = unmet

never : {X : Type 0} → true ≡ false → X
never h = absurd (cc)

refine_fault_apart : (log : Log) (groups : List (List ℕ)) (fault : RefineFault) → CanRefine log groups → IsRefineFault log groups fault → ⊥
refine_fault_apart log groups (PlanRanks plan ranks) can is = is.2 (is.0 ∙ can.0 ∙ sym is.1)
refine_fault_apart log groups (Crosses number) can is =
    let at = is.1 in
    let out : crosses log.group _ ≡ false = can.1 number [] at.within in
    never (sym at.here ∙ out)

refine_apart : (log : Log) (groups : List (List ℕ)) (refusal : Refusal) → CanRefine log groups → IsRefineRefusal log groups refusal → ⊥
refine_apart log groups Words can unmet = unmet
refine_apart log groups Missing can unmet = unmet
refine_apart log groups ReadFault can unmet = unmet
refine_apart log groups (BadProgram fault) can unmet = unmet
refine_apart log groups (BadPlan fault) can unmet = unmet
refine_apart log groups (BadOrder fault) can unmet = unmet
refine_apart log groups (BadLog fault) can unmet = unmet
refine_apart log groups TooLong can unmet = unmet
refine_apart log groups (BadRefine fault) can unmet = refine_fault_apart log groups fault can unmet
refine_apart log groups (BadJoin fault) can unmet = unmet
refine_apart log groups (BadCompare fault) can unmet = unmet

join_fault_apart : (one other : Log) (fault : JoinFault) → CanJoin one other → IsJoinFault one other fault → ⊥
join_fault_apart one other (LogRanks first second) can is = is.2 can.0.0
join_fault_apart one other Programs can is = is.1 can.0.1
join_fault_apart one other (Shared rank) can is =
    let at = is.1 in
    let out : is_member other.group rank ≡ false = can.1 rank at.first in
    never (sym at.second ∙ out)

join_apart : (one other : Log) (refusal : Refusal) → CanJoin one other → IsJoinRefusal one other refusal → ⊥
join_apart one other Words can unmet = unmet
join_apart one other Missing can unmet = unmet
join_apart one other ReadFault can unmet = unmet
join_apart one other (BadProgram fault) can unmet = unmet
join_apart one other (BadPlan fault) can unmet = unmet
join_apart one other (BadOrder fault) can unmet = unmet
join_apart one other (BadLog fault) can unmet = unmet
join_apart one other TooLong can unmet = unmet
join_apart one other (BadRefine fault) can unmet = unmet
join_apart one other (BadJoin fault) can unmet = join_fault_apart one other fault can unmet
join_apart one other (BadCompare fault) can unmet = unmet

compare_fault_apart : (one other : Log) (fault : CompareFault) → CanCompare one other → IsCompareFault one other fault → ⊥
compare_fault_apart one other (compare.Ranks first second) can is = is.2 (sym can.ranks)
compare_fault_apart one other compare.Groups can is = is.1 (sym can.group)
compare_fault_apart one other compare.Programs can is = is.2 (sym can.program)

compare_apart : (one other : Log) (refusal : Refusal) → CanCompare one other → IsCompareRefusal one other refusal → ⊥
compare_apart one other Words can unmet = unmet
compare_apart one other Missing can unmet = unmet
compare_apart one other ReadFault can unmet = unmet
compare_apart one other (BadProgram fault) can unmet = unmet
compare_apart one other (BadPlan fault) can unmet = unmet
compare_apart one other (BadOrder fault) can unmet = unmet
compare_apart one other (BadLog fault) can unmet = unmet
compare_apart one other TooLong can unmet = unmet
compare_apart one other (BadRefine fault) can unmet = unmet
compare_apart one other (BadJoin fault) can unmet = unmet
compare_apart one other (BadCompare fault) can unmet = compare_fault_apart one other fault can unmet

met_or_unmet : ProgramsHaveNoFault → PlansHaveOneReading → ((n : ℕ) → OrdersHaveOneReading n) → LogsHaveOneReading → (requirement : Requirement) (refusal : Refusal) → IsMet requirement → IsUnmetBy requirement refusal → ⊥
met_or_unmet programs plans orders logs (a_program text) refusal met unmet = program_apart programs text met.0 refusal met.1 unmet
met_or_unmet programs plans orders logs (a_plan text) refusal met unmet = plan_apart plans text met.0 refusal met.1 unmet
met_or_unmet programs plans orders logs (an_order plan text) refusal met unmet =
    let same = plans.one_value plan met.0 unmet.0 met.2 unmet.1 in
    order_apart (number_of_ranks unmet.0) (orders (number_of_ranks unmet.0)) text met.1 refusal (rw same at met.3) unmet.2
met_or_unmet programs plans orders logs (a_log bytes) refusal met unmet = log_apart logs bytes met.0 refusal met.1 unmet
met_or_unmet programs plans orders logs (its_program bytes) refusal met unmet =
    let same = logs.one_value bytes met.0 unmet.0 met.2 unmet.1 in
    program_apart programs unmet.0.program met.1 refusal (rw same at met.3) unmet.2
met_or_unmet programs plans orders logs (a_refinement bytes plan) refusal met unmet =
    let same = logs.one_value bytes met.0 unmet.0 met.2 unmet.2 in
    let same_groups = plans.one_value plan met.1 unmet.1 met.3 unmet.3 in
    refine_apart unmet.0 unmet.1 refusal (rw (same, same_groups) at met.4) unmet.4
met_or_unmet programs plans orders logs (a_join bytes others) refusal met unmet =
    let same = logs.one_value bytes met.0 unmet.0 met.2 unmet.2 in
    let same_other = logs.one_value others met.1 unmet.1 met.3 unmet.3 in
    join_apart unmet.0 unmet.1 refusal (rw (same, same_other) at met.4) unmet.4
met_or_unmet programs plans orders logs (a_comparison bytes others) refusal met unmet =
    let same = logs.one_value bytes met.0 unmet.0 met.2 unmet.2 in
    let same_other = logs.one_value others met.1 unmet.1 met.3 unmet.3 in
    compare_apart unmet.0 unmet.1 refusal (rw (same, same_other) at met.4) unmet.4

-- so requirements that are met are not refused
pub none_unmet : ProgramsHaveNoFault → PlansHaveOneReading → ((n : ℕ) → OrdersHaveOneReading n) → LogsHaveOneReading → (requirements : List Requirement) (refusal : Refusal) → AreMet requirements → IsFirstUnmet requirements refusal → ⊥
none_unmet programs plans orders logs [] refusal met unmet = unmet
none_unmet programs plans orders logs (requirement ∷ requirements) refusal met unmet = elim unmet [
  | inl here ↦ met_or_unmet programs plans orders logs requirement refusal met.0 here
  | inr later ↦ none_unmet programs plans orders logs requirements refusal met.1 later.1
]
