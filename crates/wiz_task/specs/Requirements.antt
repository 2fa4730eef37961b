-- What is required of the texts of input files, in order.
use Rattle.std.specs.Prelude.{◌⊎◌, ℕ, List, [], ◌∷◌}
use Rattle.clap.specs.Words.{Text}
use Rattle.c_program.specs.Tree.{Program as TypedProgram}
use Rattle.c_types.specs.Checks.{IsFaultOf, IsProgramOf}
use Rattle.group_plan.specs.OrderText.{IsOrderText, IsFault as IsOrderFault}
use Rattle.picked_runs.specs.declared.turn.Turn.{Turn}
use Rattle.group_plan.specs.Plans.{number_of_ranks}
use Rattle.group_plan.specs.PlanText.{IsPlanText, IsFault as IsPlanFault}
use Rattle.srr_entry.specs.declared.log.Log.{Log}
use Rattle.srr_log2.specs.Formats.{IsFaultOfLog, IsTextOfLog}
use Rattle.srr_regroup.specs.Joining.{CanJoin, IsJoinFault}
use Rattle.view_diff.specs.Comparing.{CanCompare, IsCompareFault}
use Rattle.srr_regroup.specs.Refining.{CanRefine, IsRefineFault}
use Rattle.wiz_tool.specs.declared.refusal.Refusal.{Refusal}
use Rattle.wiz_tool.specs.declared.refusal.Refusal.TheVariants.{Program, Plan as BadPlan, Order as BadOrder, Log as BadLog, Refine as BadRefine, Join as BadJoin, Compare as BadCompare}
use Rattle.wiz_task.specs.Names.{Plan}

-- that a text is a program, or a plan; that it is an order of a plan's ranks; that bytes are a log in either format, and the text in a
-- log a program; that a log can be refined by a plan, or joined or compared with another log
pub data Requirement : Type 0 where
  a_program : Text → Requirement
  a_plan : Text → Requirement
  an_order : Text → Text → Requirement
  a_log : List ℕ → Requirement
  its_program : List ℕ → Requirement
  a_refinement : List ℕ → Text → Requirement
  a_join : List ℕ → List ℕ → Requirement
  a_comparison : List ℕ → List ℕ → Requirement

-- a requirement that its texts meet
abbrev pub IsMet : Requirement → Type 0
IsMet (a_program text) = (program : TypedProgram) × IsProgramOf text program
IsMet (a_plan text) = (groups : Plan) × IsPlanText text groups
IsMet (an_order plan text) =
    (groups : Plan) × (turns : List Turn) × IsPlanText plan groups × IsOrderText (number_of_ranks groups) text turns
IsMet (a_log bytes) = (log : Log) × IsTextOfLog bytes log
IsMet (its_program bytes) = (log : Log) × (program : TypedProgram) × IsTextOfLog bytes log × IsProgramOf log.program program
IsMet (a_refinement bytes plan) = (log : Log) × (groups : Plan) × IsTextOfLog bytes log × IsPlanText plan groups × CanRefine log groups
IsMet (a_join bytes others) = (one : Log) × (other : Log) × IsTextOfLog bytes one × IsTextOfLog others other × CanJoin one other
IsMet (a_comparison bytes others) = (one : Log) × (other : Log) × IsTextOfLog bytes one × IsTextOfLog others other × CanCompare one other

-- the first fault of a program's text
abbrev pub IsProgramRefusal : Text → Refusal → Type 0
IsProgramRefusal text (Program fault) = IsFaultOf text fault
IsProgramRefusal text refusal = ⊥

-- the first fault of a plan's text
abbrev pub IsPlanRefusal : Text → Refusal → Type 0
IsPlanRefusal text (BadPlan fault) = IsPlanFault text fault
IsPlanRefusal text refusal = ⊥

-- the first fault of an order's text
abbrev pub IsOrderRefusal : ℕ → Text → Refusal → Type 0
IsOrderRefusal n text (BadOrder fault) = IsOrderFault n text fault
IsOrderRefusal n text refusal = ⊥

-- the first fault of a log, in the format that its first five bytes choose
abbrev pub IsLogRefusal : List ℕ → Refusal → Type 0
IsLogRefusal bytes (BadLog fault) = IsFaultOfLog bytes fault
IsLogRefusal bytes refusal = ⊥

-- why a log cannot be refined by a plan
abbrev pub IsRefineRefusal : Log → Plan → Refusal → Type 0
IsRefineRefusal log groups (BadRefine fault) = IsRefineFault log groups fault
IsRefineRefusal log groups refusal = ⊥

-- why two logs cannot be joined
abbrev pub IsJoinRefusal : Log → Log → Refusal → Type 0
IsJoinRefusal one other (BadJoin fault) = IsJoinFault one other fault
IsJoinRefusal one other refusal = ⊥

-- why two logs cannot be compared
abbrev pub IsCompareRefusal : Log → Log → Refusal → Type 0
IsCompareRefusal one other (BadCompare fault) = IsCompareFault one other fault
IsCompareRefusal one other refusal = ⊥

-- what a requirement is refused by
abbrev pub IsUnmetBy : Requirement → Refusal → Type 0
IsUnmetBy (a_program text) refusal = IsProgramRefusal text refusal
IsUnmetBy (a_plan text) refusal = IsPlanRefusal text refusal
IsUnmetBy (an_order plan text) refusal =
    (groups : Plan) × IsPlanText plan groups × IsOrderRefusal (number_of_ranks groups) text refusal
IsUnmetBy (a_log bytes) refusal = IsLogRefusal bytes refusal
IsUnmetBy (its_program bytes) refusal = (log : Log) × IsTextOfLog bytes log × IsProgramRefusal log.program refusal
IsUnmetBy (a_refinement bytes plan) refusal =
    (log : Log) × (groups : Plan) × IsTextOfLog bytes log × IsPlanText plan groups × IsRefineRefusal log groups refusal
IsUnmetBy (a_join bytes others) refusal =
    (one : Log) × (other : Log) × IsTextOfLog bytes one × IsTextOfLog others other × IsJoinRefusal one other refusal
IsUnmetBy (a_comparison bytes others) refusal =
    (one : Log) × (other : Log) × IsTextOfLog bytes one × IsTextOfLog others other × IsCompareRefusal one other refusal

-- one is not met, and those before it are
abbrev pub IsFirstUnmet : List Requirement → Refusal → Type 0
IsFirstUnmet [] refusal = ⊥
IsFirstUnmet (requirement ∷ requirements) refusal =
    IsUnmetBy requirement refusal ⊎ (IsMet requirement × IsFirstUnmet requirements refusal)

-- requirements that are all met
abbrev pub AreMet : List Requirement → Type 0
AreMet [] = Unit {0}
AreMet (requirement ∷ requirements) = IsMet requirement × AreMet requirements
