-- Why texts are refused, by what is asked of them.
use Rattle.std.specs.Prelude.{◌≡◌, ℕ, List, [], Option, Some, None}
use Rattle.clap.specs.Words.{Text}
use Rattle.srr_entry.specs.declared.log.Log.{Log}
use Rattle.wiz_tool.specs.Inputs.{Refused}
use Rattle.wiz_task.specs.Names.{Plan}
use Rattle.wiz_task.specs.Requirements.{IsCompareRefusal, IsFirstUnmet, IsJoinRefusal, IsOrderRefusal, IsRefineRefusal, Requirement}

-- texts break a requirement; the message names no file
abbrev pub IsUnmetIn : List Requirement → Refused → Type 0
IsUnmetIn requirements refused = IsFirstUnmet requirements refused.refusal × (refused.name ≡ [])

-- the turns of an order are refused
abbrev pub AreRefusedTurns : ℕ → Option Text → Refused → Type 0
AreRefusedTurns n None refused = ⊥
AreRefusedTurns n (Some text) refused = IsOrderRefusal n text refused.refusal × (refused.name ≡ [])

-- a log cannot be refined by the groups of a plan
abbrev pub IsRefusedRefinement : Log → Plan → Refused → Type 0
IsRefusedRefinement log groups refused = IsRefineRefusal log groups refused.refusal × (refused.name ≡ [])

-- two logs cannot be joined
abbrev pub IsRefusedJoin : Log → Log → Refused → Type 0
IsRefusedJoin one other refused = IsJoinRefusal one other refused.refusal × (refused.name ≡ [])

-- two logs cannot be compared
abbrev pub IsRefusedComparison : Log → Log → Refused → Type 0
IsRefusedComparison one other refused = IsCompareRefusal one other refused.refusal × (refused.name ≡ [])
