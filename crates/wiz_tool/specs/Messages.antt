-- The messages.
use Rattle.std.specs.Prelude.{ℕ, List, ◌∷◌, ◌++◌, codes}
use Rattle.c_lex.specs.declared.fault.Why.{Why}
use Rattle.c_lex.specs.declared.fault.Why.TheVariants as w
use Rattle.group_plan.specs.declared.fault.OrderFault.{OrderFault}
use Rattle.group_plan.specs.declared.fault.OrderFault.TheVariants.{BadLine as BadRankLine, NoMemory as OrderMemory}
use Rattle.group_plan.specs.declared.fault.PlanFault.{PlanFault}
use Rattle.group_plan.specs.declared.fault.PlanFault.TheVariants.{BadLine, TooManyRanks, Empty, Repeated, Gap, NoMemory as PlanMemory}
use Rattle.srr_log.specs.declared.fault.LogWhy.{LogWhy}
use Rattle.srr_log.specs.declared.fault.LogWhy.TheVariants.{BadHead, BadNumber, BadGroup, BadEntry, Short, Extra, BadVersion, Digest, NoMemory}
use Rattle.srr_regroup.specs.declared.join_fault.JoinFault.{JoinFault}
use Rattle.srr_regroup.specs.declared.join_fault.JoinFault.TheVariants.{Ranks as LogRanks, Programs, Shared}
use Rattle.view_diff.specs.declared.compare_fault.CompareFault.{CompareFault}
use Rattle.view_diff.specs.declared.compare_fault.CompareFault.TheVariants as compare
use Rattle.srr_regroup.specs.declared.refine_fault.RefineFault.{RefineFault}
use Rattle.srr_regroup.specs.declared.refine_fault.RefineFault.TheVariants.{Ranks as PlanRanks, Crosses}
use Rattle.wiz_base.specs.Decimals.{decimal_text}
use Rattle.wiz_tool.specs.declared.refusal.Refusal.{Refusal}
use Rattle.wiz_tool.specs.declared.refusal.Refusal.TheVariants.{Words, Missing, ReadFault, Program, Plan, Order, Log as LogRefused, TooLong, Refine, Join, Compare}

-- what is wrong with a log
abbrev pub why_text : LogWhy → List ℕ
why_text BadHead = codes "bad head"
why_text BadNumber = codes "bad number"
why_text BadGroup = codes "bad group"
why_text BadEntry = codes "bad entry"
why_text Short = codes "short"
why_text Extra = codes "extra"
why_text BadVersion = codes "bad version"
why_text Digest = codes "digest"
why_text NoMemory = codes "no memory"

-- what is wrong with a program
abbrev pub fault_why : Why → List ℕ
fault_why w.BadByte = codes "bad byte"
fault_why w.OpenComment = codes "open comment"
fault_why w.OpenText = codes "open text"
fault_why w.BadLiteral = codes "bad literal"
fault_why w.Unexpected = codes "unexpected"
fault_why w.TooDeep = codes "too deep"
fault_why w.Unknown = codes "unknown"
fault_why w.Twice = codes "twice"
fault_why w.WrongType = codes "wrong type"
fault_why w.WrongCount = codes "wrong count"
fault_why w.NoMain = codes "no main"
fault_why w.BadFormat = codes "bad format"
fault_why w.LeftOut = codes "left out"
fault_why w.NoMemory = codes "no memory"

-- what is wrong with a plan
abbrev pub plan_message : PlanFault → List ℕ
plan_message (BadLine line) = codes "plan line " ++ decimal_text line ++ codes "\n"
plan_message TooManyRanks = codes "plan too many ranks\n"
plan_message Empty = codes "plan empty\n"
plan_message (Repeated rank) = codes "plan repeated " ++ decimal_text rank ++ codes "\n"
plan_message (Gap rank) = codes "plan gap " ++ decimal_text rank ++ codes "\n"
plan_message PlanMemory = codes "plan no memory\n"

-- what is wrong with an order
abbrev pub order_message : OrderFault → List ℕ
order_message (BadRankLine line) = codes "order line " ++ decimal_text line ++ codes "\n"
order_message OrderMemory = codes "order no memory\n"

-- why a log cannot be refined by a plan
abbrev pub refine_message : RefineFault → List ℕ
refine_message (PlanRanks plan log) = codes "plan ranks " ++ decimal_text plan ++ codes " log ranks " ++ decimal_text log ++ codes "\n"
refine_message (Crosses group) = codes "plan group " ++ decimal_text group ++ codes " crosses\n"

-- why two logs cannot be joined
abbrev pub join_message : JoinFault → List ℕ
join_message (LogRanks one two) = codes "ranks " ++ decimal_text one ++ codes " " ++ decimal_text two ++ codes "\n"
join_message Programs = codes "programs differ\n"
join_message (Shared rank) = codes "shared rank " ++ decimal_text rank ++ codes "\n"

-- why two logs cannot be compared
abbrev pub compare_message : CompareFault → List ℕ
compare_message (compare.Ranks one other) = codes "ranks " ++ decimal_text one ++ codes " " ++ decimal_text other ++ codes "\n"
compare_message compare.Groups = codes "groups differ\n"
compare_message compare.Programs = codes "programs differ\n"

-- its message
abbrev pub message_text : Refusal → List ℕ → List ℕ
message_text Words name = codes "refused words\n"
message_text Missing name = codes "no file " ++ name ++ codes "\n"
message_text ReadFault name = codes "cannot read " ++ name ++ codes "\n"
message_text (Program fault) name =
    codes "program " ++ decimal_text fault.line ++ (58 ∷ decimal_text fault.column) ++ (32 ∷ fault_why fault.why) ++ codes "\n"
message_text (Plan fault) name = plan_message fault
message_text (Order fault) name = order_message fault
message_text (LogRefused fault) name = codes "log " ++ decimal_text fault.at ++ (32 ∷ why_text fault.why) ++ codes "\n"
message_text TooLong name = codes "too long " ++ name ++ codes "\n"
message_text (Refine fault) name = refine_message fault
message_text (Join fault) name = join_message fault
message_text (Compare fault) name = compare_message fault

-- the message of a file that was not written
abbrev pub unwritten_text : List ℕ → List ℕ
unwritten_text name = codes "cannot write " ++ name ++ codes "\n"
