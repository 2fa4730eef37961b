-- What each part of the readers answers. A rank above 63 is kept as 64.
use Rattle.std.specs.Prelude.{◌≡◌, ◌≢◌, codes, ℕ, ◌-◌, ◌<◌, ◌≤◌, ◌++◌, min, map, List, [], ◌∷◌, length, Option, Some, None, Result, Ok, Err}
use Rattle.std.specs.Borrow.{Bor}
use Rattle.std.specs.List.{AllByRecursion}
use Rattle.mpi_call.specs.declared.limits.TheConstants.{MOST_RANKS}
use Rattle.wiz_base.specs.Decimals.{decimal_text}
use Rattle.wiz_base.specs.Readings.{IsDecimal}
use Rattle.group_plan.specs.declared.fault.OrderFault.{OrderFault}
use Rattle.group_plan.specs.declared.fault.OrderFault.TheVariants.{BadLine as BadRankLine, NoMemory as OrderMemory}
use Rattle.group_plan.specs.declared.fault.PlanFault.{PlanFault}
use Rattle.group_plan.specs.declared.fault.PlanFault.TheVariants.{BadLine, NoMemory}
use Rattle.group_plan.specs.declared.line.LineUnread.{LineUnread}
use Rattle.group_plan.specs.declared.line.LineUnread.TheVariants.{NotAllowed, NoMemory as UnreadMemory}
use Rattle.group_plan.specs.declared.span.RankRange.{RankRange}
use Rattle.group_plan.specs.Lines.{IsFirstBad}
use Rattle.group_plan.specs.Listing.{IsListedOnce, IsListingFault, times_listed}
use Rattle.picked_runs.specs.declared.turn.Pick.{Pick}
use Rattle.picked_runs.specs.declared.turn.Pick.TheVariants.{First, Sender, Index}
use Rattle.picked_runs.specs.declared.turn.Turn.{Turn}
use Rattle.group_plan.specs.OrderText.{IsTurnLine}
use Rattle.picked_runs.specs.Turns.{IsPickOf, IsTurnOf}
use Rattle.group_plan.specs.PlanText.{Lists, plan_lines}
use Rattle.group_plan.specs.Words.{IsSpan, IsPlanLine, IsGoodLine, words_in}

-- 64 stands for each rank above 63
abbrev pub kept : RankRange → RankRange
kept span = record { first = min span.first MOST_RANKS; last = min span.last MOST_RANKS }

-- the number that the text spells, or none where it spells none
abbrev pub IsRankRead : List ℕ → Option ℕ → Type 0
IsRankRead text (Some rank) = (value : ℕ) × (text ≡ decimal_text value) × (rank ≡ min value MOST_RANKS)
IsRankRead text None = ¬ (IsDecimal text)

-- what the word says, or none where it says nothing
abbrev pub IsSpanRead : List ℕ → Option RankRange → Type 0
IsSpanRead word (Some span) = (said : RankRange) × IsSpan word said × (span ≡ kept said)
IsSpanRead word None = (said : RankRange) → IsSpan word said → ⊥

-- the same of the two sides of a dash
abbrev pub IsRangeRead : List ℕ → List ℕ → Option RankRange → Type 0
IsRangeRead first last (Some span) = (said : RankRange) × (first ≡ decimal_text said.first) × (last ≡ decimal_text said.last) × (said.first ≤ said.last) × (span ≡ kept said)
IsRangeRead first last None = (said : RankRange) → first ≡ decimal_text said.first → last ≡ decimal_text said.last → said.first ≤ said.last → ⊥

-- the first word of what is left of a line
abbrev pub IsFirstWord : List ℕ → Option (Bor (List ℕ) × Bor (List ℕ)) → Type 0
IsFirstWord text (Some parts) = (words_in text ≡ parts.0.now ∷ words_in parts.1.now) × (length parts.1.now < length text)
IsFirstWord text None = words_in text ≡ []

-- one word more, unless it says nothing or memory ran out
abbrev pub AddsWord : List ℕ → List RankRange → List RankRange → Result (Unit {0}) LineUnread → Type 0
AddsWord word before now (Ok done) = (said : RankRange) × IsSpan word said × (now ≡ before ++ kept said ∷ [])
AddsWord word before now (Err NotAllowed) = (said : RankRange) → IsSpan word said → ⊥
AddsWord word before now (Err UnreadMemory) = Unit {0}

-- all that a line lists
abbrev pub IsLineRead : List ℕ → Result (List RankRange) LineUnread → Type 0
IsLineRead line (Ok spans) = (said : List RankRange) × IsPlanLine line said × (spans ≡ map kept said)
IsLineRead line (Err NotAllowed) = ¬ (IsGoodLine line)
IsLineRead line (Err UnreadMemory) = Unit {0}

-- one line more, unless it is bad or memory ran out
abbrev pub AddsLine : ℕ → List ℕ → List (List RankRange) → List (List RankRange) → Result (Unit {0}) PlanFault → Type 0
AddsLine number line before now (Ok done) = (said : List RankRange) × IsPlanLine line said × (now ≡ before ++ map kept said ∷ [])
AddsLine number line before now (Err (BadLine place)) = (place ≡ number) × ¬ (IsGoodLine line)
AddsLine number line before now (Err NoMemory) = Unit {0}
AddsLine number line before now (Err fault) = ⊥

-- the next line of a plan, and what is left behind it
abbrev pub IsNextPlanLine : List ℕ → Option (List ℕ) → List ℕ → Type 0
IsNextPlanLine text (Some line) rest = (plan_lines text ≡ line ∷ plan_lines rest) × (length rest < length text)
IsNextPlanLine text None rest = plan_lines text ≡ []

-- all that the lines list, or the first bad line
abbrev pub IsListingRead : List ℕ → Result (List (List RankRange)) PlanFault → Type 0
IsListingRead text (Ok listing) = (said : List (List RankRange)) × Lists text said × (listing ≡ map (map kept) said)
IsListingRead text (Err (BadLine place)) = IsFirstBad IsGoodLine (plan_lines text) place
IsListingRead text (Err NoMemory) = Unit {0}
IsListingRead text (Err fault) = ⊥

-- one more than the greatest rank below 64 that is listed, or 0
abbrev pub IsRankCount : List (List RankRange) → ℕ → Type 0
IsRankCount listing n = (n ≤ MOST_RANKS) × ((rank : ℕ) → n ≤ rank → rank < MOST_RANKS → times_listed rank listing ≡ 0) × (0 < n → 0 < times_listed (n - 1) listing)

-- a range does not run downward
abbrev pub IsUpward : RankRange → Type 0
IsUpward span = span.first ≤ span.last

-- the number of ranks that the lines list, or why they are refused
abbrev pub IsSizeOf : List (List RankRange) → Result ℕ PlanFault → Type 0
IsSizeOf said (Ok n) = IsListedOnce said n
IsSizeOf said (Err fault) = IsListingFault said fault

-- of what was read as of what the lines say
abbrev pub IsSizeRead : List (List RankRange) → Result ℕ PlanFault → Type 0
IsSizeRead listing size = (said : List (List RankRange)) → AllByRecursion (AllByRecursion IsUpward) said → listing ≡ map (map kept) said → IsSizeOf said size

-- a rank below n, or none where the text spells none
abbrev pub IsRankBelow : ℕ → List ℕ → Option ℕ → Type 0
IsRankBelow n text (Some rank) = (text ≡ decimal_text rank) × (rank < n)
IsRankBelow n text None = (rank : ℕ) → rank < n → text ≢ decimal_text rank

-- what is picked, behind the blank
abbrev pub pick_words : Pick → List ℕ
pick_words First = []
pick_words (Sender sender) = codes "from " ++ decimal_text sender
pick_words (Index index) = codes "index " ++ decimal_text index

-- what the words pick, or none where they pick nothing
abbrev pub IsPickRead : ℕ → List ℕ → Option Pick → Type 0
IsPickRead n words (Some pick) = (words ≡ pick_words pick) × IsPickOf n pick × (pick ≢ First)
IsPickRead n words None = (pick : Pick) → pick ≢ First → IsPickOf n pick → words ≢ pick_words pick

-- the pick of a sender, or none where the text spells no rank below n
abbrev pub IsSenderRead : ℕ → List ℕ → Option Pick → Type 0
IsSenderRead n number (Some pick) = (sender : ℕ) × (pick ≡ Sender sender) × (number ≡ decimal_text sender) × (sender < n)
IsSenderRead n number None = (sender : ℕ) → sender < n → number ≢ decimal_text sender

-- the turn of a rank and the words behind a blank, or none where they are none
abbrev pub IsPickingRead : ℕ → List ℕ → List ℕ → Option Turn → Type 0
IsPickingRead n rank words (Some turn) = (rank ≡ decimal_text turn.rank) × (words ≡ pick_words turn.pick) × IsTurnOf n turn × (turn.pick ≢ First)
IsPickingRead n rank words None = (turn : Turn) → turn.pick ≢ First → IsTurnOf n turn → rank ≡ decimal_text turn.rank → words ≢ pick_words turn.pick

-- the turn that a line is, or none where it is none
abbrev pub IsTurnRead : ℕ → List ℕ → Option Turn → Type 0
IsTurnRead n line (Some turn) = IsTurnLine n line turn
IsTurnRead n line None = (turn : Turn) → IsTurnLine n line turn → ⊥

-- one line of an order more, unless it is bad or memory ran out
abbrev pub AddsTurn : ℕ → ℕ → List ℕ → List Turn → List Turn → Result (Unit {0}) OrderFault → Type 0
AddsTurn n number line before now (Ok done) = (turn : Turn) × IsTurnLine n line turn × (now ≡ before ++ turn ∷ [])
AddsTurn n number line before now (Err (BadRankLine place)) = (place ≡ number) × ¬ ((turn : Turn) × IsTurnLine n line turn)
AddsTurn n number line before now (Err OrderMemory) = Unit {0}
