-- The first fault of a text, by the texts of all logs alone.
use Rattle.std.specs.Prelude.{◌≡◌, ◌≢◌, ◌≤◌, ◌+◌, ◌⊎◌, ℕ, List, [], ◌∷◌, ◌++◌, codes, length}
use Rattle.srr_entry.specs.declared.log.Log.{Log}
use Rattle.wiz_base.specs.Decimals.{decimal_text}
use Rattle.wiz_base.specs.Lines.{HasNoNewline}
use Rattle.srr_log.specs.declared.fault.LogFault.{LogFault}
use Rattle.srr_log.specs.declared.fault.LogWhy.{LogWhy}
use Rattle.srr_log.specs.declared.fault.LogWhy.TheVariants.{BadHead, BadNumber, BadGroup, BadEntry, Short, Extra, BadVersion, NoMemory}
use Rattle.srr_log.specs.Bounds.{IsInBounds}
use Rattle.srr_log.specs.Parts.{LogPart, head_line, ranks_line, group_line, size_line, program_bytes, rank_line, entry_part, end_line, part_text, parts_text, log_parts}

-- some log has a text of these parts
abbrev pub SomeLog : List LogPart → Type 0
SomeLog parts = (log : Log) × IsInBounds log × (log_parts log ≡ parts)

-- no log's text has the parts `front` and then these bytes as its next part
abbrev pub NoLog : List LogPart → List ℕ → Type 0
NoLog front found = (part : LogPart) (more : List LogPart) → SomeLog (front ++ part ∷ more) → part_text part ≢ found

-- where a part of that kind ends: the program's after its bytes and one more, a line with its newline
abbrev pub IsWhole : LogPart → List ℕ → Type 0
IsWhole (program_bytes program) found = length found ≡ length program + 1
IsWhole part found = (line : List ℕ) × HasNoNewline line × (found ≡ line ++ 10 ∷ [])

-- no such end is in the rest of the text
abbrev pub HasNoEnd : LogPart → List ℕ → Type 0
HasNoEnd (program_bytes program) rest = length rest ≤ length program
HasNoEnd part rest = HasNoNewline rest

-- the first line of another version of the format
abbrev pub IsOtherVersion : List ℕ → Type 0
IsOtherVersion found = (version : ℕ) × (version ≢ 1) × (found ≡ codes "srr " ++ decimal_text version ++ 10 ∷ [])

-- the reason, by the kind of the part
abbrev pub IsReason : LogPart → List ℕ → LogWhy → Type 0
IsReason head_line found why = ((why ≡ BadVersion) × IsOtherVersion found) ⊎ ((why ≡ BadHead) × ¬ (IsOtherVersion found))
IsReason (ranks_line ranks) found why = why ≡ BadNumber
IsReason (group_line group) found why = why ≡ BadGroup
IsReason (size_line size) found why = why ≡ BadNumber
IsReason (program_bytes program) found why = why ≡ BadNumber
IsReason (rank_line rank count) found why = why ≡ BadNumber
IsReason (entry_part entry) found why = why ≡ BadEntry
IsReason end_line found why = why ≡ BadEntry

-- the text ends within the part that comes next in some log's text
pub record IsShort (front : List LogPart) (rest : List ℕ) : Type 0 where
  pub next : LogPart
  pub more : List LogPart
  pub goes_on : SomeLog (front ++ next ∷ more)
  pub no_end : HasNoEnd next rest

-- the part that comes next in some log's text has its end, but no log's text goes on with its bytes
pub record IsBad (front : List LogPart) (rest : List ℕ) (why : LogWhy) : Type 0 where
  pub next : LogPart
  pub more : List LogPart
  pub goes_on : SomeLog (front ++ next ∷ more)
  pub found : List ℕ
  pub behind : List ℕ
  pub whole : IsWhole next found
  pub is : rest ≡ found ++ behind
  pub none : NoLog front found
  pub reason : IsReason next found why

-- bytes come after the parts of a whole log
abbrev pub IsExtra : List LogPart → List ℕ → LogWhy → Type 0
IsExtra front rest why = (why ≡ Extra) × SomeLog front × (rest ≢ [])

-- the text is some parts without fault and the rest. The fault is Short, at the text's end; or it is where the rest
-- begins: Extra after a whole log, or at a part that no log has there
abbrev pub IsFirstPartFault : List ℕ → LogFault → Type 0
IsFirstPartFault text fault = (front : List LogPart) × (rest : List ℕ) × (text ≡ parts_text front rest)
    × (((fault.why ≡ Short) × (fault.at ≡ length text) × IsShort front rest)
    ⊎ ((fault.at + length rest ≡ length text) × (IsExtra front rest fault.why ⊎ IsBad front rest fault.why)))

-- being out of memory has no place
abbrev pub no_memory : LogFault
no_memory = record { at = 0; why = NoMemory }
