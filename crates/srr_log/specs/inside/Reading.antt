-- Reading a log part by part: which part may come next, and a fault where none does.
use Rattle.std.specs.Prelude.{◌≡◌, ◌≢◌, ◌≤◌, ◌<◌, ◌⊎◌, ℕ, zero, suc, List, [], ◌∷◌, ◌++◌, true, length, replicate, Result, Ok, Err}
use Rattle.std.specs.Borrow.{Bor}
use Rattle.mpi_call.specs.declared.limits.TheConstants.{MOST_RANKS}
use Rattle.srr_entry.specs.declared.entry.Entry.TheVariants.{Sent}
use Rattle.srr_log.specs.declared.limits.TheConstants.{MOST_ENTRIES, MOST_PROGRAM_BYTES}
use Rattle.wiz_base.specs.Lines.{HasNoNewline}
use Rattle.srr_log.specs.declared.fault.LogWhy.{LogWhy}
use Rattle.srr_log.specs.declared.fault.LogWhy.TheVariants.{Short, Extra}
use Rattle.srr_log.specs.declared.read_error.ReadError.{ReadError}
use Rattle.srr_log.specs.declared.read_error.ReadError.TheVariants.{NoMemory, Fault}
use Rattle.srr_log.specs.Bounds.{IsGroup, IsEntry, is_last}
use Rattle.srr_log.specs.Parts.{LogPart, head_line, ranks_line, group_line, size_line, program_bytes, rank_line, entry_part, end_line, part_text, parts_text}
use Rattle.srr_log.specs.Faults.{IsWhole, HasNoEnd, IsReason}

-- what is known of the parts before: the ranks and the group, the program's size, the ranks whose lists follow, and how
-- many entries follow the next one
pub data ReadingState : Type 0 where
  at_head : ReadingState
  at_ranks : ReadingState
  at_group : ℕ → ReadingState
  at_size : ℕ → List ℕ → ReadingState
  at_program : ℕ → List ℕ → ℕ → ReadingState
  at_list : ℕ → List ℕ → List ℕ → ReadingState
  at_entry : ℕ → List ℕ → ℕ → List ℕ → ReadingState
  at_end : ReadingState

-- this many entries are missing
abbrev pub entries_left : ℕ → List ℕ → ℕ → List ℕ → ReadingState
entries_left n group zero ranks = at_list n group ranks
entries_left n group (suc others) ranks = at_entry n group others ranks

-- the part may come next
abbrev pub Allows : ReadingState → LogPart → Type 0
Allows at_head head_line = Unit {0}
Allows at_ranks (ranks_line ranks) = (0 < ranks) × (ranks ≤ MOST_RANKS)
Allows (at_group n) (group_line group) = IsGroup n group
Allows (at_size n group) (size_line size) = size ≤ MOST_PROGRAM_BYTES
Allows (at_program n group size) (program_bytes program) = length program ≡ size
Allows (at_list n group (rank ∷ ranks)) (rank_line named count) = (named ≡ rank) × (count ≤ MOST_ENTRIES)
Allows (at_list n group []) end_line = Unit {0}
Allows (at_entry n group others ranks) (entry_part entry) = IsEntry n group entry × (is_last entry ≡ true → others ≡ 0)
Allows state part = ⊥

-- what is known after one more part
abbrev pub next : ReadingState → LogPart → ReadingState
next at_head part = at_ranks
next at_ranks (ranks_line ranks) = at_group ranks
next (at_group n) (group_line group) = at_size n group
next (at_size n group) (size_line size) = at_program n group size
next (at_program n group size) part = at_list n group group
next (at_list n group (rank ∷ ranks)) (rank_line named count) = entries_left n group count ranks
next (at_entry n group others ranks) part = entries_left n group others ranks
next state part = at_end

-- what is known after some parts
abbrev pub after : ReadingState → List LogPart → ReadingState
after state [] = state
after state (part ∷ parts) = after (next state part) parts

-- each of the parts may come after those before it
abbrev pub Runs : ReadingState → List LogPart → Type 0
Runs state [] = Unit {0}
Runs state (part ∷ parts) = Allows state part × Runs (next state part) parts

-- a part of the kind that comes next
abbrev pub expected : ReadingState → LogPart
expected at_head = head_line
expected at_ranks = ranks_line 1
expected (at_group n) = group_line (0 ∷ [])
expected (at_size n group) = size_line 0
expected (at_program n group size) = program_bytes (replicate size 0)
expected (at_list n group (rank ∷ ranks)) = rank_line rank 0
expected (at_list n group []) = end_line
expected (at_entry n group others ranks) = entry_part Sent
expected at_end = end_line

-- the log does not end here
abbrev pub IsOpen : ReadingState → Type 0
IsOpen at_end = ⊥
IsOpen state = Unit {0}

-- the next part has its end, and is none that may come
pub record IsBadAt (state : ReadingState) (rest : List ℕ) (why : LogWhy) : Type 0 where
  pub open' : IsOpen state
  pub found : List ℕ
  pub behind : List ℕ
  pub whole : IsWhole (expected state) found
  pub is : rest ≡ found ++ behind
  pub none : (part : LogPart) → Allows state part → part_text part ≢ found
  pub reason : IsReason (expected state) found why

-- a fault right there, with so many bytes from its place to the text's end
abbrev pub FaultAt : ReadingState → List ℕ → LogWhy → ℕ → Type 0
FaultAt state rest why left =
    ((why ≡ Short) × (left ≡ 0) × IsOpen state × HasNoEnd (expected state) rest)
    ⊎ ((left ≡ length rest) × (((why ≡ Extra) × (state ≡ at_end) × (rest ≢ [])) ⊎ IsBadAt state rest why))

-- parts that may come, and the fault after them
abbrev pub FaultFrom : ReadingState → List ℕ → LogWhy → ℕ → Type 0
FaultFrom state text why left =
    (parts : List LogPart) × (rest : List ℕ) × Runs state parts × (text ≡ parts_text parts rest) × FaultAt (after state parts) rest why left

-- what was read are the parts of the value, and the rest comes after them; or there is a fault
module _ {A : Type 0} (from : ReadingState) (spelled : A → List LogPart) where
  abbrev pub Reads : List ℕ → Result A ReadError → List ℕ → Type 0
  Reads text (Ok value) rest = Runs from (spelled value) × (text ≡ parts_text (spelled value) rest)
  Reads text (Err NoMemory) rest = Unit {0}
  Reads text (Err (Fault why left)) rest = FaultFrom from text why left

-- the next line, or the text has no newline
abbrev pub IsNextLine : List ℕ → Result (Bor (List ℕ)) ReadError → List ℕ → Type 0
IsNextLine text (Ok line) rest = HasNoNewline line.now × (text ≡ line.now ++ 10 ∷ rest)
IsNextLine text (Err NoMemory) rest = ⊥
IsNextLine text (Err (Fault why left)) rest = HasNoNewline text × (why ≡ Short) × (left ≡ 0)
