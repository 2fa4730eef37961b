-- The parts of a log's text: its lines, and the program's bytes with the newline after them.
use Rattle.std.specs.Prelude.{ℕ, List, [], ◌∷◌, ◌++◌, map, codes, length}
use Rattle.srr_entry.specs.declared.entry.Entry.{Entry}
use Rattle.srr_entry.specs.declared.log.Log.{Log}
use Rattle.wiz_base.specs.Decimals.{decimal_text}
use Rattle.srr_log.specs.EntryText.{each_after, entry_line}

-- a part of a log's text
pub data LogPart : Type 0 where
  head_line : LogPart
  ranks_line : ℕ → LogPart
  group_line : List ℕ → LogPart
  size_line : ℕ → LogPart
  program_bytes : List ℕ → LogPart
  rank_line : ℕ → ℕ → LogPart
  entry_part : Entry → LogPart
  end_line : LogPart

-- a part without its newline
abbrev pub part_line : LogPart → List ℕ
part_line head_line = codes "srr 1"
part_line (ranks_line ranks) = codes "ranks " ++ decimal_text ranks
part_line (group_line group) = codes "group" ++ each_after 32 (map decimal_text group)
part_line (size_line size) = codes "program " ++ decimal_text size
part_line (program_bytes program) = program
part_line (rank_line rank count) = codes "rank " ++ decimal_text rank ++ (32 ∷ decimal_text count)
part_line (entry_part entry) = entry_line entry
part_line end_line = codes "end"

-- a line, its newline, and what comes after it
abbrev pub line : List ℕ → List ℕ → List ℕ
line bytes behind = bytes ++ 10 ∷ behind

-- a whole part
abbrev pub part_text : LogPart → List ℕ
part_text part = part_line part ++ 10 ∷ []

-- parts, and what comes after them
abbrev pub parts_text : List LogPart → List ℕ → List ℕ
parts_text [] behind = behind
parts_text (part ∷ parts) behind = line (part_line part) (parts_text parts behind)

-- the list of each rank of the group, in its order, and the parts after them
abbrev pub lists_parts : List ℕ → List (List Entry) → List LogPart → List LogPart
lists_parts [] lists behind = behind
lists_parts (rank ∷ group) [] behind = behind
lists_parts (rank ∷ group) (entries ∷ lists) behind =
    rank_line rank (length entries) ∷ (map entry_part entries ++ lists_parts group lists behind)

-- the parts of a log's text, in order
abbrev pub log_parts : Log → List LogPart
log_parts log =
    head_line ∷ ranks_line log.ranks ∷ group_line log.group ∷ size_line (length log.program) ∷ program_bytes log.program
    ∷ lists_parts log.group log.lists (end_line ∷ [])
