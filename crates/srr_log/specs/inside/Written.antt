-- The text of a log as it is written, part by part, each with what stands after it.
use Rattle.std.specs.Prelude.{ℕ, List, [], ◌∷◌, ◌++◌, map, codes, length}
use Rattle.srr_entry.specs.declared.entry.Entry.{Entry}
use Rattle.srr_entry.specs.declared.log.Log.{Log}
use Rattle.wiz_base.specs.Decimals.{decimal_text}
use Rattle.srr_log.specs.EntryText.{each_after, entry_line}
use Rattle.srr_log.specs.Parts.{line}

-- the format's name, and the number of ranks
abbrev pub head_text : ℕ → List ℕ → List ℕ
head_text ranks behind = line (codes "srr 1") (line (codes "ranks " ++ decimal_text ranks) behind)

-- the ranks of the group, in order
abbrev pub group_text : List ℕ → List ℕ → List ℕ
group_text group behind = line (codes "group" ++ each_after 32 (map decimal_text group)) behind

-- how many bytes the program has, and its bytes
abbrev pub program_text : List ℕ → List ℕ → List ℕ
program_text program behind = line (codes "program " ++ decimal_text (length program)) (line program behind)

-- a line for each entry
abbrev pub entries_text : List Entry → List ℕ → List ℕ
entries_text [] behind = behind
entries_text (entry ∷ entries) behind = line (entry_line entry) (entries_text entries behind)

-- a rank, and how many entries it has
abbrev pub list_head_text : ℕ → ℕ → List ℕ → List ℕ
list_head_text rank count behind = line (codes "rank " ++ decimal_text rank ++ (32 ∷ decimal_text count)) behind

-- the list of a rank: its head, and a line for each entry
abbrev pub list_text : ℕ → List Entry → List ℕ → List ℕ
list_text rank entries behind = list_head_text rank (length entries) (entries_text entries behind)

-- the list of each rank of the group, in its order
abbrev pub lists_text : List ℕ → List (List Entry) → List ℕ → List ℕ
lists_text [] lists behind = behind
lists_text (rank ∷ group) [] behind = behind
lists_text (rank ∷ group) (entries ∷ lists) behind = list_text rank entries (lists_text group lists behind)

-- the whole
abbrev pub written_text : Log → List ℕ
written_text log =
    head_text log.ranks
    (group_text log.group
    (program_text log.program
    (lists_text log.group log.lists (line (codes "end") []))))
