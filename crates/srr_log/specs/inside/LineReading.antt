-- What a line says that is no entry's.
use Rattle.std.specs.Prelude.{ℕ, List, ◌&&◌, ◌==◌, if◌then◌else◌, nat_lt, codes, Option, Some, None}
use Rattle.mpi_call.specs.declared.limits.TheConstants.{MOST_RANKS}
use Rattle.mpi_call.specs.Lists.{rises}
use Rattle.srr_entry.specs.declared.entry.Entry.{Entry}
use Rattle.srr_log.specs.declared.limits.TheConstants.{MOST_ENTRIES, MOST_PROGRAM_BYTES}
use Rattle.srr_log.specs.Bounds.{is_last}
use Rattle.srr_log.specs.inside.Pieces.{◌>>=◌, after_word, split_once, number_in}
use Rattle.srr_log.specs.inside.EntryReading.{ranks_in, entry_in}

-- how many ranks there are
unfoldable pub ranks_line_in : List ℕ → Option ℕ
ranks_line_in line = do
  text ← after_word (codes "ranks ") line
  ranks ← number_in MOST_RANKS text
  if nat_lt 0 ranks then Some ranks else None

-- the ranks of the group
unfoldable pub group_line_in : ℕ → List ℕ → Option (List ℕ)
group_line_in n line = do
  text ← after_word (codes "group ") line
  group ← ranks_in 32 n text
  if rises 0 group then Some group else None

-- how many bytes the program has
unfoldable pub size_line_in : List ℕ → Option ℕ
size_line_in line = do
  text ← after_word (codes "program ") line
  number_in MOST_PROGRAM_BYTES text

-- how many entries this rank has
unfoldable pub rank_line_in : ℕ → List ℕ → Option ℕ
rank_line_in rank line = do
  text ← after_word (codes "rank ") line
  parts ← split_once 32 text
  named ← number_in 255 parts.0
  count ← number_in MOST_ENTRIES parts.1
  if named == rank then Some count else None

-- an entry before so many others
unfoldable pub entry_line_in : ℕ → List ℕ → ℕ → List ℕ → Option Entry
entry_line_in n group others line = do
  entry ← entry_in n group line
  if is_last entry && nat_lt 0 others then None else Some entry
