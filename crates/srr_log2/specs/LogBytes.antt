-- The bytes of a log, format 2.
use Rattle.std.specs.Prelude.{ℕ, zero, suc, ◌+◌, ◌*◌, ◌≡◌, List, [], ◌∷◌, ◌++◌, codes, length, if◌then◌else◌}
use Rattle.byteorder.specs.Endian.{big_bytes}
use Rattle.sha2.specs.Sha256.{sha256}
use Rattle.mpi_call.specs.declared.limits.TheConstants.{MOST_RANKS}
use Rattle.mpi_call.specs.Collectives.{is_member}
use Rattle.srr_entry.specs.declared.entry.Entry.{Entry}
use Rattle.srr_entry.specs.declared.log.Log.{Log}
use Rattle.srr_log.specs.Bounds.{IsInBounds}
use Rattle.srr_log2.specs.EntryBytes.{word_bytes, list_bytes}

-- a number with a bit for each of some ranks from the first on, the first rank's lowest: 1 where it is in the group
abbrev pub bits_from : ℕ → ℕ → List ℕ → ℕ
bits_from zero first group = 0
bits_from (suc count) first group = (if is_member group first then 1 else 0) + 2 * bits_from count (first + 1) group

-- a number of eight bytes, whose bit r is set where rank r is in the group
unfoldable pub group_bytes : List ℕ → List ℕ
group_bytes group = big_bytes 8 (bits_from MOST_RANKS 0 group)

-- the format's name, the number of ranks, and the group
abbrev pub head_bytes : ℕ → List ℕ → List ℕ
head_bytes ranks group = codes "srr 2\n" ++ ranks ∷ group_bytes group

-- how many bytes the program has, and then these
abbrev pub program_bytes : List ℕ → List ℕ
program_bytes program = word_bytes (length program) ++ program

-- the list of each rank of the group, in its order
abbrev pub lists_bytes : List (List Entry) → List ℕ
lists_bytes [] = []
lists_bytes (entries ∷ lists) = list_bytes entries ++ lists_bytes lists

-- all but the digest
unfoldable pub body_bytes : Log → List ℕ
body_bytes log = (head_bytes log.ranks log.group ++ program_bytes log.program) ++ lists_bytes log.lists

-- the whole: last the digest of all bytes before it
abbrev pub log_bytes : Log → List ℕ
log_bytes log = body_bytes log ++ sha256 (body_bytes log)

-- the bytes of a log that has some
abbrev pub AreLogBytes : List ℕ → Log → Type 0
AreLogBytes text log = (text ≡ log_bytes log) × IsInBounds log
