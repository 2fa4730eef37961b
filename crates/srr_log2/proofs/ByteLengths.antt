-- How many bytes the pieces of a log's text have.
use Rattle.std.proofs.Common.{◌≡◌, ◌+◌, ℕ, ℤ, List, [], ◌∷◌, ◌++◌, length, length-append, arith, refl}
use Rattle.std.specs.Prelude.{◌*◌}
use Rattle.byteorder.specs.Numbers.{length-bytes_high_first}
use Rattle.sha2.specs.Sha256.{sha256}
use Rattle.sha2.proofs.Facts256.{length-sha256}
use Rattle.srr_entry.specs.declared.log.Log.{Log}
use Rattle.srr_log2.specs.EntryBytes.{int_bytes, ints_bytes, word_bytes}
use Rattle.srr_log2.specs.LogBytes.{bits_from, body_bytes, group_bytes, head_bytes, lists_bytes, log_bytes, program_bytes}

pub length-word_bytes : (number : ℕ) → length (word_bytes number) ≡ 4
unfolding word_bytes
length-word_bytes number = length-bytes_high_first 4 number

pub length-ints_bytes : (ints : List ℤ) → length (ints_bytes ints) ≡ 4 * length ints
length-ints_bytes [] = refl
length-ints_bytes (int ∷ ints) =
    let first : length (int_bytes int) ≡ 4 = length-word_bytes _ in
    let rest = length-ints_bytes ints in
    let whole = length-append (int_bytes int) (ints_bytes ints) in
    omega (arith, first, rest, whole)

length-group_bytes : (group : List ℕ) → length (group_bytes group) ≡ 8
unfolding group_bytes
length-group_bytes group = length-bytes_high_first 8 (bits_from 64 0 group)

length-head_bytes : (ranks : ℕ) (group : List ℕ) → length (head_bytes ranks group) ≡ 15
length-head_bytes ranks group = (let eight = length-group_bytes group in omega (arith, eight))

-- all but the program and the lists has 51 bytes
pub length-log_bytes : (log : Log) → length (log_bytes log) ≡ 51 + length log.program + length (lists_bytes log.lists)
unfolding body_bytes
length-log_bytes log =
    let digest = length-sha256 (body_bytes log) in
    let whole = length-append (body_bytes log) (sha256 (body_bytes log)) in
    let body = length-append (head_bytes log.ranks log.group ++ program_bytes log.program) (lists_bytes log.lists) in
    let front = length-append (head_bytes log.ranks log.group) (program_bytes log.program) in
    let head = length-head_bytes log.ranks log.group in
    let size = length-word_bytes (length log.program) in
    let program = length-append (word_bytes (length log.program)) log.program in
    omega (arith, digest, whole, body, front, head, size, program)
