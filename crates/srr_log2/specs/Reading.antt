-- What the fields of a log say, in their order, and the first fault of a text.
use Rattle.std.specs.Prelude.{◌≡◌, ◌+◌, ◌-◌, ◌/◌, ◌%◌, ◌^◌, ◌==◌, ◌&&◌, ℕ, zero, suc, List, [], ◌∷◌, not, if◌then◌else◌, nat_lt, codes, length, take, Some}
use Rattle.std.specs.Str.{bytes_eq}
use Rattle.sha2.specs.Sha256.{sha256}
use Rattle.srr_entry.specs.declared.log.Log.{Log}
use Rattle.mpi_call.specs.declared.limits.TheConstants.{MOST_RANKS}
use Rattle.srr_log.specs.declared.limits.TheConstants.{MOST_PROGRAM_BYTES}
use Rattle.srr_log.specs.declared.fault.LogFault.{LogFault}
use Rattle.srr_log.specs.declared.fault.LogWhy.{LogWhy}
use Rattle.srr_log.specs.declared.fault.LogWhy.TheVariants.{BadHead, BadNumber, BadGroup, Short, Extra, BadVersion, Digest}
use Rattle.srr_log2.specs.EntryReading.{between, coded_rank_list}
use Rattle.srr_log2.specs.Fields.{reads, stops, Reader, onward, ◌>>=◌, give, coded_byte, only_if, coded_field, number_of, coded_word, coded_many}

-- why the first six bytes are not allowed: another version, or no log at all
abbrev pub head_why : List ℕ → LogWhy
head_why bytes = if bytes_eq (take 4 bytes) (codes "srr ") && not (bytes_eq (take 5 bytes) (codes "srr 2")) then BadVersion else BadHead

-- the format's name
unfoldable pub coded_head : Reader (Unit {0})
coded_head = coded_field 6 head_why (λ bytes. only_if (bytes_eq bytes (codes "srr 2\n")) tt)

-- how many ranks the run had
unfoldable pub coded_rank_count : Reader ℕ
coded_rank_count = coded_byte BadNumber (λ ranks. only_if (between 1 MOST_RANKS ranks) ranks)

-- those of some ranks from the first on whose bits are set, the first rank's lowest
abbrev pub bits_set : ℕ → ℕ → ℕ → List ℕ
bits_set zero first bits = []
bits_set (suc count) first bits = if bits % 2 == 1 then first ∷ bits_set count (first + 1) (bits / 2) else bits_set count (first + 1) (bits / 2)

-- the ranks of the group: some, all below n
unfoldable pub coded_group : ℕ → Reader (List ℕ)
coded_group n = do
  bits ← coded_field 8 (λ _. BadGroup) (number_of 8 (λ bits. nat_lt 0 bits && nat_lt bits (2 ^ n)))
  give (bits_set n 0 bits)

-- how many bytes the program has, and then any that many
unfoldable pub coded_program : Reader (List ℕ)
coded_program = do
  size ← coded_word BadNumber (between 0 MOST_PROGRAM_BYTES)
  coded_field size (λ _. Short) (λ bytes. Some bytes)

-- all but the digest: after the program a list for each rank of the group
unfoldable pub coded_body : Reader Log
coded_body = do
  _ ← coded_head
  ranks ← coded_rank_count
  group ← coded_group ranks
  program ← coded_program
  lists ← coded_many (coded_rank_list ranks group) (length group)
  give (record { ranks = ranks; group = group; program = program; lists = lists })

-- the digest of the bytes before
unfoldable pub coded_digest : List ℕ → Reader (Unit {0})
coded_digest before = coded_field 32 (λ _. Digest) (λ bytes. only_if (bytes_eq bytes (sha256 before)) tt)

-- nothing more
abbrev pub coded_end : Reader (Unit {0})
coded_end [] = reads tt []
coded_end (byte ∷ rest) = stops Extra (length rest + 1)

-- the digest, and the text's end
unfoldable pub coded_close : List ℕ → Reader (Unit {0})
coded_close before = do
  _ ← coded_digest before
  coded_end

-- the whole: a log, and nothing after it
unfoldable pub coded_log : Reader Log
coded_log text = onward (coded_body text) (λ log rest. onward (coded_close (take (length text - length rest) text) rest) (λ _. give log))

-- the text's first fault: its place, counted from 0, has `left` bytes from it to the text's end
abbrev pub IsFirstFieldFault : List ℕ → LogFault → Type 0
IsFirstFieldFault text fault = (left : ℕ) × (coded_log text ≡ stops fault.why left) × (fault.at + left ≡ length text)
