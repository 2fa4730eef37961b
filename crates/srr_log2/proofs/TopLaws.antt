-- The fields before and after the lists: what was found in the text, and what it says.
use Rattle.std.proofs.Common.{◌≡◌, ◌≢◌, ℕ, suc, ◌+◌, ◌-◌, ◌^◌, ◌<◌, ◌/◌, ◌%◌, Bool, true, false, List, [], ◌∷◌, ◌++◌, length, refl, sym, ap, ◌∙◌, append_assoc, arith, Some}
use Rattle.std.specs.Prelude.{codes, if◌then◌else◌, nat_lt, ◌&&◌, ◌==◌}
use Rattle.std.specs.Str.{bytes_eq}
use Rattle.std.proofs.lemmas.Bool.{lt-ltb, false_from_ne_true, and_parts, ltb-true}
use Rattle.std.proofs.lemmas.Slice.Eq.{bytes_eq-Decides}
use Rattle.byteorder.specs.Endian.{big_bytes}
use Rattle.sha2.specs.Sha256.{sha256}
use Rattle.srr_log.specs.declared.fault.LogWhy.{LogWhy}
use Rattle.srr_log.specs.declared.fault.LogWhy.TheVariants.{Short, BadGroup, BadNumber, Digest}
use Rattle.std.specs.Prelude.{Err}
use Rattle.srr_log.specs.declared.read_error.ReadError.{ReadError}
use Rattle.srr_log.specs.declared.read_error.ReadError.TheVariants.{NoMemory, Fault}
use Rattle.srr_log2.specs.Fields.{Outcome, reads, stops, onward, give, allowed, number_of, coded_word, only_if, IsField, GivesFields}
use Rattle.srr_log2.specs.EntryReading.{between}
use Rattle.srr_log2.specs.Reading.{coded_head, head_why, coded_group, bits_set, coded_program, coded_digest}
use Rattle.srr_log2.proofs.FieldLaws.{field_here, field_short, number_is}

pub head_found : (bytes rest text : List ℕ) → text ≡ bytes ++ rest → length bytes ≡ 6 → bytes ≡ codes "srr 2\n" → coded_head text ≡ reads (tt {0}) rest
unfolding coded_head
head_found bytes rest text whole long is =
    rw (whole, field_here 6 head_why (λ bytes. only_if (bytes_eq bytes (codes "srr 2\n")) (tt {0})) bytes rest long, (bytes_eq-Decides bytes (codes "srr 2\n")).1 is) refl

pub head_other : (bytes rest text : List ℕ) → text ≡ bytes ++ rest → length bytes ≡ 6 → bytes ≢ codes "srr 2\n" → coded_head text ≡ stops (head_why bytes) (length text)
unfolding coded_head
head_other bytes rest text whole long apart =
    let other : bytes_eq bytes (codes "srr 2\n") ≡ false = false_from_ne_true _ (λ same. apart ((bytes_eq-Decides bytes (codes "srr 2\n")).0 same)) in
    rw (whole, field_here 6 head_why (λ bytes. only_if (bytes_eq bytes (codes "srr 2\n")) (tt {0})) bytes rest long, other) refl

pub head_short : (text : List ℕ) → length text < 6 → coded_head text ≡ stops Short 0
unfolding coded_head
head_short text short = field_short 6 head_why (λ bytes. only_if (bytes_eq bytes (codes "srr 2\n")) (tt {0})) text short

pub digest_found : (before bytes rest text : List ℕ) → text ≡ bytes ++ rest → length bytes ≡ 32 → bytes ≡ sha256 before → coded_digest before text ≡ reads (tt {0}) rest
unfolding coded_digest
digest_found before bytes rest text whole long is =
    rw (whole, field_here 32 (λ _. Digest) (λ bytes. only_if (bytes_eq bytes (sha256 before)) (tt {0})) bytes rest long, (bytes_eq-Decides bytes (sha256 before)).1 is) refl

pub digest_other : (before bytes rest text : List ℕ) → text ≡ bytes ++ rest → length bytes ≡ 32 → bytes ≢ sha256 before → coded_digest before text ≡ stops Digest (length text)
unfolding coded_digest
digest_other before bytes rest text whole long apart =
    let other : bytes_eq bytes (sha256 before) ≡ false = false_from_ne_true _ (λ same. apart ((bytes_eq-Decides bytes (sha256 before)).0 same)) in
    rw (whole, field_here 32 (λ _. Digest) (λ bytes. only_if (bytes_eq bytes (sha256 before)) (tt {0})) bytes rest long, other) refl

pub digest_short : (before text : List ℕ) → length text < 32 → coded_digest before text ≡ stops Short 0
unfolding coded_digest
digest_short before text short = field_short 32 (λ _. Digest) (λ bytes. only_if (bytes_eq bytes (sha256 before)) (tt {0})) text short

-- the group's bits
abbrev pub are_bits : ℕ → ℕ → Bool
are_bits n bits = nat_lt 0 bits && nat_lt bits (2 ^ n)

group_at : (n bits : ℕ) (bytes rest text : List ℕ) → text ≡ bytes ++ rest → bytes ≡ big_bytes 8 bits → length bytes ≡ 8 → bits < 2 ^ 64
    → coded_group n text ≡ onward (allowed (only_if (are_bits n bits) bits) BadGroup (length text) rest) (λ bits. give (bits_set n 0 bits))
unfolding coded_group
group_at n bits bytes rest text whole is long small =
    let said : number_of 8 (are_bits n) bytes ≡ only_if (are_bits n bits) bits = ap (number_of 8 (are_bits n)) is ∙ number_is 8 bits (are_bits n) small in
    rw (whole, field_here 8 (λ _. BadGroup) (number_of 8 (are_bits n)) bytes rest long, said) refl

pub group_found : (n bits : ℕ) (group bytes rest text : List ℕ) → text ≡ bytes ++ rest → bytes ≡ big_bytes 8 bits → length bytes ≡ 8 → bits < 2 ^ 64 → (0 < bits) × (bits < 2 ^ n) → group ≡ bits_set n 0 bits
    → coded_group n text ≡ reads group rest
group_found n bits group bytes rest text whole is long small ok group_is =
    let a : are_bits n bits ≡ true = rw (lt-ltb 0 bits ok.0, lt-ltb bits (2 ^ n) ok.1) refl in
    rw (group_at n bits bytes rest text whole is long small, a, group_is) refl

pub group_other : (n bits : ℕ) (bytes rest text : List ℕ) → text ≡ bytes ++ rest → bytes ≡ big_bytes 8 bits → length bytes ≡ 8 → bits < 2 ^ 64 → ¬ ((0 < bits) × (bits < 2 ^ n)) → coded_group n text ≡ stops BadGroup (length text)
group_other n bits bytes rest text whole is long small bad =
    let a : are_bits n bits ≡ false = false_from_ne_true _ (λ both. let p = and_parts _ _ both in bad (ltb-true _ _ p.0, ltb-true _ _ p.1)) in
    rw (group_at n bits bytes rest text whole is long small, a) refl

pub group_short : (n : ℕ) (text : List ℕ) → length text < 8 → coded_group n text ≡ stops Short 0
unfolding coded_group
group_short n text short = rw (field_short 8 (λ _. BadGroup) (number_of 8 (are_bits n)) text short) refl

-- the program
pub program_found : (size : ℕ) (text middle bytes rest : List ℕ) → coded_word BadNumber (between 0 65536) text ≡ reads size middle → middle ≡ bytes ++ rest → length bytes ≡ size → coded_program text ≡ reads bytes rest
unfolding coded_program
program_found size text middle bytes rest number whole long =
    rw (number, whole, field_here {A = List ℕ} size (λ _. Short) (λ bytes. Some bytes) bytes rest long) refl

pub program_short : (size : ℕ) (text middle : List ℕ) → coded_word BadNumber (between 0 65536) text ≡ reads size middle → length middle < size → coded_program text ≡ stops Short 0
unfolding coded_program
program_short size text middle number short = rw (number, field_short {A = List ℕ} size (λ _. Short) (λ bytes. Some bytes) middle short) refl

pub program_none : (text : List ℕ) (why : LogWhy) (left : ℕ) → coded_word BadNumber (between 0 65536) text ≡ stops why left → coded_program text ≡ stops why left
unfolding coded_program
program_none text why left none = rw none refl

-- a field that is cut off
pub field_stop : {A : Type 0} (width : ℕ) (said : Outcome A) (text rest rest' : List ℕ) (stop : ReadError) → IsField width text (Err stop) rest → (length text < width → said ≡ stops Short 0) → GivesFields said (Err stop) rest'
field_stop width said text rest rest' NoMemory is short = tt
field_stop width said text rest rest' (Fault why left) (less, short_why, none) short = rw (short_why, none) (short less)

pub program_stop : (text middle rest : List ℕ) (stop : ReadError) → GivesFields (coded_word BadNumber (between 0 65536) text) (Err stop) middle → GivesFields (coded_program text) (Err stop) rest
program_stop text middle rest NoMemory is = tt
program_stop text middle rest (Fault why left) is = program_none text why left is

-- the bits of a number, the lowest first
bits_first : (count first bits : ℕ) → bits_set (suc count) first bits ≡ bits_set 1 first bits ++ bits_set count (first + 1) (bits / 2)
bits_first count first bits = both (bits % 2 == 1)
  where
    both : (b : Bool) → (if b then first ∷ bits_set count (first + 1) (bits / 2) else bits_set count (first + 1) (bits / 2)) ≡ (if b then first ∷ [] else []) ++ bits_set count (first + 1) (bits / 2)
    both true = refl
    both false = refl

pub bits_more : (n rank left : ℕ) (before now whole : List ℕ) → rank < n → before ++ bits_set (n - rank) rank left ≡ whole → now ≡ before ++ bits_set 1 rank left → now ++ bits_set (n - (rank + 1)) (rank + 1) (left / 2) ≡ whole
bits_more n rank left before now whole less is now_is =
    let one : n - rank ≡ suc (n - (rank + 1)) = omega arith in
    ap (λ xs. xs ++ bits_set (n - (rank + 1)) (rank + 1) (left / 2)) now_is
    ∙ append_assoc before (bits_set 1 rank left) (bits_set (n - (rank + 1)) (rank + 1) (left / 2))
    ∙ ap (λ xs. before ++ xs) (sym (bits_first (n - (rank + 1)) rank left)) ∙ ap (λ k. before ++ bits_set k rank left) (sym one) ∙ is
