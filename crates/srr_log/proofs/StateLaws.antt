-- Which part may come next, what its line says, and the faults where none comes.
use Rattle.std.proofs.Common.{◌≡◌, ◌≢◌, ℕ, suc, ◌+◌, ◌-◌, ◌<◌, ◌≤◌, inl, inr, Bool, true, List, [], ◌∷◌, ◌++◌, map, length, drop, refl, sym, ◌∙◌, ap, subst, arith, append_assoc}
use Rattle.std.specs.Prelude.{◌&&◌, IfOk, slice_index, codes, nat_lt, Option, Some, None, Result, Ok, Err, if◌then◌else◌}
use Rattle.std.specs.Str.{bytes_eq}
use Rattle.std.proofs.Math.Seq.{drop-append_seam}
use Rattle.std.proofs.lemmas.Bool.{and_parts, ltb-true, false_from_ne_true}
use Rattle.std.proofs.lemmas.List.{append_cancel_right, append-nil, map-append, drop_more, length-replicate}
use Rattle.srr_entry.specs.declared.entry.Entry.{Entry}
use Rattle.wiz_base.specs.Decimals.{decimal_text}
use Rattle.wiz_base.specs.Lines.{HasNoNewline}
use Rattle.srr_log.specs.declared.fault.LogWhy.{LogWhy}
use Rattle.srr_log.specs.declared.fault.LogWhy.TheVariants.{Short, BadNumber}
use Rattle.srr_log.specs.declared.read_error.ReadError.{ReadError}
use Rattle.srr_log.specs.declared.read_error.ReadError.TheVariants.{NoMemory, Fault}
use Rattle.srr_log.specs.declared.read_error.Unread.{Unread}
use Rattle.srr_log.specs.declared.read_error.Unread.TheVariants.{NotAllowed, NoMemory as UnreadMemory}
use Rattle.srr_log.specs.EntryText.{each_after}
use Rattle.srr_log.specs.Parts.{LogPart, head_line, ranks_line, group_line, size_line, program_bytes, rank_line, entry_part, end_line, part_line, part_text, parts_text, lists_parts, line}
use Rattle.srr_log.specs.Faults.{IsWhole, HasNoEnd, IsReason}
use Rattle.srr_log.specs.inside.Pieces.{◌>>=◌, GivesPiece}
use Rattle.srr_log.specs.inside.LineReading.{ranks_line_in, group_line_in, size_line_in, rank_line_in, entry_line_in}
use Rattle.srr_log.specs.inside.Reading.{ReadingState, at_head, at_ranks, at_group, at_size, at_program, at_list, at_entry, at_end, entries_left, Allows, next, after, Runs, expected, IsOpen, FaultAt, FaultFrom, Reads, IsNextLine}
use Rattle.srr_log.specs.Refused.{line_fault}
use Rattle.srr_log.proofs.PieceLaws.{some, bind_some, guard_some, same_word}
use Rattle.srr_log.proofs.NoByteLaws.{NoByte, no_byte_cons, no_byte_nil, no_byte_append, no_byte_decimal, no_byte_behind, no_byte_map, no_line_entry}
use Rattle.srr_log.proofs.LineLaws.{ranks_line_read, ranks_line_said, group_line_read, group_line_said, size_line_read, size_line_said, rank_line_read, rank_line_said, entry_line_read, entry_line_said}

-- a line is read there
abbrev pub IsLineState : ReadingState → Type 0
IsLineState (at_program n group size) = ⊥
IsLineState at_end = ⊥
IsLineState state = Unit {0}

-- the numbers that are read there fit a byte
abbrev pub IsSmallState : ReadingState → Type 0
IsSmallState (at_group n) = n ≤ 256
IsSmallState (at_list n group (rank ∷ ranks)) = rank ≤ 255
IsSmallState (at_entry n group others ranks) = n ≤ 256
IsSmallState state = Unit {0}

-- the part of which it is the line
abbrev pub line_in : ReadingState → List ℕ → Option LogPart
line_in at_head line = if bytes_eq line (codes "srr 1") then Some head_line else None
line_in at_ranks line = ranks_line_in line >>= λ ranks. Some (ranks_line ranks)
line_in (at_group n) line = group_line_in n line >>= λ group. Some (group_line group)
line_in (at_size n group) line = size_line_in line >>= λ size. Some (size_line size)
line_in (at_program n group size) line = None
line_in (at_list n group (rank ∷ ranks)) line = rank_line_in rank line >>= λ count. Some (rank_line rank count)
line_in (at_list n group []) line = if bytes_eq line (codes "end") then Some end_line else None
line_in (at_entry n group others ranks) line = entry_line_in n group others line >>= λ entry. Some (entry_part entry)
line_in at_end line = None

pub line_read : (state : ReadingState) (part : LogPart) → IsSmallState state → IsLineState state → Allows state part → line_in state (part_line part) ≡ some part
line_read at_head head_line small is ok = refl
line_read at_ranks (ranks_line ranks) small is ok = rw (ranks_line_read ranks ok.0 ok.1) refl
line_read (at_group n) (group_line group) small is ok = rw (group_line_read n group small ok) refl
line_read (at_size n group) (size_line size) small is ok = rw (size_line_read size ok) refl
line_read (at_list n group (rank ∷ ranks)) (rank_line named count) small is ok =
    ap (λ r. line_in (at_list n group (rank ∷ ranks)) (part_line (rank_line r count))) ok.0 ∙ rw (rank_line_read rank count small ok.1) refl ∙ ap (λ r. some (rank_line r count)) (sym ok.0)
line_read (at_list n group []) end_line small is ok = refl
line_read (at_entry n group others ranks) (entry_part entry) small is ok = rw (entry_line_read n group others entry small ok.0 ok.1) refl
line_read (at_program n group size) part small is ok = absurd is
line_read at_end part small is ok = absurd is
line_read state part small is ok = absurd ok

-- a part that may come, and its line
abbrev pub IsLineOfPart : ReadingState → List ℕ → LogPart → Type 0
IsLineOfPart state line part = Allows state part × (line ≡ part_line part)

pub line_said : (state : ReadingState) (line : List ℕ) (part : LogPart) → line_in state line ≡ some part → IsLineOfPart state line part
line_said at_head line part e =
    let g = guard_some (bytes_eq line (codes "srr 1")) head_line part e in
    subst (IsLineOfPart at_head line) g.1 (tt, same_word line (codes "srr 1") g.0)
line_said at_ranks line part e =
    let a = bind_some (ranks_line_in line) (λ ranks. some (ranks_line ranks)) part e in
    let said = ranks_line_said line a.0 a.1 in
    let same : ranks_line a.0 ≡ part = let s = a.2 in cc in
    subst (IsLineOfPart at_ranks line) same ((said.0, said.1), said.2)
line_said (at_group n) line part e =
    let a = bind_some (group_line_in n line) (λ group. some (group_line group)) part e in
    let said = group_line_said n line a.0 a.1 in
    let same : group_line a.0 ≡ part = let s = a.2 in cc in
    subst (IsLineOfPart (at_group n) line) same said
line_said (at_size n group) line part e =
    let a = bind_some (size_line_in line) (λ size. some (size_line size)) part e in
    let said = size_line_said line a.0 a.1 in
    let same : size_line a.0 ≡ part = let s = a.2 in cc in
    subst (IsLineOfPart (at_size n group) line) same said
line_said (at_program n group size) line part e = absurd (cc)
line_said (at_list n group (rank ∷ ranks)) line part e =
    let a = bind_some (rank_line_in rank line) (λ count. some (rank_line rank count)) part e in
    let said = rank_line_said rank line a.0 a.1 in
    let same : rank_line rank a.0 ≡ part = let s = a.2 in cc in
    subst (IsLineOfPart (at_list n group (rank ∷ ranks)) line) same ((refl, said.0), said.1)
line_said (at_list n group []) line part e =
    let g = guard_some (bytes_eq line (codes "end")) end_line part e in
    subst (IsLineOfPart (at_list n group []) line) g.1 (tt, same_word line (codes "end") g.0)
line_said (at_entry n group others ranks) line part e =
    let a = bind_some (entry_line_in n group others line) (λ entry. some (entry_part entry)) part e in
    let said = entry_line_said n group others line a.0 a.1 in
    let same : entry_part a.0 ≡ part = let s = a.2 in cc in
    subst (IsLineOfPart (at_entry n group others ranks) line) same ((said.0, said.1), said.2)
line_said at_end line part e = absurd (cc)

-- no newline is in a line
abbrev plain : List ℕ → Bool
plain [] = true
plain (byte ∷ bytes) = nat_lt 10 byte && plain bytes

plain_word : (word text : List ℕ) → plain word ≡ true → NoByte 10 text → NoByte 10 (word ++ text)
plain_word [] text word_plain none = none
plain_word (byte ∷ word) text word_plain none =
    let parts = and_parts (nat_lt 10 byte) (plain word) word_plain in
    let above = ltb-true 10 byte parts.0 in
    no_byte_cons 10 byte (word ++ text) (λ e. omega arith) (plain_word word text parts.1 none)

pub no_newline : (state : ReadingState) (part : LogPart) → IsLineState state → Allows state part → HasNoNewline (part_line part)
no_newline at_head head_line is ok = plain_word (codes "srr 1") [] refl (no_byte_nil 10)
no_newline at_ranks (ranks_line ranks) is ok = plain_word (codes "ranks ") (decimal_text ranks) refl (no_byte_decimal 10 ranks (omega arith))
no_newline (at_group n) (group_line group) is ok =
    plain_word (codes "group") (each_after 32 (map decimal_text group)) refl
    (no_byte_behind 10 32 (map decimal_text group) (λ e. omega (arith, e)) (no_byte_map 10 decimal_text (λ rank. no_byte_decimal 10 rank (omega arith)) group))
no_newline (at_size n group) (size_line size) is ok = plain_word (codes "program ") (decimal_text size) refl (no_byte_decimal 10 size (omega arith))
no_newline (at_list n group (rank ∷ ranks)) (rank_line named count) is ok =
    plain_word (codes "rank ") (decimal_text named ++ 32 ∷ decimal_text count) refl
    (no_byte_append 10 (decimal_text named) (32 ∷ decimal_text count) (no_byte_decimal 10 named (omega arith)) (plain_word (codes " ") (decimal_text count) refl (no_byte_decimal 10 count (omega arith))))
no_newline (at_list n group []) end_line is ok = plain_word (codes "end") [] refl (no_byte_nil 10)
no_newline (at_entry n group others ranks) (entry_part entry) is ok = no_line_entry entry
no_newline (at_program n group size) part is ok = absurd is
no_newline at_end part is ok = absurd is
no_newline state part is ok = absurd ok

-- an end of a line is the place of its newline
pub open_line : (state : ReadingState) → IsLineState state → IsOpen state
open_line at_head is = tt
open_line at_ranks is = tt
open_line (at_group n) is = tt
open_line (at_size n group) is = tt
open_line (at_program n group size) is = tt
open_line (at_list n group ranks) is = tt
open_line (at_entry n group others ranks) is = tt
open_line at_end is = absurd is

pub line_no_end : (state : ReadingState) (rest : List ℕ) → IsLineState state → HasNoNewline rest → HasNoEnd (expected state) rest
line_no_end at_head rest is none = none
line_no_end at_ranks rest is none = none
line_no_end (at_group n) rest is none = none
line_no_end (at_size n group) rest is none = none
line_no_end (at_program n group size) rest is none = absurd is
line_no_end (at_list n group []) rest is none = none
line_no_end (at_list n group (rank ∷ ranks)) rest is none = none
line_no_end (at_entry n group others ranks) rest is none = none
line_no_end at_end rest is none = absurd is

pub line_whole : (state : ReadingState) (bytes : List ℕ) → IsLineState state → HasNoNewline bytes → IsWhole (expected state) (bytes ++ 10 ∷ [])
line_whole at_head bytes is none = (bytes, none, refl)
line_whole at_ranks bytes is none = (bytes, none, refl)
line_whole (at_group n) bytes is none = (bytes, none, refl)
line_whole (at_size n group) bytes is none = (bytes, none, refl)
line_whole (at_program n group size) bytes is none = absurd is
line_whole (at_list n group []) bytes is none = (bytes, none, refl)
line_whole (at_list n group (rank ∷ ranks)) bytes is none = (bytes, none, refl)
line_whole (at_entry n group others ranks) bytes is none = (bytes, none, refl)
line_whole at_end bytes is none = absurd is

-- a fault right there
pub fault_here : (state : ReadingState) (text : List ℕ) (why : LogWhy) (left : ℕ) → FaultAt state text why left → FaultFrom state text why left
fault_here state text why left fault = ([], text, tt, refl, fault)

pub short_line : (state : ReadingState) (text : List ℕ) → IsLineState state → HasNoNewline text → FaultFrom state text Short 0
short_line state text is none = fault_here state text Short 0 (inl (refl, refl, open_line state is, line_no_end state text is none))

pub bad_line : (state : ReadingState) (text bytes rest : List ℕ) (why : LogWhy) → IsLineState state → IsSmallState state → line_in state bytes ≡ None → HasNoNewline bytes → text ≡ bytes ++ 10 ∷ rest
    → IsReason (expected state) (bytes ++ 10 ∷ []) why → FaultFrom state text why (length text)
bad_line state text bytes rest why is small none plain whole reason =
    fault_here state text why (length text) (inr (
      refl,
      inr record {
        open' = open_line state is;
        found = bytes ++ 10 ∷ [];
        behind = rest;
        whole = line_whole state bytes is plain;
        is = whole ∙ sym (append_assoc bytes (10 ∷ []) rest);
        none = λ part ok e.
            let same : part_line part ≡ bytes = append_cancel_right (part_line part) bytes (10 ∷ []) e in
            let found : some part ≡ None = sym (line_read state part small is ok) ∙ ap (line_in state) same ∙ none in
            absurd (cc);
        reason = reason;
      },
    ))

-- parts, and parts after them
pub runs_append : (state : ReadingState) (parts others : List LogPart) → Runs state parts → Runs (after state parts) others → Runs state (parts ++ others)
runs_append state [] others run run' = run'
runs_append state (part ∷ parts) others (ok, run) run' = (ok, runs_append (next state part) parts others run run')

pub after_append : (state : ReadingState) (parts others : List LogPart) → after state (parts ++ others) ≡ after (after state parts) others
after_append state [] others = refl
after_append state (part ∷ parts) others = after_append (next state part) parts others

pub runs_split : (state : ReadingState) (parts others : List LogPart) → Runs state (parts ++ others) → Runs state parts × Runs (after state parts) others
runs_split state [] others run = (tt, run)
runs_split state (part ∷ parts) others (ok, run) = let both = runs_split (next state part) parts others run in ((ok, both.0), both.1)

pub parts_text-append : (parts others : List LogPart) (behind : List ℕ) → parts_text (parts ++ others) behind ≡ parts_text parts (parts_text others behind)
parts_text-append [] others behind = refl
parts_text-append (part ∷ parts) others behind = ap (line (part_line part)) (parts_text-append parts others behind)

-- a fault after parts that were read is the whole's
pub fault_behind : (state : ReadingState) (parts : List LogPart) (text rest : List ℕ) (why : LogWhy) (left : ℕ) → Runs state parts → text ≡ parts_text parts rest
    → FaultFrom (after state parts) rest why left → FaultFrom state text why left
fault_behind state parts text rest why left run is (others, last, run', is', fault) = (
  parts ++ others,
  last,
  runs_append state parts others run run',
  is ∙ ap (parts_text parts) is' ∙ sym (parts_text-append parts others last),
  subst (λ s. FaultAt s last why left) (sym (after_append state parts others)) fault,
)

-- what a line's reader answers
module _ {A : Type 0} (state : ReadingState) (spelled : A → List LogPart) where
  pub reads_line : (text bytes rest : List ℕ) (value : A) (part : LogPart) → spelled value ≡ part ∷ [] → line_in state bytes ≡ some part → text ≡ bytes ++ 10 ∷ rest → Reads state spelled text (Ok value) rest
  reads_line text bytes rest value part one said is =
      let line' = line_said state bytes part said in
      (subst (Runs state) (sym one) (line'.0, tt), is ∙ ap (λ xs. line xs rest) line'.1 ∙ ap (λ parts. parts_text parts rest) (sym one))

  pub reads_short : (text rest rest' : List ℕ) (stop : ReadError) → IsLineState state → IsNextLine text (Err stop) rest → Reads state spelled text (Err stop) rest'
  reads_short text rest rest' NoMemory is none = tt
  reads_short text rest rest' (Fault why left) is (none, short, end) =
      subst (λ w. FaultFrom state text w left) (sym short) (subst (FaultFrom state text Short) (sym end) (short_line state text is none))

  pub reads_bad : (text bytes rest rest' : List ℕ) (why : LogWhy) (left : ℕ) → IsLineState state → IsSmallState state → line_in state bytes ≡ None → HasNoNewline bytes → text ≡ bytes ++ 10 ∷ rest
      → IsReason (expected state) (bytes ++ 10 ∷ []) why → left ≡ length text → Reads state spelled text (Err (Fault why left)) rest'
  reads_bad text bytes rest rest' why left is small none plain whole reason all =
      subst (FaultFrom state text why) (sym all) (bad_line state text bytes rest why is small none plain whole reason)

-- what was read after other parts
module _ {A B : Type 0} (state : ReadingState) (parts : List LogPart) (spelled : A → List LogPart) (spelled' : B → List LogPart) where
  pub reads_behind : (text middle rest rest' : List ℕ) (stop : ReadError) → Runs state parts → text ≡ parts_text parts middle → Reads (after state parts) spelled middle (Err stop) rest → Reads state spelled' text (Err stop) rest'
  reads_behind text middle rest rest' NoMemory run is fault = tt
  reads_behind text middle rest rest' (Fault why left) run is fault = fault_behind state parts text middle why left run is fault

-- a line's reader that may run out of memory
module _ {A B : Type 0} (state : ReadingState) (spelled : A → List LogPart) where
  pub reads_unread : (text bytes rest rest' : List ℕ) (why : LogWhy) (left : ℕ) (unread : Unread) (said : Option B) (part_of : B → LogPart) → IsLineState state → IsSmallState state
      → line_in state bytes ≡ (said >>= λ value. Some (part_of value)) → GivesPiece (Err unread) said → HasNoNewline bytes → text ≡ bytes ++ 10 ∷ rest
      → IsReason (expected state) (bytes ++ 10 ∷ []) why → left ≡ length text → Reads state spelled text (Err (line_fault unread why left)) rest'
  reads_unread text bytes rest rest' why left NotAllowed said part_of is small says none plain whole reason all =
      reads_bad state spelled text bytes rest rest' why left is small (says ∙ rw none refl) plain whole reason all
  reads_unread text bytes rest rest' why left UnreadMemory said part_of is small says none plain whole reason all = tt

-- parts that were read one after the other
abbrev pub AreRead : ReadingState → List LogPart → List ℕ → List ℕ → Type 0
AreRead state parts text rest = Runs state parts × (text ≡ parts_text parts rest)

pub read_then : (state : ReadingState) (parts others : List LogPart) (text middle rest : List ℕ) → AreRead state parts text middle → AreRead (after state parts) others middle rest → AreRead state (parts ++ others) text rest
read_then state parts others text middle rest first second =
    (runs_append state parts others first.0 second.0, first.1 ∙ ap (parts_text parts) second.1 ∙ sym (parts_text-append parts others rest))

-- the first line and the last one
pub other_head : (bytes : List ℕ) → bytes ≢ codes "srr 1" → line_in at_head bytes ≡ None
other_head bytes apart = rw (false_from_ne_true (bytes_eq bytes (codes "srr 1")) (λ same. apart (same_word bytes (codes "srr 1") same))) refl

pub other_end : (n : ℕ) (group bytes : List ℕ) → bytes ≢ codes "end" → line_in (at_list n group []) bytes ≡ None
other_end n group bytes apart = rw (false_from_ne_true (bytes_eq bytes (codes "end")) (λ same. apart (same_word bytes (codes "end") same))) refl

-- the program's part
program_part : (n : ℕ) (group : List ℕ) (size : ℕ) (part : LogPart) → Allows (at_program n group size) part → (program : List ℕ) × (part ≡ program_bytes program) × (length program ≡ size)
program_part n group size (program_bytes program) ok = (program, refl, ok)
program_part n group size part ok = absurd ok

bad_program : (n : ℕ) (group : List ℕ) (size : ℕ) (text found rest : List ℕ) → text ≡ found ++ rest → length found ≡ size + 1 → drop size found ≢ 10 ∷ [] → FaultFrom (at_program n group size) text BadNumber (length text)
bad_program n group size text found rest whole many apart =
    fault_here (at_program n group size) text BadNumber (length text) (inr (
      refl,
      inr record {
        open' = tt;
        found = found;
        behind = rest;
        whole = many ∙ ap (λ k. k + 1) (sym (length-replicate size 0));
        is = whole;
        none = λ part ok e.
            let p = program_part n group size part ok in
            let text_is : p.0 ++ 10 ∷ [] ≡ found = ap part_text (sym p.1) ∙ e in
            apart (ap (drop size) (sym text_is) ∙ ap (λ k. drop k (p.0 ++ 10 ∷ [])) (sym p.2) ∙ drop-append_seam p.0 (10 ∷ []));
        reason = refl;
      },
    ))

pub reads_bad_program : (n : ℕ) (group : List ℕ) (size left : ℕ) (text found rest rest' : List ℕ) → text ≡ found ++ rest → length found ≡ size + 1 → drop size found ≢ 10 ∷ [] → left ≡ length text
    → Reads (at_program n group size) (λ program. program_bytes program ∷ []) text (Err (Fault BadNumber left)) rest'
reads_bad_program n group size left text found rest rest' whole many apart all =
    subst (FaultFrom (at_program n group size) text BadNumber) (sym all) (bad_program n group size text found rest whole many apart)

-- the program's size and its bytes; a list's line and its entries
pub reads_program : (n : ℕ) (group : List ℕ) (size : ℕ) (text middle rest : List ℕ) (r : Result (List ℕ) ReadError) → AreRead (at_size n group) (size_line size ∷ []) text middle
    → Reads (at_program n group size) (λ program. program_bytes program ∷ []) middle r rest → Reads (at_size n group) (λ program. size_line (length program) ∷ program_bytes program ∷ []) text r rest
reads_program n group size text middle rest (Ok program) read behind =
    let both = read_then (at_size n group) (size_line size ∷ []) (program_bytes program ∷ []) text middle rest read behind in
    let P : ℕ → Type 0 = λ k. AreRead (at_size n group) (size_line k ∷ program_bytes program ∷ []) text rest in
    subst P (sym behind.0.0) both
reads_program n group size text middle rest (Err stop) read behind =
    reads_behind (at_size n group) (size_line size ∷ []) (λ program. program_bytes program ∷ []) (λ program. size_line (length program) ∷ program_bytes program ∷ []) text middle rest rest stop read.0 read.1 behind

pub reads_list : (n : ℕ) (group : List ℕ) (rank count : ℕ) (behind text middle rest : List ℕ) (r : Result (List Entry) ReadError) → IfOk r (λ entries. length entries ≡ count)
    → AreRead (at_list n group (rank ∷ behind)) (rank_line rank count ∷ []) text middle → Reads (entries_left n group count behind) (λ entries. map entry_part entries) middle r rest
    → Reads (at_list n group (rank ∷ behind)) (λ entries. rank_line rank (length entries) ∷ map entry_part entries) text r rest
reads_list n group rank count behind text middle rest (Ok entries) many read later =
    let both = read_then (at_list n group (rank ∷ behind)) (rank_line rank count ∷ []) (map entry_part entries) text middle rest read later in
    let P : ℕ → Type 0 = λ k. AreRead (at_list n group (rank ∷ behind)) (rank_line rank k ∷ map entry_part entries) text rest in
    subst P (sym many) both
reads_list n group rank count behind text middle rest (Err stop) many read later =
    reads_behind (at_list n group (rank ∷ behind)) (rank_line rank count ∷ []) (λ entries. map entry_part entries) (λ entries. rank_line rank (length entries) ∷ map entry_part entries) text middle rest rest stop read.0 read.1 later

-- so many entries more
pub after_entries : (n : ℕ) (group : List ℕ) (left : ℕ) (behind : List ℕ) (entries : List Entry) → after (entries_left n group (length entries + left) behind) (map entry_part entries) ≡ entries_left n group left behind
after_entries n group left behind [] = let none : 0 + left ≡ left = omega arith in rw none refl
after_entries n group left behind (entry ∷ entries) =
    let one : length (entry ∷ entries) + left ≡ suc (length entries + left) = omega arith in rw one (after_entries n group left behind entries)

pub entries_onward : (n : ℕ) (group : List ℕ) (count left : ℕ) (behind text middle rest : List ℕ) (entries now : List Entry) (entry : Entry) → length entries + left ≡ count → 0 < left
    → AreRead (entries_left n group count behind) (map entry_part entries) text middle → AreRead (at_entry n group (left - 1) behind) (entry_part entry ∷ []) middle rest → now ≡ entries ++ entry ∷ []
    → AreRead (entries_left n group count behind) (map entry_part now) text rest
entries_onward n group count left behind text middle rest entries now entry many some' read one grown =
    let here : after (entries_left n group count behind) (map entry_part entries) ≡ at_entry n group (left - 1) behind =
    ap (λ k. after (entries_left n group k behind) (map entry_part entries)) (sym many) ∙ after_entries n group left behind entries ∙ ap (λ k. entries_left n group k behind) (let k : left ≡ suc (left - 1) = omega arith in k) in
    let P : ReadingState → Type 0 = λ s. AreRead s (entry_part entry ∷ []) middle rest in
    let both = read_then (entries_left n group count behind) (map entry_part entries) (entry_part entry ∷ []) text middle rest read (subst P (sym here) one) in
    let Q : List LogPart → Type 0 = λ parts. AreRead (entries_left n group count behind) parts text rest in
    subst Q (sym (ap (map entry_part) grown ∙ map-append entry_part entries (entry ∷ []))) both

pub entries_stop : (n : ℕ) (group : List ℕ) (count left : ℕ) (behind text middle rest rest' : List ℕ) (entries : List Entry) (stop : ReadError) → length entries + left ≡ count → 0 < left
    → AreRead (entries_left n group count behind) (map entry_part entries) text middle → Reads (at_entry n group (left - 1) behind) (λ entry. entry_part entry ∷ []) middle (Err stop) rest
    → Reads (entries_left n group count behind) (λ entries. map entry_part entries) text (Err stop) rest'
entries_stop n group count left behind text middle rest rest' entries stop many some' read one =
    let here : after (entries_left n group count behind) (map entry_part entries) ≡ at_entry n group (left - 1) behind =
    ap (λ k. after (entries_left n group k behind) (map entry_part entries)) (sym many) ∙ after_entries n group left behind entries ∙ ap (λ k. entries_left n group k behind) (let k : left ≡ suc (left - 1) = omega arith in k) in
    let P : ReadingState → Type 0 = λ s. Reads s (λ entry. entry_part entry ∷ []) middle (Err stop) rest in
    reads_behind (entries_left n group count behind) (map entry_part entries) (λ entry. entry_part entry ∷ []) (λ entries. map entry_part entries) text middle rest rest' stop read.0 read.1 (subst P (sym here) one)

-- one list more
lists_snoc : (group : List ℕ) (lists : List (List Entry)) (entries : List Entry) → length lists < length group
    → lists_parts group (lists ++ entries ∷ []) [] ≡ lists_parts group lists [] ++ (rank_line (slice_index group (length lists)) (length entries) ∷ map entry_part entries)
lists_snoc [] lists entries within = absurd (omega arith)
lists_snoc (rank ∷ group) [] entries within = ap (λ parts. rank_line rank (length entries) ∷ parts) (ap (λ parts. map entry_part entries ++ parts) (no_lists group) ∙ append-nil (map entry_part entries))
  where
    no_lists : (group : List ℕ) → lists_parts group [] [] ≡ []
    no_lists [] = refl
    no_lists (rank ∷ group) = refl
lists_snoc (rank ∷ group) (list ∷ lists) entries within =
    ap (λ parts. rank_line rank (length list) ∷ (map entry_part list ++ parts)) (lists_snoc group lists entries (omega arith))
    ∙ ap (λ parts. rank_line rank (length list) ∷ parts) (sym (append_assoc (map entry_part list) (lists_parts group lists []) (rank_line (slice_index group (length lists)) (length entries) ∷ map entry_part entries)))

pub after_lists : (n : ℕ) (group ranks : List ℕ) (lists : List (List Entry)) → length lists ≤ length ranks → after (at_list n group ranks) (lists_parts ranks lists []) ≡ at_list n group (drop (length lists) ranks)
after_lists n group [] [] fits = refl
after_lists n group [] (list ∷ lists) fits = absurd (omega arith)
after_lists n group (rank ∷ ranks) [] fits = refl
after_lists n group (rank ∷ ranks) (list ∷ lists) fits =
    after_append (entries_left n group (length list) ranks) (map entry_part list) (lists_parts ranks lists [])
    ∙ ap (λ s. after s (lists_parts ranks lists [])) (ap (λ k. after (entries_left n group k ranks) (map entry_part list)) (let k : length list ≡ length list + 0 = omega arith in k) ∙ after_entries n group 0 ranks list)
    ∙ after_lists n group ranks lists (omega arith)

pub lists_onward : (n : ℕ) (group text middle rest : List ℕ) (lists now : List (List Entry)) (entries : List Entry) (index : ℕ) → length lists ≡ index → index < length group
    → AreRead (at_list n group group) (lists_parts group lists []) text middle
    → AreRead (at_list n group (slice_index group index ∷ drop (index + 1) group)) (rank_line (slice_index group index) (length entries) ∷ map entry_part entries) middle rest → now ≡ lists ++ entries ∷ []
    → AreRead (at_list n group group) (lists_parts group now []) text rest
lists_onward n group text middle rest lists now entries index many within read one grown =
    let here : after (at_list n group group) (lists_parts group lists []) ≡ at_list n group (slice_index group index ∷ drop (index + 1) group) =
    after_lists n group group lists (omega arith) ∙ ap (at_list n group) (ap (λ k. drop k group) many ∙ drop_more group index 0 within) in
    let P : ReadingState → Type 0 = λ s. AreRead s (rank_line (slice_index group index) (length entries) ∷ map entry_part entries) middle rest in
    let both = read_then (at_list n group group) (lists_parts group lists []) (rank_line (slice_index group index) (length entries) ∷ map entry_part entries) text middle rest read (subst P (sym here) one) in
    let Q : List LogPart → Type 0 = λ parts. AreRead (at_list n group group) parts text rest in
    subst Q (sym (ap (λ ls. lists_parts group ls []) grown ∙ lists_snoc group lists entries (omega arith)
    ∙ ap (λ k. lists_parts group lists [] ++ (rank_line (slice_index group k) (length entries) ∷ map entry_part entries)) many)) both

pub lists_stop : (n : ℕ) (group text middle rest rest' : List ℕ) (lists : List (List Entry)) (index : ℕ) (stop : ReadError) → length lists ≡ index → index < length group
    → AreRead (at_list n group group) (lists_parts group lists []) text middle
    → Reads (at_list n group (slice_index group index ∷ drop (index + 1) group)) (λ entries. rank_line (slice_index group index) (length entries) ∷ map entry_part entries) middle (Err stop) rest
    → Reads (at_list n group group) (λ lists. lists_parts group lists []) text (Err stop) rest'
lists_stop n group text middle rest rest' lists index stop many within read one =
    let here : after (at_list n group group) (lists_parts group lists []) ≡ at_list n group (slice_index group index ∷ drop (index + 1) group) =
    after_lists n group group lists (omega arith) ∙ ap (at_list n group) (ap (λ k. drop k group) many ∙ drop_more group index 0 within) in
    let P : ReadingState → Type 0 = λ s. Reads s (λ entries. rank_line (slice_index group index) (length entries) ∷ map entry_part entries) middle (Err stop) rest in
    reads_behind (at_list n group group) (lists_parts group lists []) (λ entries. rank_line (slice_index group index) (length entries) ∷ map entry_part entries) (λ lists. lists_parts group lists []) text middle rest rest' stop read.0 read.1 (subst P (sym here) one)

pub no_lists_read : (n : ℕ) (group ranks text : List ℕ) → AreRead (at_list n group ranks) (lists_parts ranks [] []) text text
no_lists_read n group [] text = (tt, refl)
no_lists_read n group (rank ∷ ranks) text = (tt, refl)
