-- Each text has a log or a first fault: it is read part by part, up to the last part or to one that may not come.
use Rattle.std.proofs.Common.{◌≡◌, ◌≢◌, ℕ, zero, suc, ◌+◌, ◌-◌, ◌<◌, ◌≤◌, ◌⊎◌, inl, inr, true, List, [], ◌∷◌, ◌++◌, length, take, drop, get_or, replicate, refl, sym, ◌∙◌, ap, arith, append_assoc, length-append}
use Rattle.std.specs.Prelude.{◌==◌, codes, None}
use Rattle.std.specs.Str.{bytes_eq}
use Rattle.std.specs.Str.Parse.{digits_value}
use Rattle.std.proofs.Math.Seq.{drop-append_seam, drop-cons}
use Rattle.std.proofs.lemmas.Bool.{cases_Bool, cases_lt, eq-eqb, eqb-true}
use Rattle.std.proofs.lemmas.List.{length-replicate, length-take-le, take-append-drop}
use Rattle.srr_entry.specs.declared.log.Log.{Log}
use Rattle.wiz_base.specs.Decimals.{decimal_text}
use Rattle.wiz_base.specs.Lines.{HasNoNewline}
use Rattle.wiz_base.specs.Readings.{IsDecimal}
use Rattle.wiz_base.proofs.DecimalLaws.{decimal_text-is}
use Rattle.srr_log.specs.LogText.{IsLogText}
use Rattle.srr_log.specs.declared.fault.LogFault.{LogFault}
use Rattle.srr_log.specs.declared.fault.LogWhy.{LogWhy}
use Rattle.srr_log.specs.declared.fault.LogWhy.TheVariants.{BadHead, BadNumber, BadGroup, BadEntry, Short, Extra, BadVersion}
use Rattle.srr_log.specs.Faults.{IsFirstPartFault, IsReason}
use Rattle.srr_log.specs.Parts.{LogPart, head_line, program_bytes, part_line, parts_text, line}
use Rattle.srr_log.specs.inside.Pieces.{after_word}
use Rattle.srr_log.specs.inside.Reading.{ReadingState, at_head, at_ranks, at_group, at_size, at_program, at_list, at_entry, at_end, Allows, next, expected, FaultFrom}
use Rattle.srr_log.proofs.FaultLaws.{fault_within, first_fault}
use Rattle.srr_log.proofs.LineLaws.{no_decimal, no_version, none_behind, other_version}
use Rattle.srr_log.proofs.LogLaws.{IsReached, RunsTo, reached_next, reached_small, runs_some_log}
use Rattle.srr_log.proofs.NoByteLaws.{no_byte_cons, no_byte_nil}
use Rattle.srr_log.proofs.PieceLaws.{said_cases, same_word, some, word_same}
use Rattle.srr_log.proofs.StateLaws.{IsLineState, bad_line, fault_behind, fault_here, line_in, line_said, reads_bad_program, short_line}

-- the parts up to the end of a log, or a fault
abbrev IsRead : ReadingState → List ℕ → Type 0
IsRead state text =
    ((parts : List LogPart) × RunsTo state parts × (text ≡ parts_text parts []))
    ⊎ ((why : LogWhy) × (left : ℕ) × FaultFrom state text why left)

-- so is each shorter text at each state that is reached
abbrev AreShorterRead : ℕ → Type 0
AreShorterRead size = (state : ReadingState) (text : List ℕ) → length text < size → IsReached state → IsRead state text

-- a text has a line, or no newline
cut_line : (text : List ℕ) → HasNoNewline text ⊎ ((bytes : List ℕ) × (rest : List ℕ) × HasNoNewline bytes × (text ≡ bytes ++ 10 ∷ rest))
cut_line [] = inl (no_byte_nil 10)
cut_line (byte ∷ text) =
    elim (cases_Bool (byte == 10)) [
      | inl same ↦ inr ([], text, no_byte_nil 10, ap (λ b. b ∷ text) (eqb-true byte 10 same))
      | inr apart ↦ (
          let other : byte ≢ 10 = λ e. (let yes = eq-eqb byte 10 e in cc) in
          elim (cut_line text) [
            | inl none ↦ inl (no_byte_cons 10 byte text other none)
            | inr (bytes, rest, none, is) ↦ inr (byte ∷ bytes, rest, no_byte_cons 10 byte bytes other none, ap (λ xs. byte ∷ xs) is)
          ])
    ]

-- the spelling of a number is told from other texts
decimal_or_none : (text : List ℕ) → IsDecimal text ⊎ ¬ (IsDecimal text)
decimal_or_none text =
    elim (cases_Bool (bytes_eq text (decimal_text (digits_value 10 text)))) [
      | inl same ↦ inl (digits_value 10 text, same_word text (decimal_text (digits_value 10 text)) same)
      | inr apart ↦ inr (λ (value, is). let yes : bytes_eq text (decimal_text (digits_value 10 text)) ≡ true = rw (is, (decimal_text-is value).value) (word_same (decimal_text value)) in absurd (cc))
    ]

-- a line that is no part has a reason
head_reason : (bytes : List ℕ) → bytes ≢ codes "srr 1" → (why : LogWhy) × IsReason head_line (bytes ++ 10 ∷ []) why
head_reason bytes apart =
    elim (said_cases (after_word (codes "srr ") bytes)) [
      | inl (text, is) ↦ elim (decimal_or_none text) [
        | inl decimal ↦ (BadVersion, other_version bytes text apart is decimal)
        | inr none ↦ (BadHead, no_version bytes (no_decimal bytes text is none))
      ]
      | inr none ↦ (BadHead, no_version bytes (none_behind bytes none))
    ]

reason_of : (state : ReadingState) (bytes : List ℕ) → IsLineState state → line_in state bytes ≡ None → (why : LogWhy) × IsReason (expected state) (bytes ++ 10 ∷ []) why
reason_of at_head bytes is none =
    head_reason bytes (λ e. let found : some head_line ≡ None = sym (ap (line_in at_head) e) ∙ none in absurd (cc))
reason_of at_ranks bytes is none = (BadNumber, refl)
reason_of (at_group n) bytes is none = (BadGroup, refl)
reason_of (at_size n group) bytes is none = (BadNumber, refl)
reason_of (at_program n group size) bytes is none = absurd is
reason_of (at_list n group []) bytes is none = (BadEntry, refl)
reason_of (at_list n group (rank ∷ ranks)) bytes is none = (BadNumber, refl)
reason_of (at_entry n group others ranks) bytes is none = (BadEntry, refl)
reason_of at_end bytes is none = absurd is

-- a part that may come, and what is read behind it
one_more : (state : ReadingState) (part : LogPart) (text rest : List ℕ) → Allows state part → text ≡ line (part_line part) rest → IsRead (next state part) rest → IsRead state text
one_more state part text rest ok is (inl (parts, to, whole)) = inl (part ∷ parts, ((ok, to.0), to.1), is ∙ ap (line (part_line part)) whole)
one_more state part text rest ok is (inr (why, left, fault)) = inr (why, left, fault_behind state (part ∷ []) text rest why left (ok, tt) is fault)

line_shorter : (bytes rest text : List ℕ) → text ≡ bytes ++ 10 ∷ rest → length rest < length text
line_shorter bytes rest text is =
    let long : length text ≡ length bytes + length (10 ∷ rest) = ap length is ∙ length-append bytes (10 ∷ rest) in omega (arith, long)

read_line : (state : ReadingState) (text : List ℕ) → IsLineState state → IsReached state → AreShorterRead (length text) → IsRead state text
read_line state text is reached more =
    elim (cut_line text) [
      | inl none ↦ inr (Short, 0, short_line state text is none)
      | inr (bytes, rest, plain, whole) ↦ elim (said_cases (line_in state bytes)) [
        | inl (part, said) ↦ (
            let here = line_said state bytes part said in
            one_more state part text rest here.0 (whole ∙ ap (λ xs. line xs rest) here.1)
            (more (next state part) rest (line_shorter bytes rest text whole) (reached_next state part reached here.0)))
        | inr none ↦ (
            let reason = reason_of state bytes is none in
            inr (reason.0, length text, bad_line state text bytes rest reason.0 is (reached_small state reached) none plain whole reason.1))
      ]
    ]

-- the program's bytes, and a byte that is a newline or none
read_bytes : (n : ℕ) (group : List ℕ) (size : ℕ) (text program rest : List ℕ) (byte : ℕ) → length program ≡ size → text ≡ program ++ byte ∷ rest
    → IsReached (at_program n group size) → AreShorterRead (length text) → IsRead (at_program n group size) text
read_bytes n group size text program rest byte many whole reached more =
    elim (cases_Bool (byte == 10)) [
      | inl same ↦ (
          let newline : byte ≡ 10 = eqb-true byte 10 same in
          let is : text ≡ program ++ 10 ∷ rest = whole ∙ ap (λ b. program ++ b ∷ rest) newline in
          one_more (at_program n group size) (program_bytes program) text rest many is
          (more (next (at_program n group size) (program_bytes program)) rest (line_shorter program rest text is) (reached_next (at_program n group size) (program_bytes program) reached many)))
      | inr apart ↦ (
          let found : List ℕ = program ++ byte ∷ [] in
          let is : text ≡ found ++ rest = whole ∙ sym (append_assoc program (byte ∷ []) rest) in
          let one : length found ≡ length program + 1 = length-append program (byte ∷ []) in
          let last : drop size found ≡ byte ∷ [] = ap (λ k. drop k found) (sym many) ∙ drop-append_seam program (byte ∷ []) in
          let other : drop size found ≢ 10 ∷ [] = λ e. (let newline : byte ≡ 10 = (let both : byte ∷ [] ≡ 10 ∷ [] = sym last ∙ e in cc) in let yes = eq-eqb byte 10 newline in cc) in
          inr (BadNumber, length text, reads_bad_program n group size (length text) text found rest [] is (one ∙ ap (λ k. k + 1) many) other refl))
    ]

read_program : (n : ℕ) (group : List ℕ) (size : ℕ) (text : List ℕ) → IsReached (at_program n group size) → AreShorterRead (length text) → IsRead (at_program n group size) text
read_program n group size text reached more =
    elim (cases_lt size (length text)) [
      | inl long ↦
          read_bytes n group size text (take size text) (drop (suc size) text) (get_or text size 0) (length-take-le size text (omega (arith, long)))
          (sym (take-append-drop size text) ∙ ap (λ xs. take size text ++ xs) (drop-cons text size 0 long)) reached more
      | inr few ↦ (
          let none : List ℕ = replicate size 0 in
          let same : length none ≡ size = length-replicate size 0 in
          inr (Short, 0, fault_here (at_program n group size) text Short 0 (inl (refl, refl, tt, omega (arith, few, same)))))
    ]

read_at : (state : ReadingState) (text : List ℕ) → IsReached state → AreShorterRead (length text) → IsRead state text
read_at at_head text reached more = read_line at_head text tt reached more
read_at at_ranks text reached more = read_line at_ranks text tt reached more
read_at (at_group n) text reached more = read_line (at_group n) text tt reached more
read_at (at_size n group) text reached more = read_line (at_size n group) text tt reached more
read_at (at_program n group size) text reached more = read_program n group size text reached more
read_at (at_list n group ranks) text reached more = read_line (at_list n group ranks) text tt reached more
read_at (at_entry n group others ranks) text reached more = read_line (at_entry n group others ranks) text tt reached more
read_at at_end [] reached more = inl ([], (tt, refl), refl)
read_at at_end (byte ∷ text) reached more =
    inr (Extra, length (byte ∷ text), fault_here at_end (byte ∷ text) Extra (length (byte ∷ text)) (inr (refl, inl (refl, refl, λ e. cc))))

read_all : (size : ℕ) → AreShorterRead size
read_all zero state text few reached = absurd (omega (arith, few))
read_all (suc size) state text few reached =
    read_at state text reached (λ later rest shorter later_reached. read_all size later rest (omega (arith, few, shorter)) later_reached)

pub log_or_fault : (text : List ℕ) → ((log : Log) × IsLogText text log) ⊎ ((fault : LogFault) × IsFirstPartFault text fault)
log_or_fault text =
    elim (read_all (suc (length text)) at_head text (omega arith) tt) [
      | inl (parts, to, whole) ↦ (
          let log = runs_some_log parts to in
          inl (log.0, (whole ∙ ap (λ ps. parts_text ps []) (sym log.2), log.1)))
      | inr (why, left, fault) ↦ (
          let within : left ≤ length text = fault_within text why left fault in
          inr (record { at = length text - left; why = why }, first_fault text (length text - left) left why fault (omega (arith, within))))
    ]
