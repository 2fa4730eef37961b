-- An entry's line, both ways.
use Rattle.std.proofs.Common.{◌≡◌, ℕ, ◌+◌, ◌<◌, ◌≤◌, inl, inr, true, false, List, [], ◌∷◌, ◌++◌, map, length, refl, sym, ◌∙◌, ap, subst, arith}
use Rattle.std.specs.Prelude.{All, codes, Option, Some, None, ℤ, FitsSigned, if◌then◌else◌}
use Rattle.std.specs.Str.{bytes_eq}
use Rattle.std.proofs.lemmas.List.Elements.{All-from_recursion, recursion_from_All}
use mir.Syntax.{w32}
use Rattle.mpi_call.specs.declared.call.Fault.{Fault}
use Rattle.mpi_call.specs.declared.call.Halt.{Halt}
use Rattle.mpi_call.specs.declared.call.Halt.TheVariants.{Aborted, Trapped, Truncated, Mismatched, BadRequest, Limit, Stuck}
use Rattle.mpi_call.specs.Halts.{fault_number}
use Rattle.srr_entry.specs.declared.entry.Marked.{Marked}
use Rattle.srr_entry.specs.declared.entry.Entry.{Entry}
use Rattle.srr_entry.specs.declared.entry.Entry.TheVariants.{Sent, Posted, Entered, Ended, Took, NotYet, PeekedInside, PeekedOutside, Stopped}
use Rattle.wiz_base.specs.Decimals.{decimal_text, number_text}
use Rattle.wiz_base.proofs.DecimalLaws.{decimal_text-excludes, decimal_text-digit}
use Rattle.srr_log.specs.EntryText.{each_after, name_text, mark_text, item_text, halt_number, halt_details, entry_line}
use Rattle.mpi_call.specs.Lists.{Rises, rises}
use Rattle.srr_log.specs.Bounds.{IsSmallNumber, IsSender, IsTag, IsMark, IsHalt, IsEntry}
use Rattle.srr_log.specs.FaultNumbers.{fault_numbered}
use Rattle.srr_log.specs.inside.Pieces.{◌>>=◌, after_word, split_once, number_in, int_in, rank_in}
use Rattle.srr_log.specs.inside.EntryReading.{indices, inside_in, outside_in, mark_in, item_in, all_items_in, items_in, peek_split, peek_in, detail_in, detailed_in, named_in, halt_in, long_entry, long_entry_in, entry_in}
use Rattle.srr_log.proofs.FaultNumbers.{fault_read, fault_said}
use Rattle.srr_log.proofs.PieceLaws.{some, bind_some, guard_some, same_word, behind_some, split_once_at, split_once_some, number_read, number_said, int_read, int_said, rank_read, rank_said}
use Rattle.srr_log.proofs.NoByteLaws.{no_byte_decimal, no_byte_item}
use Rattle.srr_log.proofs.MarkLaws.{listed_read, listed_said, rises_rise, rise_rises, inside_read, inside_said, tagged_text, outside_read, outside_said, short_name, long_name, mark_read, mark_said, pick, branch}

-- completed starts
abbrev IsItem : ℕ → List ℕ → Marked → Type 0
IsItem n group item = IsSmallNumber item.index × IsMark n group item.mark

item_read : (n : ℕ) (group : List ℕ) → n ≤ 256 → (item : Marked) → IsItem n group item → item_in n group (item_text item) ≡ some item
unfolding item_in
item_read n group few item good =
    rw (
      split_once_at 61 (decimal_text item.index) (mark_text item.mark) (decimal_text-excludes item.index 61 (λ digit. omega (arith, digit.1))),
      number_read 999999 item.index good.0,
      mark_read n group few item.mark good.1,
    ) refl

item_said : (n : ℕ) (group text : List ℕ) (item : Marked) → item_in n group text ≡ some item → IsItem n group item × (text ≡ item_text item)
unfolding item_in
item_said n group text item e =
    let a = bind_some (split_once 61 text) (λ parts. number_in 999999 parts.0 >>= λ index. mark_in n group parts.1 >>= λ mark. some (record { index = index; mark = mark })) item e in
    let b = bind_some (number_in 999999 a.0.0) (λ index. mark_in n group a.0.1 >>= λ mark. some (record { index = index; mark = mark })) item a.2 in
    let d = bind_some (mark_in n group a.0.1) (λ mark. some (record { index = b.0; mark = mark })) item b.2 in
    let index = number_said 999999 a.0.0 b.0 b.1 in
    let mark = mark_said n group a.0.1 d.0 d.1 in
    let made : Marked = record { index = b.0; mark = d.0 } in
    let same : made ≡ item = let s = d.2 in cc in
    let P : Marked → Type 0 = λ item. IsItem n group item × (text ≡ item_text item) in
    subst P same ((index.0, mark.0), split_once_some 61 text a.0.0 a.0.1 a.1 ∙ ap (λ xs. xs ++ 61 ∷ a.0.1) index.1 ∙ ap (λ xs. decimal_text b.0 ++ 61 ∷ xs) mark.1)

items_read : (n : ℕ) (group : List ℕ) → n ≤ 256 → (item : Marked) (items : List Marked) → Rises 0 (indices (item ∷ items)) → All (IsItem n group) (item ∷ items)
    → items_in n group (item_text item ++ each_after 32 (map item_text items)) ≡ some (item ∷ items)
unfolding items_in
items_read n group few item items up good =
    rw (
      listed_read (item_in n group) item_text (IsItem n group) (item_read n group few) 32 (λ item. no_byte_item 32 item (omega arith)) item items (recursion_from_All (IsItem n group) (item ∷ items) good),
      rise_rises 0 (indices (item ∷ items)) up,
    ) refl

abbrev IsLineOf : ℕ → List ℕ → List ℕ → Entry → Type 0
IsLineOf n group line entry = IsEntry n group entry × (line ≡ entry_line entry)

items_said : (n : ℕ) (group text : List ℕ) (items : List Marked) → items_in n group text ≡ some items → IsLineOf n group (116 ∷ 32 ∷ text) (Took items)
unfolding items_in
items_said n group text items e =
    let a = bind_some (all_items_in n group text) (λ items. if rises 0 (indices items) then some items else None) items e in
    let g = guard_some (rises 0 (indices a.0)) a.0 items a.2 in
    let l = listed_said (item_in n group) item_text (IsItem n group) (item_said n group) 32 text a.0 a.1 in
    let long : 0 < length a.0 = let many : length a.0 ≡ length (l.0 ∷ l.1) = ap length l.2 in omega arith in
    let P : List Marked → Type 0 = λ items. IsLineOf n group (116 ∷ 32 ∷ text) (Took items) in
    subst P g.1 ((long, rises_rise 0 (indices a.0) g.0, All-from_recursion (IsItem n group) a.0 l.3), ap (λ xs. 116 ∷ 32 ∷ xs) l.4 ∙ ap (λ xs. 116 ∷ each_after 32 (map item_text xs)) (sym l.2))

-- probes
peek_read : (n : ℕ) (group : List ℕ) → n ≤ 256 → (source start : ℕ) → IsSender n group true source → IsSmallNumber start → peek_in n group (name_text source start) ≡ some (PeekedInside source start)
unfolding peek_in
peek_read n group few source start sender small = rw (short_name source start, inside_read n group source start few sender small) refl

peek_read_long : (n : ℕ) (group : List ℕ) → n ≤ 256 → (source start tag count : ℕ) → IsSender n group false source → IsSmallNumber start → IsTag tag → count ≤ 65536
    → peek_in n group (tagged_text source start tag ++ 58 ∷ decimal_text count) ≡ some (PeekedOutside source start tag count)
unfolding peek_in
peek_read_long n group few source start tag count sender small tag_small fits =
    rw (long_name source start tag (decimal_text count), outside_read n group source start tag few sender small tag_small, number_read 65536 count fits) refl

peek_said_cut : (n : ℕ) (group text : List ℕ) (parts : Option (List ℕ × List ℕ)) (entry : Entry) → split_once 58 text ≡ parts → peek_split n group text parts ≡ some entry → IsLineOf n group (107 ∷ 32 ∷ text) entry
peek_said_cut n group text None entry is e =
    let a = bind_some (inside_in n group text) (λ name. some (PeekedInside name.0 name.1)) entry e in
    let said = inside_said n group text a.0.0 a.0.1 a.1 in
    let same : PeekedInside a.0.0 a.0.1 ≡ entry = let s = a.2 in cc in
    subst (IsLineOf n group (107 ∷ 32 ∷ text)) same ((said.0, said.1), ap (λ xs. 107 ∷ 32 ∷ xs) said.2)
peek_said_cut n group text (Some parts) entry is e =
    let a = bind_some (outside_in n group parts.0) (λ name. number_in 65536 parts.1 >>= λ count. some (PeekedOutside name.0 name.1 name.2 count)) entry e in
    let b = bind_some (number_in 65536 parts.1) (λ count. some (PeekedOutside a.0.0 a.0.1 a.0.2 count)) entry a.2 in
    let said = outside_said n group parts.0 a.0.0 a.0.1 a.0.2 a.1 in
    let count = number_said 65536 parts.1 b.0 b.1 in
    let same : PeekedOutside a.0.0 a.0.1 a.0.2 b.0 ≡ entry = let s = b.2 in cc in
    subst (IsLineOf n group (107 ∷ 32 ∷ text)) same
    ((said.0, said.1, said.2, count.0), ap (λ xs. 107 ∷ 32 ∷ xs) (split_once_some 58 text parts.0 parts.1 is ∙ ap (λ xs. xs ++ 58 ∷ parts.1) said.3 ∙ ap (λ xs. tagged_text a.0.0 a.0.1 a.0.2 ++ 58 ∷ xs) count.1))

peek_said : (n : ℕ) (group text : List ℕ) (entry : Entry) → peek_in n group text ≡ some entry → IsLineOf n group (107 ∷ 32 ∷ text) entry
unfolding peek_in
peek_said n group text entry e = peek_said_cut n group text (split_once 58 text) entry refl e

-- halts
one_digit : (n : ℕ) (rest : List ℕ) → n < 10 → decimal_text n ++ rest ≡ (48 + n) ∷ rest
one_digit n rest below = ap (λ xs. xs ++ rest) (decimal_text-digit n below)

detailed_read : (n rank : ℕ) (kind other : List ℕ) → n ≤ 256 → rank < n → detailed_in n kind (decimal_text rank ++ 32 ∷ other) ≡ detail_in kind rank other
unfolding detailed_in
detailed_read n rank kind other few below =
    rw (split_once_at 32 (decimal_text rank) other (no_byte_decimal 32 rank (omega arith)), rank_read n rank (omega arith) below) refl

detail_read : (rank : ℕ) → ((code : ℤ) → FitsSigned w32 code → detail_in (codes "1") rank (number_text code) ≡ some (Aborted rank code))
    × ((fault : Fault) → detail_in (codes "2") rank (decimal_text (fault_number fault)) ≡ some (Trapped rank fault))
    × ((start : ℕ) → IsSmallNumber start → detail_in (codes "3") rank (decimal_text start) ≡ some (Truncated rank start))
    × ((start : ℕ) → IsSmallNumber start → detail_in (codes "5") rank (decimal_text start) ≡ some (BadRequest rank start))
unfolding detail_in
detail_read rank = (
  λ code fits. rw (int_read code fits) refl,
  λ fault. rw (number_read 10 (fault_number fault) (fault_read fault).0, (fault_read fault).1) refl,
  λ start small. rw (number_read 999999 start small) refl,
  λ start small. rw (number_read 999999 start small) refl,
)

-- a digit, a blank and more is a halt that names a rank
digit_named : (n : ℕ) (other : List ℕ) → (halt_in n (49 ∷ 32 ∷ other) ≡ detailed_in n (codes "1") other) × (halt_in n (50 ∷ 32 ∷ other) ≡ detailed_in n (codes "2") other)
    × (halt_in n (51 ∷ 32 ∷ other) ≡ detailed_in n (codes "3") other) × (halt_in n (53 ∷ 32 ∷ other) ≡ detailed_in n (codes "5") other)
unfolding halt_in named_in split_once
digit_named n other = (refl, refl, refl, refl)

halt_read : (n : ℕ) → n ≤ 256 → (halt : Halt) → IsHalt n halt → halt_in n (decimal_text (halt_number halt) ++ halt_details halt) ≡ some halt
unfolding halt_in named_in split_once
halt_read n few (Aborted rank code) good =
    ap (halt_in n) (one_digit 1 (halt_details (Aborted rank code)) (omega arith)) ∙ (digit_named n (decimal_text rank ++ 32 ∷ number_text code)).0
    ∙ detailed_read n rank (codes "1") (number_text code) few good.0 ∙ (detail_read rank).0 code good.1
halt_read n few (Trapped rank fault) good =
    ap (halt_in n) (one_digit 2 (halt_details (Trapped rank fault)) (omega arith)) ∙ (digit_named n (decimal_text rank ++ 32 ∷ decimal_text (fault_number fault))).1
    ∙ detailed_read n rank (codes "2") (decimal_text (fault_number fault)) few good ∙ (detail_read rank).1 fault
halt_read n few (Truncated rank start) good =
    ap (halt_in n) (one_digit 3 (halt_details (Truncated rank start)) (omega arith)) ∙ (digit_named n (decimal_text rank ++ 32 ∷ decimal_text start)).2
    ∙ detailed_read n rank (codes "3") (decimal_text start) few good.0 ∙ (detail_read rank).2 start good.1
halt_read n few (Mismatched rank) good = rw (one_digit 4 (halt_details (Mismatched rank)) (omega arith), rank_read n rank (omega arith) good) refl
halt_read n few (BadRequest rank start) good =
    ap (halt_in n) (one_digit 5 (halt_details (BadRequest rank start)) (omega arith)) ∙ (digit_named n (decimal_text rank ++ 32 ∷ decimal_text start)).3
    ∙ detailed_read n rank (codes "5") (decimal_text start) few good.0 ∙ (detail_read rank).3 start good.1
halt_read n few Limit good = rw (one_digit 6 [] (omega arith)) refl
halt_read n few Stuck good = rw (one_digit 7 [] (omega arith)) refl

abbrev IsHaltText : ℕ → List ℕ → Halt → Type 0
IsHaltText n text halt = IsHalt n halt × (text ≡ decimal_text (halt_number halt) ++ halt_details halt)

abbrev halt_text : List ℕ → ℕ → List ℕ → List ℕ
halt_text kind rank other = kind ++ 32 ∷ (decimal_text rank ++ 32 ∷ other)

detail_said : (n : ℕ) (kind : List ℕ) (rank : ℕ) (other : List ℕ) (halt : Halt) → rank < n → detail_in kind rank other ≡ some halt → IsHaltText n (halt_text kind rank other) halt
unfolding detail_in
detail_said n kind rank other halt below e = elim (branch (bytes_eq kind (codes "1")) _ _ (some halt) e) [
  | inl (same, e₁) ↦
      let a = bind_some (int_in other) (λ code. some (Aborted rank code)) halt e₁ in
      let said = int_said other a.0 a.1 in
      let is : Aborted rank a.0 ≡ halt = let s = a.2 in cc in
      subst (IsHaltText n (halt_text kind rank other)) is ((below, said.0), ap (λ xs. halt_text xs rank other) (same_word kind (codes "1") same) ∙ ap (halt_text (codes "1") rank) said.1 ∙ sym (one_digit 1 (halt_details (Aborted rank a.0)) (omega arith)))
  | inr e₁ ↦ elim (branch (bytes_eq kind (codes "2")) _ _ (some halt) e₁) [
    | inl (same, e₂) ↦
        let a = bind_some (number_in 10 other) (λ number. fault_numbered number >>= λ fault. some (Trapped rank fault)) halt e₂ in
        let b = bind_some (fault_numbered a.0) (λ fault. some (Trapped rank fault)) halt a.2 in
        let said = number_said 10 other a.0 a.1 in
        let is : Trapped rank b.0 ≡ halt = let s = b.2 in cc in
        subst (IsHaltText n (halt_text kind rank other)) is (below, ap (λ xs. halt_text xs rank other) (same_word kind (codes "2") same) ∙ ap (halt_text (codes "2") rank) (said.1 ∙ ap decimal_text (fault_said a.0 b.0 b.1)) ∙ sym (one_digit 2 (halt_details (Trapped rank b.0)) (omega arith)))
    | inr e₂ ↦ elim (branch (bytes_eq kind (codes "3")) _ _ (some halt) e₂) [
      | inl (same, e₃) ↦
          let a = bind_some (number_in 999999 other) (λ start. some (Truncated rank start)) halt e₃ in
          let said = number_said 999999 other a.0 a.1 in
          let is : Truncated rank a.0 ≡ halt = let s = a.2 in cc in
          subst (IsHaltText n (halt_text kind rank other)) is ((below, said.0), ap (λ xs. halt_text xs rank other) (same_word kind (codes "3") same) ∙ ap (halt_text (codes "3") rank) said.1 ∙ sym (one_digit 3 (halt_details (Truncated rank a.0)) (omega arith)))
      | inr e₃ ↦ elim (branch (bytes_eq kind (codes "5")) _ _ (some halt) e₃) [
        | inl (same, e₄) ↦
            let a = bind_some (number_in 999999 other) (λ start. some (BadRequest rank start)) halt e₄ in
            let said = number_said 999999 other a.0 a.1 in
            let is : BadRequest rank a.0 ≡ halt = let s = a.2 in cc in
            subst (IsHaltText n (halt_text kind rank other)) is ((below, said.0), ap (λ xs. halt_text xs rank other) (same_word kind (codes "5") same) ∙ ap (halt_text (codes "5") rank) said.1 ∙ sym (one_digit 5 (halt_details (BadRequest rank a.0)) (omega arith)))
        | inr none ↦ absurd (cc)
      ]
    ]
  ]
]

detailed_said : (n : ℕ) (kind text : List ℕ) (halt : Halt) → detailed_in n kind text ≡ some halt → IsHaltText n (kind ++ 32 ∷ text) halt
unfolding detailed_in
detailed_said n kind text halt e =
    let a = bind_some (split_once 32 text) (λ parts. rank_in n parts.0 >>= λ rank. detail_in kind rank parts.1) halt e in
    let b = bind_some (rank_in n a.0.0) (λ rank. detail_in kind rank a.0.1) halt a.2 in
    let rank = rank_said n a.0.0 b.0 b.1 in
    let said = detail_said n kind b.0 a.0.1 halt rank.0 b.2 in
    (said.0, ap (λ xs. kind ++ 32 ∷ xs) (split_once_some 32 text a.0.0 a.0.1 a.1 ∙ ap (λ xs. xs ++ 32 ∷ a.0.1) rank.1) ∙ said.1)

named_said : (n : ℕ) (text : List ℕ) (halt : Halt) → named_in n text ≡ some halt → IsHaltText n text halt
unfolding named_in
named_said n text halt e =
    let a = bind_some (split_once 32 text) (λ parts. if bytes_eq parts.0 (codes "4") then (rank_in n parts.1 >>= λ rank. some (Mismatched rank)) else detailed_in n parts.0 parts.1) halt e in
    let whole = split_once_some 32 text a.0.0 a.0.1 a.1 in
    elim (branch (bytes_eq a.0.0 (codes "4")) _ _ (some halt) a.2) [
      | inl (same, e₁) ↦
          let b = bind_some (rank_in n a.0.1) (λ rank. some (Mismatched rank)) halt e₁ in
          let rank = rank_said n a.0.1 b.0 b.1 in
          let is : Mismatched b.0 ≡ halt = let s = b.2 in cc in
          subst (IsHaltText n text) is (rank.0, whole ∙ ap (λ xs. xs ++ 32 ∷ a.0.1) (same_word a.0.0 (codes "4") same) ∙ ap (λ xs. 52 ∷ 32 ∷ xs) rank.1 ∙ sym (one_digit 4 (halt_details (Mismatched b.0)) (omega arith)))
      | inr e₁ ↦
          let said = detailed_said n a.0.0 a.0.1 halt e₁ in
          (said.0, whole ∙ said.1)
    ]

halt_said : (n : ℕ) (text : List ℕ) (halt : Halt) → halt_in n text ≡ some halt → IsHaltText n text halt
unfolding halt_in
halt_said n text halt e = elim (pick (bytes_eq text (codes "6")) Limit _ halt e) [
  | inl (same, is) ↦ subst (IsHaltText n text) is (tt, same_word text (codes "6") same ∙ sym (one_digit 6 [] (omega arith)))
  | inr e₁ ↦ elim (pick (bytes_eq text (codes "7")) Stuck _ halt e₁) [
    | inl (same, is) ↦ subst (IsHaltText n text) is (tt, same_word text (codes "7") same ∙ sym (one_digit 7 [] (omega arith)))
    | inr e₂ ↦ named_said n text halt e₂
  ]
]

-- whole lines
letters_read : (n : ℕ) (group : List ℕ) → (entry_in n group (codes "s") ≡ some Sent) × (entry_in n group (codes "p") ≡ some Posted) × (entry_in n group (codes "e") ≡ some Entered)
    × (entry_in n group (codes "z") ≡ some Ended) × (entry_in n group (codes "n") ≡ some NotYet)
unfolding entry_in
letters_read n group = (refl, refl, refl, refl, refl)

long_read : (n : ℕ) (group text : List ℕ) → (entry_in n group (116 ∷ 32 ∷ text) ≡ (items_in n group text >>= λ items. some (Took items)))
    × (entry_in n group (107 ∷ 32 ∷ text) ≡ peek_in n group text) × (entry_in n group (120 ∷ 32 ∷ text) ≡ (halt_in n text >>= λ halt. some (Stopped halt)))
unfolding entry_in long_entry_in after_word
long_read n group text = (refl, refl, refl)

pub entry_read : (n : ℕ) (group : List ℕ) → n ≤ 256 → (entry : Entry) → IsEntry n group entry → entry_in n group (entry_line entry) ≡ some entry
entry_read n group few Sent good = (letters_read n group).0
entry_read n group few Posted good = (letters_read n group).1
entry_read n group few Entered good = (letters_read n group).2
entry_read n group few Ended good = (letters_read n group).3
entry_read n group few (Took []) good = absurd (let some' = good.0 in omega arith)
entry_read n group few (Took (item ∷ items)) good =
    (long_read n group (item_text item ++ each_after 32 (map item_text items))).0 ∙ rw (items_read n group few item items good.1 good.2) refl
entry_read n group few NotYet good = (letters_read n group).4
entry_read n group few (PeekedInside source start) good = (long_read n group (name_text source start)).1 ∙ peek_read n group few source start good.0 good.1
entry_read n group few (PeekedOutside source start tag count) good =
    (long_read n group (tagged_text source start tag ++ 58 ∷ decimal_text count)).1 ∙ peek_read_long n group few source start tag count good.0 good.1 good.2 good.3
entry_read n group few (Stopped halt) good =
    (long_read n group (decimal_text (halt_number halt) ++ halt_details halt)).2 ∙ rw (halt_read n few halt good) refl

long_said : (n : ℕ) (group line : List ℕ) (items peek halt : Option (List ℕ)) (entry : Entry) → after_word (codes "t ") line ≡ items → after_word (codes "k ") line ≡ peek → after_word (codes "x ") line ≡ halt
    → long_entry n group items peek halt ≡ some entry → IsLineOf n group line entry
long_said n group line (Some items) peek halt entry is is' is'' e =
    let a = bind_some (items_in n group items) (λ items. some (Took items)) entry e in
    let said = items_said n group items a.0 a.1 in
    let same : Took a.0 ≡ entry = let s = a.2 in cc in
    subst (IsLineOf n group line) same (said.0, behind_some (codes "t ") line items is ∙ said.1)
long_said n group line None (Some peek) halt entry is is' is'' e =
    let said = peek_said n group peek entry e in
    (said.0, behind_some (codes "k ") line peek is' ∙ said.1)
long_said n group line None None (Some halt) entry is is' is'' e =
    let a = bind_some (halt_in n halt) (λ halt. some (Stopped halt)) entry e in
    let said = halt_said n halt a.0 a.1 in
    let same : Stopped a.0 ≡ entry = let s = a.2 in cc in
    subst (IsLineOf n group line) same (said.0, behind_some (codes "x ") line halt is'' ∙ ap (λ xs. 120 ∷ 32 ∷ xs) said.1)
long_said n group line None None None entry is is' is'' e = absurd (cc)

long_entry_said : (n : ℕ) (group line : List ℕ) (entry : Entry) → long_entry_in n group line ≡ some entry → IsLineOf n group line entry
unfolding long_entry_in
long_entry_said n group line entry e = long_said n group line (after_word (codes "t ") line) (after_word (codes "k ") line) (after_word (codes "x ") line) entry refl refl refl e

pub entry_said : (n : ℕ) (group line : List ℕ) (entry : Entry) → entry_in n group line ≡ some entry → IsEntry n group entry × (line ≡ entry_line entry)
unfolding entry_in
entry_said n group line entry e = elim (pick (bytes_eq line (codes "s")) Sent _ entry e) [
  | inl (same, is) ↦ subst (IsLineOf n group line) is (tt, same_word line (codes "s") same)
  | inr e₁ ↦ elim (pick (bytes_eq line (codes "p")) Posted _ entry e₁) [
    | inl (same, is) ↦ subst (IsLineOf n group line) is (tt, same_word line (codes "p") same)
    | inr e₂ ↦ elim (pick (bytes_eq line (codes "e")) Entered _ entry e₂) [
      | inl (same, is) ↦ subst (IsLineOf n group line) is (tt, same_word line (codes "e") same)
      | inr e₃ ↦ elim (pick (bytes_eq line (codes "z")) Ended _ entry e₃) [
        | inl (same, is) ↦ subst (IsLineOf n group line) is (tt, same_word line (codes "z") same)
        | inr e₄ ↦ elim (pick (bytes_eq line (codes "n")) NotYet _ entry e₄) [
          | inl (same, is) ↦ subst (IsLineOf n group line) is (tt, same_word line (codes "n") same)
          | inr e₅ ↦ long_entry_said n group line entry e₅
        ]
      ]
    ]
  ]
]
