-- Lists, names and marks, both ways: what is read is spelled so, and what is spelled so is read.
use Rattle.std.proofs.Common.{◌≡◌, ℕ, ◌+◌, ◌<◌, ◌≤◌, ◌⊎◌, inl, inr, Bool, true, false, List, [], ◌∷◌, ◌++◌, map, length, refl, sym, ◌∙◌, ap, subst, arith, append_assoc, length-append}
use Rattle.std.specs.Prelude.{◌==◌, ◌&&◌, All, codes, Option, Some, None, ℤ, FitsSigned, nat_le, nat_lt, if◌then◌else◌}
use Rattle.std.specs.Char.{IsAsciiDigit}
use Rattle.std.specs.List.{AllByRecursion}
use Rattle.std.specs.Str.{bytes_eq}
use Rattle.std.proofs.lemmas.Bool.{cases_Bool, ne_eqb, eqb-true, and_parts, and_from, le-leb, leb-true, lt-ltb, ltb-true}
use Rattle.std.proofs.lemmas.List.{nil_from_length}
use Rattle.std.proofs.lemmas.List.Elements.{All-head, All-nil, All-from_recursion, recursion_from_All}
use mir.Syntax.{w32}
use Rattle.mpi_call.specs.Collectives.{is_member}
use Rattle.run_model.specs.Lists.{are_below}
use Rattle.srr_entry.specs.declared.entry.Mark.{Mark}
use Rattle.srr_entry.specs.declared.entry.Mark.TheVariants.{Sent as MarkSent, Nothing, Inside, Outside, Inner, Outer, Made, MadeOutside}
use Rattle.wiz_base.specs.Decimals.{decimal_text, number_text}
use Rattle.wiz_base.proofs.DecimalLaws.{decimal_text-bytes, decimal_text-nonempty, decimal_text-excludes, number_text-nonempty}
use Rattle.srr_log.specs.EntryText.{each_after, by_commas, ints_text, name_text, mark_text}
use Rattle.mpi_call.specs.Lists.{Rises, rises}
use Rattle.srr_log.specs.Bounds.{IsSmallNumber, IsTag, AreInts, IsSender, IsMark}
use Rattle.srr_log.specs.inside.Pieces.{◌>>=◌, after_word, split_once, pieces, all_of, number_in, int_in, rank_in}
use Rattle.srr_log.specs.inside.EntryReading.{ints_in, few_ints_in, ranks_in, inside_in, outside_in, message_split, message_in, made_split, made_in, long_mark, long_mark_in, mark_in}
use Rattle.srr_log.proofs.PieceLaws.{some, bind_some, guard_some, guard_none, same_word, behind_some, split_once_at, split_once_none, split_once_some, pieces_joined, joined_pieces, some_pieces, all_of_map, map_all_of, number_read, number_said, int_read, int_said, rank_read, rank_said}
use Rattle.srr_log.proofs.NoByteLaws.{NoByte, no_byte_append, no_byte_cons, no_byte_decimal, no_byte_number}

-- elements with such marks between
module _ {A : Type 0} (said : List ℕ → Option A) (spelled : A → List ℕ) (Good : A → Type 0) where
  pub listed_read : ((value : A) → Good value → said (spelled value) ≡ some value) → (mark : ℕ) → ((value : A) → NoByte mark (spelled value)) → (value : A) (values : List A)
      → AllByRecursion Good (value ∷ values) → all_of said (pieces mark (spelled value ++ each_after mark (map spelled values))) ≡ some (value ∷ values)
  listed_read complete mark none value values good =
      ap (all_of said) (pieces_joined mark (spelled value) (map spelled values) (none value) (apart values)) ∙ all_of_map said spelled Good complete (value ∷ values) good
    where
      apart : (values : List A) → AllByRecursion (NoByte mark) (map spelled values)
      apart [] = tt
      apart (value ∷ values) = (none value, apart values)

  pub listed_said : ((text : List ℕ) (value : A) → said text ≡ some value → Good value × (text ≡ spelled value)) → (mark : ℕ) (text : List ℕ) (values : List A)
      → all_of said (pieces mark text) ≡ some values → (first : A) × (others : List A) × (values ≡ first ∷ others) × AllByRecursion Good values × (text ≡ spelled first ++ each_after mark (map spelled others))
  listed_said sound mark text values e = by values (map_all_of said spelled Good sound (pieces mark text) values e)
    where
      by : (values : List A) → AllByRecursion Good values × (pieces mark text ≡ map spelled values)
          → (first : A) × (others : List A) × (values ≡ first ∷ others) × AllByRecursion Good values × (text ≡ spelled first ++ each_after mark (map spelled others))
      by [] (good, is) = absurd (some_pieces mark text is)
      by (first ∷ others) (good, is) = (first, others, refl, good, joined_pieces mark text (spelled first) (map spelled others) is)

-- ints
long_text : (text more : List ℕ) → 0 < length text → (length (text ++ more) == 0) ≡ false
long_text text more long = ne_eqb (length (text ++ more)) 0 (λ e. omega (arith, length-append text more))

pub few_ints_read : (most : ℕ) (ints : List ℤ) → AreInts most ints → few_ints_in most (ints_text ints) ≡ some ints
unfolding few_ints_in
few_ints_read most [] good = refl
few_ints_read most (z ∷ zs) (few, good) =
    rw (
      long_text (number_text z) (each_after 44 (map number_text zs)) (number_text-nonempty z),
      listed_read int_in number_text (λ int. FitsSigned w32 int) int_read 44 (λ z. no_byte_number 44 z (omega arith)) z zs (recursion_from_All (λ int. FitsSigned w32 int) (z ∷ zs) good),
      le-leb (length (z ∷ zs)) most few,
    ) refl

pub few_ints_said : (most : ℕ) (text : List ℕ) (ints : List ℤ) → few_ints_in most text ≡ some ints → AreInts most ints × (text ≡ ints_text ints)
unfolding few_ints_in
few_ints_said most text ints e =
    elim (cases_Bool (length text == 0)) [
      | inl empty ↦
          let none : some [] ≡ some ints = rw empty at e in
          let is : [] ≡ ints = cc in
          let P : List ℤ → Type 0 = λ ints. AreInts most ints × (text ≡ ints_text ints) in
          subst P is ((omega arith, All-nil (λ int. FitsSigned w32 int)), nil_from_length text (eqb-true (length text) 0 empty))
      | inr full ↦
          let some' : (ints_in text >>= λ ints. if nat_le (length ints) most then some ints else None) ≡ some ints = rw full at e in
          let b = bind_some (ints_in text) (λ ints. if nat_le (length ints) most then some ints else None) ints some' in
          let g = guard_some (nat_le (length b.0) most) b.0 ints b.2 in
          let l = listed_said int_in number_text (λ int. FitsSigned w32 int) int_said 44 text b.0 b.1 in
          let P : List ℤ → Type 0 = λ ints. AreInts most ints × (text ≡ ints_text ints) in
          subst P g.1 ((leb-true (length b.0) most g.0, All-from_recursion (λ int. FitsSigned w32 int) b.0 l.3), l.4 ∙ ap ints_text (sym l.2))
    ]

-- ranks below n
pub below_all : (n : ℕ) (ranks : List ℕ) → are_below n ranks ≡ true → AllByRecursion (λ rank. rank < n) ranks
below_all n [] below = tt
below_all n (rank ∷ ranks) below =
    let parts = and_parts (nat_lt rank n) (are_below n ranks) below in
    (ltb-true rank n parts.0, below_all n ranks parts.1)

pub all_below : (n : ℕ) (ranks : List ℕ) → AllByRecursion (λ rank. rank < n) ranks → are_below n ranks ≡ true
all_below n [] below = refl
all_below n (rank ∷ ranks) (here, below) = and_from (nat_lt rank n) (are_below n ranks) (lt-ltb rank n here) (all_below n ranks below)

pub ranks_read : (mark n rank : ℕ) (ranks : List ℕ) → mark < 48 → n ≤ 256 → are_below n (rank ∷ ranks) ≡ true
    → ranks_in mark n (decimal_text rank ++ each_after mark (map decimal_text ranks)) ≡ some (rank ∷ ranks)
ranks_read mark n rank ranks low few below =
    listed_read (rank_in n) decimal_text (λ rank. rank < n) (λ rank below. rank_read n rank (omega arith) below) mark (λ rank. no_byte_decimal mark rank low) rank ranks (below_all n (rank ∷ ranks) below)

pub ranks_said : (mark n : ℕ) (text ranks : List ℕ) → ranks_in mark n text ≡ some ranks
    → (first : ℕ) × (others : List ℕ) × (ranks ≡ first ∷ others) × (are_below n ranks ≡ true) × (text ≡ decimal_text first ++ each_after mark (map decimal_text others))
ranks_said mark n text ranks e =
    let l = listed_said (rank_in n) decimal_text (λ rank. rank < n) (λ text rank. rank_said n text rank) mark text ranks e in
    (l.0, l.1, l.2, all_below n ranks l.3, l.4)

-- rising lists
pub rises_rise : (least : ℕ) (numbers : List ℕ) → rises least numbers ≡ true → Rises least numbers
rises_rise least [] up = tt
rises_rise least (number ∷ numbers) up =
    let parts = and_parts (nat_le least number) (rises (number + 1) numbers) up in
    (leb-true least number parts.0, rises_rise (number + 1) numbers parts.1)

pub rise_rises : (least : ℕ) (numbers : List ℕ) → Rises least numbers → rises least numbers ≡ true
rise_rises least [] up = refl
rise_rises least (number ∷ numbers) (here, up) = and_from (nat_le least number) (rises (number + 1) numbers) (le-leb least number here) (rise_rises (number + 1) numbers up)

-- names
pub inside_read : (n : ℕ) (group : List ℕ) (source start : ℕ) → n ≤ 256 → IsSender n group true source → IsSmallNumber start → inside_in n group (name_text source start) ≡ some (source, start)
unfolding inside_in
inside_read n group source start few sender small =
    rw (split_once_at 46 (decimal_text source) (decimal_text start) (no_byte_decimal 46 source (omega arith)), rank_read n source (omega arith) sender.0, number_read 999999 start small, sender.1) refl

pub inside_said : (n : ℕ) (group text : List ℕ) (source start : ℕ) → inside_in n group text ≡ some (source, start)
    → IsSender n group true source × IsSmallNumber start × (text ≡ name_text source start)
unfolding inside_in
inside_said n group text source start e =
    let a = bind_some (split_once 46 text) (λ parts. rank_in n parts.0 >>= λ source. number_in 999999 parts.1 >>= λ start. if is_member group source then some (source, start) else None) (source, start) e in
    let b = bind_some (rank_in n a.0.0) (λ source. number_in 999999 a.0.1 >>= λ start. if is_member group source then some (source, start) else None) (source, start) a.2 in
    let d = bind_some (number_in 999999 a.0.1) (λ start. if is_member group b.0 then some (b.0, start) else None) (source, start) b.2 in
    let g = guard_some (is_member group b.0) (b.0, d.0) (source, start) d.2 in
    let rank = rank_said n a.0.0 b.0 b.1 in
    let number = number_said 999999 a.0.1 d.0 d.1 in
    let is : text ≡ name_text b.0 d.0 = split_once_some 46 text a.0.0 a.0.1 a.1 ∙ ap (λ xs. xs ++ 46 ∷ a.0.1) rank.1 ∙ ap (λ xs. decimal_text b.0 ++ 46 ∷ xs) number.1 in
    let P : ℕ × ℕ → Type 0 = λ name. IsSender n group true name.0 × IsSmallNumber name.1 × (text ≡ name_text name.0 name.1) in
    subst P g.1 ((rank.0, g.0), number.0, is)

-- a name and a tag
abbrev pub tagged_text : ℕ → ℕ → ℕ → List ℕ
tagged_text source start tag = name_text source start ++ (46 ∷ decimal_text tag)

tagged_is : (source start tag : ℕ) → tagged_text source start tag ≡ decimal_text source ++ 46 ∷ (decimal_text start ++ 46 ∷ decimal_text tag)
tagged_is source start tag = append_assoc (decimal_text source) (46 ∷ decimal_text start) (46 ∷ decimal_text tag)

pub outside_read : (n : ℕ) (group : List ℕ) (source start tag : ℕ) → n ≤ 256 → IsSender n group false source → IsSmallNumber start → IsTag tag
    → outside_in n group (tagged_text source start tag) ≡ some (source, start, tag)
unfolding outside_in
outside_read n group source start tag few sender small tag_small =
    ap (outside_in n group) (tagged_is source start tag)
    ∙ rw (
      split_once_at 46 (decimal_text source) (decimal_text start ++ 46 ∷ decimal_text tag) (no_byte_decimal 46 source (omega arith)),
      split_once_at 46 (decimal_text start) (decimal_text tag) (no_byte_decimal 46 start (omega arith)),
      rank_read n source (omega arith) sender.0,
      number_read 999999 start small,
      number_read 2147483647 tag tag_small,
      sender.1,
    ) refl

pub outside_said : (n : ℕ) (group text : List ℕ) (source start tag : ℕ) → outside_in n group text ≡ some (source, start, tag)
    → IsSender n group false source × IsSmallNumber start × IsTag tag × (text ≡ tagged_text source start tag)
unfolding outside_in
outside_said n group text source start tag e =
    let a = bind_some (split_once 46 text) (λ parts. split_once 46 parts.1 >>= λ others. rank_in n parts.0 >>= λ source. number_in 999999 others.0 >>= λ start. number_in 2147483647 others.1 >>= λ tag. if is_member group source then None else some (source, start, tag)) (source, start, tag) e in
    let b = bind_some (split_once 46 a.0.1) (λ others. rank_in n a.0.0 >>= λ source. number_in 999999 others.0 >>= λ start. number_in 2147483647 others.1 >>= λ tag. if is_member group source then None else some (source, start, tag)) (source, start, tag) a.2 in
    let d = bind_some (rank_in n a.0.0) (λ source. number_in 999999 b.0.0 >>= λ start. number_in 2147483647 b.0.1 >>= λ tag. if is_member group source then None else some (source, start, tag)) (source, start, tag) b.2 in
    let f = bind_some (number_in 999999 b.0.0) (λ start. number_in 2147483647 b.0.1 >>= λ tag. if is_member group d.0 then None else some (d.0, start, tag)) (source, start, tag) d.2 in
    let h = bind_some (number_in 2147483647 b.0.1) (λ tag. if is_member group d.0 then None else some (d.0, f.0, tag)) (source, start, tag) f.2 in
    let g = guard_none (is_member group d.0) (d.0, f.0, h.0) (source, start, tag) h.2 in
    let rank = rank_said n a.0.0 d.0 d.1 in
    let number = number_said 999999 b.0.0 f.0 f.1 in
    let last = number_said 2147483647 b.0.1 h.0 h.1 in
    let is : text ≡ tagged_text d.0 f.0 h.0 =
    split_once_some 46 text a.0.0 a.0.1 a.1 ∙ ap (λ xs. xs ++ 46 ∷ a.0.1) rank.1
    ∙ ap (λ xs. decimal_text d.0 ++ 46 ∷ xs) (split_once_some 46 a.0.1 b.0.0 b.0.1 b.1 ∙ ap (λ xs. xs ++ 46 ∷ b.0.1) number.1 ∙ ap (λ xs. decimal_text f.0 ++ 46 ∷ xs) last.1)
    ∙ sym (tagged_is d.0 f.0 h.0) in
    let P : ℕ × ℕ × ℕ → Type 0 = λ name. IsSender n group false name.0 × IsSmallNumber name.1 × IsTag name.2 × (text ≡ tagged_text name.0 name.1 name.2) in
    subst P g.1 ((rank.0, g.0), number.0, last.0, is)

-- no colon is in a name
no_colon : (n : ℕ) → NoByte 58 (decimal_text n)
no_colon n = decimal_text-excludes n 58 (λ digit. omega (arith, digit.1))

no_colon_name : (source start : ℕ) → NoByte 58 (name_text source start)
no_colon_name source start =
    no_byte_append 58 (decimal_text source) (46 ∷ decimal_text start) (no_colon source) (no_byte_cons 58 46 (decimal_text start) (λ e. omega (arith, e)) (no_colon start))

pub no_colon_tagged : (source start tag : ℕ) → NoByte 58 (tagged_text source start tag)
no_colon_tagged source start tag =
    no_byte_append 58 (name_text source start) (46 ∷ decimal_text tag) (no_colon_name source start) (no_byte_cons 58 46 (decimal_text tag) (λ e. omega (arith, e)) (no_colon tag))

-- what a short name or a long one is
pub short_name : (source start : ℕ) → split_once 58 (name_text source start) ≡ None
short_name source start = split_once_none 58 (name_text source start) (no_colon_name source start)

pub long_name : (source start tag : ℕ) (rest : List ℕ) → split_once 58 (tagged_text source start tag ++ 58 ∷ rest) ≡ some (tagged_text source start tag, rest)
long_name source start tag rest = split_once_at 58 (tagged_text source start tag) rest (no_colon_tagged source start tag)

-- messages
message_read : (n : ℕ) (group : List ℕ) → n ≤ 256 → (source start : ℕ) → IsSender n group true source → IsSmallNumber start
    → message_in n group (name_text source start) ≡ some (Inside source start)
unfolding message_in
message_read n group few source start sender small = rw (short_name source start, inside_read n group source start few sender small) refl

message_read_long : (n : ℕ) (group : List ℕ) → n ≤ 256 → (source start tag : ℕ) (ints : List ℤ) → IsSender n group false source → IsSmallNumber start → IsTag tag → AreInts 65536 ints
    → message_in n group (tagged_text source start tag ++ 58 ∷ ints_text ints) ≡ some (Outside source start tag ints)
unfolding message_in
message_read_long n group few source start tag ints sender small tag_small good =
    rw (long_name source start tag (ints_text ints), outside_read n group source start tag few sender small tag_small, few_ints_read 65536 ints good) refl

-- what is read is a mark within its bounds, and the text is its
abbrev pub IsMarkText : ℕ → List ℕ → List ℕ → Mark → Type 0
IsMarkText n group text mark = IsMark n group mark × (text ≡ mark_text mark)

message_said_cut : (n : ℕ) (group text : List ℕ) (parts : Option (List ℕ × List ℕ)) (mark : Mark) → split_once 58 text ≡ parts → message_split n group text parts ≡ some mark → IsMarkText n group text mark
message_said_cut n group text None mark is e =
    let a = bind_some (inside_in n group text) (λ name. some (Inside name.0 name.1)) mark e in
    let said = inside_said n group text a.0.0 a.0.1 a.1 in
    let same : Inside a.0.0 a.0.1 ≡ mark = let s = a.2 in cc in
    subst (IsMarkText n group text) same ((said.0, said.1), said.2)
message_said_cut n group text (Some parts) mark is e =
    let a = bind_some (outside_in n group parts.0) (λ name. few_ints_in 65536 parts.1 >>= λ ints. some (Outside name.0 name.1 name.2 ints)) mark e in
    let b = bind_some (few_ints_in 65536 parts.1) (λ ints. some (Outside a.0.0 a.0.1 a.0.2 ints)) mark a.2 in
    let said = outside_said n group parts.0 a.0.0 a.0.1 a.0.2 a.1 in
    let ints = few_ints_said 65536 parts.1 b.0 b.1 in
    let same : Outside a.0.0 a.0.1 a.0.2 b.0 ≡ mark = let s = b.2 in cc in
    subst (IsMarkText n group text) same ((said.0, said.1, said.2, ints.0), split_once_some 58 text parts.0 parts.1 is ∙ ap (λ xs. xs ++ 58 ∷ parts.1) said.3 ∙ ap (λ xs. tagged_text a.0.0 a.0.1 a.0.2 ++ 58 ∷ xs) ints.1)

message_said : (n : ℕ) (group text : List ℕ) (mark : Mark) → message_in n group text ≡ some mark → IsMarkText n group text mark
unfolding message_in
message_said n group text mark e = message_said_cut n group text (split_once 58 text) mark refl e

-- communicators
made_read : (n comm : ℕ) → IsSmallNumber comm → made_in n (decimal_text comm) ≡ some (Made comm)
unfolding made_in
made_read n comm small = rw (split_once_none 58 (decimal_text comm) (no_colon comm), number_read 999999 comm small) refl

made_read_long : (n comm : ℕ) (members : List ℕ) → n ≤ 256 → (0 < comm) → IsSmallNumber comm → (0 < length members) → (length members ≤ 64) → (are_below n members ≡ true)
    → made_in n (decimal_text comm ++ 58 ∷ by_commas (map decimal_text members)) ≡ some (MadeOutside comm members)
unfolding made_in
made_read_long n comm [] few above small many fits below = absurd (omega arith)
made_read_long n comm (member ∷ members) few above small many fits below =
    rw (
      split_once_at 58 (decimal_text comm) (decimal_text member ++ each_after 44 (map decimal_text members)) (no_colon comm),
      number_read 999999 comm small,
      ranks_read 44 n member members (omega arith) few below,
      lt-ltb 0 comm above,
      le-leb (length (member ∷ members)) 64 fits,
    ) refl

abbrev pub IsMadeText : ℕ → List ℕ → List ℕ → Mark → Type 0
IsMadeText n group text mark = IsMark n group mark × (109 ∷ 46 ∷ text ≡ mark_text mark)

made_said_cut : (n : ℕ) (group text : List ℕ) (parts : Option (List ℕ × List ℕ)) (mark : Mark) → split_once 58 text ≡ parts → made_split n text parts ≡ some mark → IsMadeText n group text mark
made_said_cut n group text None mark is e =
    let a = bind_some (number_in 999999 text) (λ comm. some (Made comm)) mark e in
    let said = number_said 999999 text a.0 a.1 in
    let same : Made a.0 ≡ mark = let s = a.2 in cc in
    subst (IsMadeText n group text) same (said.0, ap (λ xs. 109 ∷ 46 ∷ xs) said.1)
made_said_cut n group text (Some parts) mark is e =
    let a = bind_some (number_in 999999 parts.0) (λ comm. ranks_in 44 n parts.1 >>= λ members. if nat_lt 0 comm && nat_le (length members) 64 then some (MadeOutside comm members) else None) mark e in
    let b = bind_some (ranks_in 44 n parts.1) (λ members. if nat_lt 0 a.0 && nat_le (length members) 64 then some (MadeOutside a.0 members) else None) mark a.2 in
    let g = guard_some (nat_lt 0 a.0 && nat_le (length b.0) 64) (MadeOutside a.0 b.0) mark b.2 in
    let tests = and_parts (nat_lt 0 a.0) (nat_le (length b.0) 64) g.0 in
    let comm = number_said 999999 parts.0 a.0 a.1 in
    let members = ranks_said 44 n parts.1 b.0 b.1 in
    let many : 0 < length b.0 = let long : length b.0 ≡ length (members.0 ∷ members.1) = ap length members.2 in omega arith in
    let is' : text ≡ decimal_text a.0 ++ 58 ∷ by_commas (map decimal_text b.0) =
    split_once_some 58 text parts.0 parts.1 is ∙ ap (λ xs. xs ++ 58 ∷ parts.1) comm.1
    ∙ ap (λ xs. decimal_text a.0 ++ 58 ∷ xs) (members.4 ∙ ap (λ xs. by_commas (map decimal_text xs)) (sym members.2)) in
    subst (IsMadeText n group text) g.1 ((ltb-true 0 a.0 tests.0, comm.0, many, leb-true (length b.0) 64 tests.1, members.3), ap (λ xs. 109 ∷ 46 ∷ xs) is')

made_said : (n : ℕ) (group text : List ℕ) (mark : Mark) → made_in n text ≡ some mark → IsMadeText n group text mark
unfolding made_in
made_said n group text mark e = made_said_cut n group text (split_once 58 text) mark refl e

-- a number is no letter
digit_first : (n : ℕ) → (digit : ℕ) × (others : List ℕ) × (decimal_text n ≡ digit ∷ others) × IsAsciiDigit digit
digit_first n = by (decimal_text n) (decimal_text-bytes n) (decimal_text-nonempty n)
  where
    by : (text : List ℕ) → All IsAsciiDigit text → 0 < length text → (digit : ℕ) × (others : List ℕ) × (text ≡ digit ∷ others) × IsAsciiDigit digit
    by [] digits long = absurd (omega arith)
    by (digit ∷ others) digits long = (digit, others, refl, All-head IsAsciiDigit digit others digits)

digit_long : (n : ℕ) (group : List ℕ) (digit : ℕ) (text : List ℕ) → IsAsciiDigit digit → mark_in n group (digit ∷ text) ≡ message_in n group (digit ∷ text)
unfolding mark_in long_mark_in after_word
digit_long n group digit text is =
    rw (
      ne_eqb digit 115 (λ e. omega (arith, is.1)),
      ne_eqb digit 110 (λ e. omega (arith, is.1)),
      ne_eqb digit 99 (λ e. omega (arith, is.1)),
      ne_eqb 99 digit (λ e. omega (arith, is.1)),
      ne_eqb 109 digit (λ e. omega (arith, is.1)),
    ) refl

number_long : (n : ℕ) (group : List ℕ) (number : ℕ) (text : List ℕ) → mark_in n group (decimal_text number ++ text) ≡ message_in n group (decimal_text number ++ text)
number_long n group number text =
    let first = digit_first number in
    ap (λ xs. mark_in n group (xs ++ text)) first.2 ∙ digit_long n group first.0 (first.1 ++ text) first.3 ∙ ap (λ xs. message_in n group (xs ++ text)) (sym first.2)

outer_read : (n : ℕ) (group : List ℕ) (ints : List ℤ) → AreInts 262144 ints → mark_in n group (99 ∷ 58 ∷ ints_text ints) ≡ some (Outer ints)
unfolding mark_in long_mark_in after_word
outer_read n group ints good = rw (few_ints_read 262144 ints good) refl

new_read : (n : ℕ) (group text : List ℕ) → mark_in n group (109 ∷ 46 ∷ text) ≡ made_in n text
unfolding mark_in long_mark_in after_word
new_read n group text = refl

letter_read : (n : ℕ) (group : List ℕ) → (mark_in n group (codes "s") ≡ some MarkSent) × (mark_in n group (codes "n") ≡ some Nothing) × (mark_in n group (codes "c") ≡ some Inner)
unfolding mark_in
letter_read n group = (refl, refl, refl)

pub mark_read : (n : ℕ) (group : List ℕ) → n ≤ 256 → (mark : Mark) → IsMark n group mark → mark_in n group (mark_text mark) ≡ some mark
mark_read n group few MarkSent good = (letter_read n group).0
mark_read n group few Nothing good = (letter_read n group).1
mark_read n group few (Inside source start) good = number_long n group source (46 ∷ decimal_text start) ∙ message_read n group few source start good.0 good.1
mark_read n group few (Outside source start tag ints) good =
    let is : mark_text (Outside source start tag ints) ≡ decimal_text source ++ ((46 ∷ decimal_text start) ++ ((46 ∷ decimal_text tag) ++ (58 ∷ ints_text ints))) =
    append_assoc (name_text source start) (46 ∷ decimal_text tag) (58 ∷ ints_text ints) ∙ append_assoc (decimal_text source) (46 ∷ decimal_text start) ((46 ∷ decimal_text tag) ++ (58 ∷ ints_text ints)) in
    ap (mark_in n group) is ∙ number_long n group source ((46 ∷ decimal_text start) ++ ((46 ∷ decimal_text tag) ++ (58 ∷ ints_text ints))) ∙ ap (message_in n group) (sym is)
    ∙ message_read_long n group few source start tag ints good.0 good.1 good.2 good.3
mark_read n group few Inner good = (letter_read n group).2
mark_read n group few (Outer ints) good = outer_read n group ints good
mark_read n group few (Made comm) good = new_read n group (decimal_text comm) ∙ made_read n comm good
mark_read n group few (MadeOutside comm members) good =
    new_read n group (decimal_text comm ++ 58 ∷ by_commas (map decimal_text members)) ∙ made_read_long n comm members few good.0 good.1 good.2 good.3 good.4

long_said : (n : ℕ) (group text : List ℕ) (outer made : Option (List ℕ)) (mark : Mark) → after_word (codes "c:") text ≡ outer → after_word (codes "m.") text ≡ made
    → long_mark n group text outer made ≡ some mark → IsMarkText n group text mark
long_said n group text (Some outer) made mark is is' e =
    let a = bind_some (few_ints_in 262144 outer) (λ ints. some (Outer ints)) mark e in
    let said = few_ints_said 262144 outer a.0 a.1 in
    let same : Outer a.0 ≡ mark = let s = a.2 in cc in
    subst (IsMarkText n group text) same (said.0, behind_some (codes "c:") text outer is ∙ ap (λ xs. 99 ∷ 58 ∷ xs) said.1)
long_said n group text None (Some made) mark is is' e =
    let said = made_said n group made mark e in
    (said.0, behind_some (codes "m.") text made is' ∙ said.1)
long_said n group text None None mark is is' e = message_said n group text mark e

long_mark_said : (n : ℕ) (group text : List ℕ) (mark : Mark) → long_mark_in n group text ≡ some mark → IsMarkText n group text mark
unfolding long_mark_in
long_mark_said n group text mark e = long_said n group text (after_word (codes "c:") text) (after_word (codes "m.") text) mark refl refl e

-- a test that passed, or the others
pub pick : {A : Type 0} (b : Bool) (x : A) (others : Option A) (y : A) → (if b then some x else others) ≡ some y → ((b ≡ true) × (x ≡ y)) ⊎ (others ≡ some y)
pick true x others y e = inl (refl, cc)
pick false x others y e = inr e

pub branch : {A : Type 0} (b : Bool) (x others y : Option A) → (if b then x else others) ≡ y → ((b ≡ true) × (x ≡ y)) ⊎ (others ≡ y)
branch true x others y e = inl (refl, e)
branch false x others y e = inr e

pub mark_said : (n : ℕ) (group text : List ℕ) (mark : Mark) → mark_in n group text ≡ some mark → IsMarkText n group text mark
unfolding mark_in
mark_said n group text mark e =
    elim (pick (bytes_eq text (codes "s")) MarkSent _ mark e) [
      | inl (same, is) ↦ subst (IsMarkText n group text) is (tt, same_word text (codes "s") same)
      | inr e₁ ↦ elim (pick (bytes_eq text (codes "n")) Nothing _ mark e₁) [
        | inl (same, is) ↦ subst (IsMarkText n group text) is (tt, same_word text (codes "n") same)
        | inr e₂ ↦ elim (pick (bytes_eq text (codes "c")) Inner _ mark e₂) [
          | inl (same, is) ↦ subst (IsMarkText n group text) is (tt, same_word text (codes "c") same)
          | inr e₃ ↦ long_mark_said n group text mark e₃
        ]
      ]
    ]
