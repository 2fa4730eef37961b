-- What pieces say, both ways.
use Rattle.std.proofs.Common.{◌≡◌, ◌≢◌, ℕ, suc, ◌+◌, ◌<◌, ◌≤◌, ◌⊎◌, inl, inr, Bool, true, false, List, [], ◌∷◌, ◌++◌, map, length, take, drop, refl, sym, ◌∙◌, ap, subst, arith, eq-eqb}
use Rattle.std.specs.Prelude.{◌==◌, ◌&&◌, All, slice_index, Option, Some, None, Result, Ok, Err, MatchOption, ℤ, pos, negsuc, neg_ℤ, FitsSigned, nat_le, nat_lt, if◌then◌else◌}
use Rattle.std.specs.Borrow.{Bor}
use Rattle.std.specs.Char.{IsAsciiDigit}
use Rattle.std.specs.List.{join_with_byte, AllByRecursion, onto_first}
use Rattle.std.specs.Result.{OkIff, result_ok}
use Rattle.std.specs.Str.{bytes_eq}
use Rattle.std.specs.Str.Parse.{digits_value}
use Rattle.std.proofs.Math.Seq.{drop-cons}
use Rattle.std.proofs.lemmas.Bool.{cases_Bool, ne_eqb, eqb-true, and_parts, le-leb, leb-true, lt-ltb, ltb-true}
use Rattle.std.proofs.lemmas.List.{append-nil, take-append-drop}
use Rattle.std.proofs.lemmas.List.Elements.{All-head, All-tail, All-weaker}
use Rattle.std.proofs.lemmas.List.Splits.{slice_split_at, slice_split_none, join_with_byte-slice_split}
use Rattle.std.proofs.lemmas.Option.{some_pair_parts}
use Rattle.std.proofs.lemmas.Slice.Eq.{bytes_eq-Decides}
use mir.Syntax.{w32}
use Rattle.wiz_base.specs.Decimals.{decimal_text, number_text}
use Rattle.std.proofs.Math.Facts.{sfits_widen}
use Rattle.wiz_base.specs.declared.fault.NumberFault.{NumberFault}
use Rattle.wiz_base.specs.Readings.{IsDecimalUpTo, IsReading}
use Rattle.wiz_base.proofs.ReadingLaws.{IsReading-unique}
use Rattle.wiz_base.proofs.DecimalLaws.{decimal_text-is, decimal_text-bytes, decimal_text-nonempty, number_text_injective}
use Rattle.srr_log.specs.EntryText.{each_after}
use Rattle.srr_log.specs.inside.Pieces.{◌>>=◌, GivesText, GivesSplit, after_word, with_byte, split_once, pieces, all_of, number_in, signed_value, is_int, int_in, rank_in}

abbrev pub some : {A : Type 0} → A → Option A
some x = Some x

-- the two cases of what a piece says, with what is known of it
pub said_cases : {A : Type 0} (o : Option A) → ((a : A) × (o ≡ some a)) ⊎ (o ≡ None)
said_cases (Some a) = inl (a, refl)
said_cases None = inr refl

pub bind_some : {A B : Type 0} (o : Option A) (f : A → Option B) (b : B) → (o >>= f) ≡ some b → (a : A) × (o ≡ some a) × (f a ≡ some b)
bind_some (Some a) f b e = (a, refl, e)
bind_some None f b e = absurd cc

pub guard_some : {A : Type 0} (b : Bool) (x y : A) → (if b then some x else None) ≡ some y → (b ≡ true) × (x ≡ y)
guard_some true x y e = (refl, cc)
guard_some false x y e = absurd cc

pub guard_none : {A : Type 0} (b : Bool) (x y : A) → (if b then None else some x) ≡ some y → (b ≡ false) × (x ≡ y)
guard_none true x y e = absurd cc
guard_none false x y e = (refl, cc)

-- words
pub same_word : (text word : List ℕ) → bytes_eq text word ≡ true → text ≡ word
same_word text word e = (bytes_eq-Decides text word).0 e

pub word_same : (text : List ℕ) → bytes_eq text text ≡ true
word_same text = (bytes_eq-Decides text text).1 refl

pub behind_word : (word rest : List ℕ) → after_word word (word ++ rest) ≡ some rest
unfolding after_word
behind_word [] rest = refl
behind_word (byte ∷ word) rest = rw (eq-eqb byte byte refl) (behind_word word rest)

pub behind_some : (word text rest : List ℕ) → after_word word text ≡ some rest → text ≡ word ++ rest
unfolding after_word
behind_some [] text rest e = cc
behind_some (b ∷ word) [] rest e = absurd (cc)
behind_some (b ∷ word) (c ∷ text) rest e =
    elim (cases_Bool (b == c)) [
      | inl same ↦
          let others : text ≡ word ++ rest = behind_some word text rest (rw same at e) in
          let byte : b ≡ c = eqb-true b c same in cc
      | inr apart ↦ let none : None ≡ some rest = rw apart at e in absurd (cc)
    ]

pub gives_behind : (word text : List ℕ) (r : Option (Bor (List ℕ))) → MatchOption r ((rest : List ℕ) → text ≢ word ++ rest) (λ x. text ≡ word ++ x.now) → GivesText r (after_word word text)
gives_behind word text (Some x) is = ap (after_word word) is ∙ behind_word word x.now
gives_behind word text None none = elim (said_cases (after_word word text)) [
  | inl found ↦ absurd (none found.0 (behind_some word text found.0 found.1))
  | inr is ↦ is
]

-- marks
pub split_once_at : (mark : ℕ) (front rest : List ℕ) → All (λ byte. byte ≢ mark) front → split_once mark (front ++ mark ∷ rest) ≡ some (front, rest)
unfolding split_once
split_once_at mark [] rest none = rw (eq-eqb mark mark refl) refl
split_once_at mark (byte ∷ front) rest none =
    rw (ne_eqb byte mark (All-head (λ byte. byte ≢ mark) byte front none), split_once_at mark front rest (All-tail (λ byte. byte ≢ mark) byte front none)) refl

pub split_once_none : (mark : ℕ) (text : List ℕ) → All (λ byte. byte ≢ mark) text → split_once mark text ≡ None
unfolding split_once
split_once_none mark [] none = refl
split_once_none mark (byte ∷ text) none =
    rw (ne_eqb byte mark (All-head (λ byte. byte ≢ mark) byte text none), split_once_none mark text (All-tail (λ byte. byte ≢ mark) byte text none)) refl

with_byte_some : (byte : ℕ) (o : Option (List ℕ × List ℕ)) (front rest : List ℕ) → with_byte byte o ≡ some (front, rest)
    → (before : List ℕ) × (o ≡ some (before, rest)) × (front ≡ byte ∷ before)
with_byte_some byte (Some parts) front rest e =
    let same = some_pair_parts (byte ∷ parts.0) front parts.1 rest e in
    (parts.0, ap (λ (xs : List ℕ). some (parts.0, xs)) same.1, sym same.0)
with_byte_some byte None front rest e = absurd (cc)

pub split_once_some : (mark : ℕ) (text front rest : List ℕ) → split_once mark text ≡ some (front, rest) → text ≡ front ++ mark ∷ rest
unfolding split_once
split_once_some mark [] front rest e = absurd (cc)
split_once_some mark (byte ∷ text) front rest e =
    elim (cases_Bool (byte == mark)) [
      | inl same ↦
          let here = some_pair_parts [] front text rest (rw same at e) in
          let byte_is : byte ≡ mark = eqb-true byte mark same in
          rw (← here.0, byte_is, here.1) refl
      | inr apart ↦
          let w = with_byte_some byte (split_once mark text) front rest (rw apart at e) in
          rw (w.2, ← split_once_some mark text w.0 rest w.1) refl
    ]

-- a place cuts at the first mark
pub gives_cut_none : (mark : ℕ) (text : List ℕ) → All (λ byte. byte ≢ mark) text → GivesSplit None (split_once mark text)
gives_cut_none mark text none = split_once_none mark text none

pub split_once_place : (mark at : ℕ) (text : List ℕ) → All (λ byte. byte ≢ mark) (take at text) → at < length text → slice_index text at ≡ mark
    → split_once mark text ≡ some (take at text, drop (at + 1) text)
split_once_place mark at text none within here =
    let whole : text ≡ take at text ++ mark ∷ drop (at + 1) text =
    sym (take-append-drop at text) ∙ ap (λ xs. take at text ++ xs) (drop-cons text at 0 within ∙ (let next : suc at ≡ at + 1 = omega arith in rw (here, next) refl)) in
    ap (split_once mark) whole ∙ split_once_at mark (take at text) (drop (at + 1) text) none

-- a list with such marks between its pieces
pub pieces_joined : (mark : ℕ) (piece : List ℕ) (others : List (List ℕ)) → All (λ byte. byte ≢ mark) piece → AllByRecursion (All (λ byte. byte ≢ mark)) others
    → pieces mark (piece ++ each_after mark others) ≡ piece ∷ others
pieces_joined mark piece [] none tt = rw (append-nil piece) (slice_split_none (λ byte. byte == mark) piece (All-weaker (λ byte. byte ≢ mark) (λ byte. (byte == mark) ≡ false) (λ byte apart. ne_eqb byte mark apart) piece none))
pieces_joined mark piece (next ∷ others) none (here, all) =
    slice_split_at (λ byte. byte == mark) piece mark (next ++ each_after mark others) (All-weaker (λ byte. byte ≢ mark) (λ byte. (byte == mark) ≡ false) (λ byte apart. ne_eqb byte mark apart) piece none) (eq-eqb mark mark refl)
    ∙ ap (λ xs. piece ∷ xs) (pieces_joined mark next others here all)

join_is : (mark : ℕ) (piece : List ℕ) (others : List (List ℕ)) → join_with_byte mark (piece ∷ others) ≡ piece ++ each_after mark others
join_is mark piece [] = sym (append-nil piece)
join_is mark piece (next ∷ others) = ap (λ xs. piece ++ mark ∷ xs) (join_is mark next others)

pub joined_pieces : (mark : ℕ) (text piece : List ℕ) (others : List (List ℕ)) → pieces mark text ≡ piece ∷ others → text ≡ piece ++ each_after mark others
joined_pieces mark text piece others e =
    sym (join_with_byte-slice_split mark text) ∙ ap (join_with_byte mark) e ∙ join_is mark piece others

pub some_pieces : (mark : ℕ) (text : List ℕ) → pieces mark text ≢ []
some_pieces mark text e = let none : text ≡ [] = sym (join_with_byte-slice_split mark text) ∙ ap (join_with_byte mark) e in
    let one : pieces mark [] ≡ [] = rw none at e in absurd (cc)

-- one piece more, or the last one
pub pieces_cut : (mark : ℕ) (text front rest : List ℕ) → split_once mark text ≡ some (front, rest) → pieces mark text ≡ front ∷ pieces mark rest
unfolding split_once
pieces_cut mark [] front rest e = absurd (cc)
pieces_cut mark (byte ∷ text) front rest e =
    elim (cases_Bool (byte == mark)) [
      | inl same ↦
          let here = some_pair_parts [] front text rest (rw same at e) in
          rw (same, ← here.0, ← here.1) refl
      | inr apart ↦
          let w = with_byte_some byte (split_once mark text) front rest (rw apart at e) in
          rw apart (ap (onto_first byte) (pieces_cut mark text w.0 rest w.1) ∙ ap (λ (xs : List ℕ). xs ∷ pieces mark rest) (sym w.2))
    ]

pub pieces_last : (mark : ℕ) (text : List ℕ) → split_once mark text ≡ None → pieces mark text ≡ text ∷ []
unfolding split_once
pieces_last mark [] e = refl
pieces_last mark (byte ∷ text) e =
    elim (cases_Bool (byte == mark)) [
      | inl same ↦ let here : some {A = List ℕ × List ℕ} ([], text) ≡ None = rw same at e in absurd (cc)
      | inr apart ↦ elim (said_cases (split_once mark text)) [
        | inl found ↦ let here : some {A = List ℕ × List ℕ} (byte ∷ found.0.0, found.0.1) ≡ None = rw (apart, found.1) at e in absurd (cc)
        | inr none ↦ rw (apart, pieces_last mark text none) refl
      ]
    ]

-- what all pieces say
pub all_of_map : {A : Type 0} (said : List ℕ → Option A) (spelled : A → List ℕ) (Good : A → Type 0) → ((value : A) → Good value → said (spelled value) ≡ some value)
    → (values : List A) → AllByRecursion Good values → all_of said (map spelled values) ≡ some values
all_of_map said spelled Good complete [] good = refl
all_of_map said spelled Good complete (value ∷ values) (good, all) =
    rw (complete value good, all_of_map said spelled Good complete values all) refl

pub map_all_of : {A : Type 0} (said : List ℕ → Option A) (spelled : A → List ℕ) (Good : A → Type 0) → ((text : List ℕ) (value : A) → said text ≡ some value → Good value × (text ≡ spelled value))
    → (texts : List (List ℕ)) (values : List A) → all_of said texts ≡ some values → AllByRecursion Good values × (texts ≡ map spelled values)
map_all_of said spelled Good sound [] values e = let none : [] ≡ values = cc in rw (← none) (tt, refl)
map_all_of said spelled Good sound (text ∷ texts) values e =
    let first = bind_some (said text) (λ value. all_of said texts >>= λ others. some (value ∷ others)) values e in
    let second = bind_some (all_of said texts) (λ others. some (first.0 ∷ others)) values first.2 in
    let here = sound text first.0 first.1 in
    let others = map_all_of said spelled Good sound texts second.0 second.1 in
    let is : first.0 ∷ second.0 ≡ values = let s = second.2 in cc in
    let P : List _ → Type 0 = λ values. AllByRecursion Good values × (text ∷ texts ≡ map spelled values) in
    subst P is ((here.0, others.0), ap (λ t. t ∷ texts) here.1 ∙ ap (λ ts. spelled first.0 ∷ ts) others.1)

-- numbers
pub number_read : (most n : ℕ) → n ≤ most → number_in most (decimal_text n) ≡ some n
unfolding number_in
number_read most n fits =
    rw ((decimal_text-is n).value, word_same (decimal_text n), le-leb n most fits) refl

pub number_said : (most : ℕ) (text : List ℕ) (n : ℕ) → number_in most text ≡ some n → (n ≤ most) × (text ≡ decimal_text n)
unfolding number_in
number_said most text n e =
    let g = guard_some (bytes_eq text (decimal_text (digits_value 10 text)) && nat_le (digits_value 10 text) most) (digits_value 10 text) n e in
    let parts = and_parts (bytes_eq text (decimal_text (digits_value 10 text))) (nat_le (digits_value 10 text) most) g.0 in
    let fits = leb-true (digits_value 10 text) most parts.1 in
    let is = same_word text (decimal_text (digits_value 10 text)) parts.0 in
    (rw (← g.1) fits, is ∙ ap decimal_text g.1)

pub number_is : (most : ℕ) (text : List ℕ) (r : Option ℕ) → IsDecimalUpTo text most r → r ≡ number_in most text
number_is most text (Some n) (is, fits) = sym (ap (number_in most) is ∙ number_read most n fits)
number_is most text None none = elim (said_cases (number_in most text)) [
  | inl found ↦ let said = number_said most text found.0 found.1 in absurd (none found.0 said.0 said.1)
  | inr is ↦ sym is
]

pub rank_read : (n rank : ℕ) → n ≤ 256 → rank < n → rank_in n (decimal_text rank) ≡ some rank
unfolding rank_in
rank_read n rank few below = rw (number_read 255 rank (omega arith), lt-ltb rank n below) refl

pub rank_said : (n : ℕ) (text : List ℕ) (rank : ℕ) → rank_in n text ≡ some rank → (rank < n) × (text ≡ decimal_text rank)
unfolding rank_in
rank_said n text rank e =
    let first = bind_some (number_in 255 text) (λ rank. if nat_lt rank n then some rank else None) rank e in
    let g = guard_some (nat_lt first.0 n) first.0 rank first.2 in
    (rw (← g.1) (ltb-true first.0 n g.0), (number_said 255 text first.0 first.1).1 ∙ ap decimal_text g.1)

-- ints
is_int_fits : (z : ℤ) → is_int z ≡ true → FitsSigned w32 z
is_int_fits (pos n) e = let below = ltb-true n 2147483648 e in record { sfits = omega arith }
is_int_fits (negsuc n) e = let below = ltb-true n 2147483648 e in record { sfits = omega arith }

fits_is_int : (z : ℤ) → FitsSigned w32 z → is_int z ≡ true
fits_is_int (pos n) fits = let below = fits.sfits in lt-ltb n 2147483648 (omega arith)
fits_is_int (negsuc n) fits = let below = fits.sfits in lt-ltb n 2147483648 (omega arith)

signed_digits : (text : List ℕ) → All IsAsciiDigit text → 0 < length text → signed_value text ≡ pos (digits_value 10 text)
signed_digits [] digits long = absurd (omega arith)
signed_digits (byte ∷ text) digits long =
    let digit = All-head IsAsciiDigit byte text digits in
    rw (ne_eqb byte 45 (λ e. omega (arith, digit.0))) refl

signed_number : (z : ℤ) → signed_value (number_text z) ≡ z
signed_number (pos n) = signed_digits (decimal_text n) (decimal_text-bytes n) (decimal_text-nonempty n) ∙ ap pos (decimal_text-is n).value
signed_number (negsuc n) = ap (λ m. neg_ℤ (pos m)) (decimal_text-is (suc n)).value

pub int_read : (z : ℤ) → FitsSigned w32 z → int_in (number_text z) ≡ some z
unfolding int_in
int_read z fits = rw (signed_number z, word_same (number_text z), fits_is_int z fits) refl

pub int_said : (text : List ℕ) (z : ℤ) → int_in text ≡ some z → FitsSigned w32 z × (text ≡ number_text z)
unfolding int_in
int_said text z e =
    let g = guard_some (bytes_eq text (number_text (signed_value text)) && is_int (signed_value text)) (signed_value text) z e in
    let parts = and_parts (bytes_eq text (number_text (signed_value text))) (is_int (signed_value text)) g.0 in
    let fits = is_int_fits (signed_value text) parts.1 in
    let is = same_word text (number_text (signed_value text)) parts.0 in
    (subst (FitsSigned w32) g.1 fits, is ∙ ap number_text g.1)

pub int_is : {E : Type 0} (text : List ℕ) (z : ℤ) (r : Result ℤ E) → text ≡ number_text z → OkIff r (FitsSigned w32 z) z → result_ok r ≡ int_in text
int_is text z (Ok v) is (fits, same) = ap Some same ∙ sym (ap int_in is ∙ int_read z fits)
int_is text z (Err f) is wide = elim (said_cases (int_in text)) [
  | inl found ↦
      let said = int_said text found.0 found.1 in
      absurd (wide (subst (FitsSigned w32) (number_text_injective found.0 z (sym said.1 ∙ is)) said.0))
  | inr none ↦ sym none
]

pub int_is_none : (text : List ℕ) (fault : NumberFault) → IsReading text (Err fault) → None ≡ int_in text
int_is_none text fault reading = elim (said_cases (int_in text)) [
  | inl found ↦
      let said = int_said text found.0 found.1 in
      let same : ◌≡◌ {A = Result ℤ NumberFault} (Err fault) (Ok found.0) = IsReading-unique text (Err fault) (Ok found.0) reading (said.1, sfits_widen tt said.0) in
      absurd (cc)
  | inr none ↦ sym none
]
