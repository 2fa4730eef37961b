-- The pieces that are read off a format's bytes are those that they spell.
use Rattle.std.proofs.Common.{◌≡◌, ◌≢◌, ◌⊎◌, inl, inr, ℕ, ◌+◌, ◌*◌, ◌-◌, ◌<◌, ◌≤◌, ◌==◌, ◌&&◌, Bool, true, false, nat_le, nat_lt, List, [], ◌∷◌, ◌++◌, Option, Some, None, option_map, refl, sym, ◌∙◌, ap, subst, append_assoc, arith}
use Rattle.std.proofs.lemmas.List.{append-nil}
use Rattle.std.proofs.lemmas.Bool.Decides.{nat_tests}
use Rattle.std.proofs.lemmas.Bool.{eqb-false, eqb-true}
use Rattle.c_program.specs.declared.format.Base.{Base}
use Rattle.c_program.specs.declared.format.Before.{Before}
use Rattle.c_program.specs.declared.format.Before.TheVariants.{Pieces, Escape, Percent, Filled, Wide}
use Rattle.c_program.specs.declared.format.Filling.{Filling}
use Rattle.c_program.specs.declared.format.Filling.TheVariants.{Blanks, Left, Zeros}
use Rattle.c_program.specs.declared.format.FormatPiece.{FormatPiece}
use Rattle.c_program.specs.declared.format.FormatPiece.TheVariants.{Byte, Int}
use Rattle.c_program.specs.declared.format.FormatStep.{FormatStep}
use Rattle.c_program.specs.Formats.{IsConversion, IsFormat, IsSpelled, IsWidth, SpelledOrNot, decimal, end, escape, escaped, filling_flag, hexadecimal, int, integer, more, none, one, percent, plain, two}
use Rattle.c_program.specs.FormatReading.{begins_width, converts, goes_on, pieces_from, step_of, with_piece}

cases : (b : Bool) → (b ≡ true) ⊎ (b ≡ false)
cases true = inl refl
cases false = inr refl

none_more : (found : Option (List FormatPiece)) → option_map (with_piece None) found ≡ found
none_more None = refl
none_more (Some pieces) = refl

differs : (a b : ℕ) → a ≢ b → (a == b) ≡ false
differs a b n = elim (cases (a == b)) [ inl e ↦ absurd (n (eqb-true a b e)) | inr e ↦ e ]

false_and : (b : Bool) → (b && false) ≡ false
false_and true = refl
false_and false = refl

-- ---- what is spelled is read

first_digit : (filling : Filling) (tens : ℕ) → 1 ≤ tens → tens ≤ 9 → (bytes : List ℕ)
    → pieces_from (Filled filling) ((48 + tens) ∷ bytes) ≡ pieces_from (Wide filling tens) bytes
first_digit filling tens h k bytes =
    let t : (nat_le 49 (48 + tens) && nat_le (48 + tens) 57) ≡ true = grind (arith, nat_tests) in
    let d : 48 + tens - 48 ≡ tens = omega arith in
    rw (t, d) (none_more (pieces_from (Wide filling tens) bytes))

second_digit : (filling : Filling) (tens ones : ℕ) → tens ≤ 9 → ones ≤ 9 → (bytes : List ℕ)
    → pieces_from (Wide filling tens) ((48 + ones) ∷ bytes) ≡ pieces_from (Wide filling (tens * 10 + ones)) bytes
second_digit filling tens ones k m bytes =
    let t : (nat_lt tens 10 && (nat_le 48 (48 + ones) && nat_le (48 + ones) 57)) ≡ true = grind (arith, nat_tests) in
    let d : 48 + ones - 48 ≡ ones = omega arith in
    rw (t, d) (none_more (pieces_from (Wide filling (tens * 10 + ones)) bytes))

conversion_reads : {byte : ℕ} {base : Base} → (filling : Filling) (width : ℕ) → IsConversion byte base → (rest : List ℕ)
    → pieces_from (Wide filling width) (byte ∷ rest) ≡ option_map (with_piece (Some (Int filling width base))) (pieces_from Pieces rest)
conversion_reads filling width decimal rest = rw (false_and (nat_lt width 10)) refl
conversion_reads filling width integer rest = rw (false_and (nat_lt width 10)) refl
conversion_reads filling width hexadecimal rest = rw (false_and (nat_lt width 10)) refl

width_reads : {digits : List ℕ} {width byte : ℕ} {base : Base} → (filling : Filling) → IsWidth digits width → IsConversion byte base → (rest : List ℕ)
    → pieces_from (Filled filling) (digits ++ byte ∷ rest) ≡ option_map (with_piece (Some (Int filling width base))) (pieces_from Pieces rest)
width_reads filling none decimal rest = refl
width_reads filling none integer rest = refl
width_reads filling none hexadecimal rest = refl
width_reads {digits} {width} {byte} filling (one {tens} h k) c rest = first_digit filling tens h k (byte ∷ rest) ∙ conversion_reads filling tens c rest
width_reads {digits} {width} {byte} filling (two {tens} {ones} h k m) c rest =
    first_digit filling tens h k ((48 + ones) ∷ byte ∷ rest) ∙ second_digit filling tens ones k m (byte ∷ rest) ∙ conversion_reads filling (tens * 10 + ones) c rest

no_flag : (tens : ℕ) → 1 ≤ tens → tens ≤ 9 → (bytes : List ℕ) → pieces_from Percent ((48 + tens) ∷ bytes) ≡ pieces_from (Filled Blanks) ((48 + tens) ∷ bytes)
no_flag tens h k bytes =
    let p : (48 + tens == 37) ≡ false = grind (arith, nat_tests) in
    let q : (48 + tens == 45) ≡ false = grind (arith, nat_tests) in
    let z : (48 + tens == 48) ≡ false = grind (arith, nat_tests) in
    rw (p, q, z) refl

blanks_read : {digits : List ℕ} {width byte : ℕ} {base : Base} → IsWidth digits width → IsConversion byte base → (rest : List ℕ)
    → pieces_from Percent (digits ++ byte ∷ rest) ≡ pieces_from (Filled Blanks) (digits ++ byte ∷ rest)
blanks_read none decimal rest = refl
blanks_read none integer rest = refl
blanks_read none hexadecimal rest = refl
blanks_read {digits} {width} {byte} (one {tens} h k) c rest = no_flag tens h k (byte ∷ rest)
blanks_read {digits} {width} {byte} (two {tens} {ones} h k m) c rest = no_flag tens h k ((48 + ones) ∷ byte ∷ rest)

int_reads : {digits : List ℕ} {width byte : ℕ} {base : Base} → (filling : Filling) → IsWidth digits width → IsConversion byte base → (rest : List ℕ)
    → pieces_from Pieces ((37 ∷ filling_flag filling ++ digits ++ byte ∷ []) ++ rest) ≡ option_map (with_piece (Some (Int filling width base))) (pieces_from Pieces rest)
int_reads {digits} {width} {byte} Blanks w c rest =
    let a : (digits ++ byte ∷ []) ++ rest ≡ digits ++ byte ∷ rest = append_assoc digits (byte ∷ []) rest in
    rw a (none_more (pieces_from Percent (digits ++ byte ∷ rest)) ∙ blanks_read w c rest ∙ width_reads Blanks w c rest)
int_reads {digits} {width} {byte} Left w c rest =
    let a : (digits ++ byte ∷ []) ++ rest ≡ digits ++ byte ∷ rest = append_assoc digits (byte ∷ []) rest in
    rw a (none_more _ ∙ none_more (pieces_from (Filled Left) (digits ++ byte ∷ rest)) ∙ width_reads Left w c rest)
int_reads {digits} {width} {byte} Zeros w c rest =
    let a : (digits ++ byte ∷ []) ++ rest ≡ digits ++ byte ∷ rest = append_assoc digits (byte ∷ []) rest in
    rw a (none_more _ ∙ none_more (pieces_from (Filled Zeros) (digits ++ byte ∷ rest)) ∙ width_reads Zeros w c rest)

spelling_reads : {spelling : List ℕ} {piece : FormatPiece} → IsSpelled spelling piece → (rest : List ℕ)
    → pieces_from Pieces (spelling ++ rest) ≡ option_map (with_piece (Some piece)) (pieces_from Pieces rest)
spelling_reads (plain {byte} n m) rest =
    let p : (byte == 92) ≡ false = differs byte 92 n in
    let q : (byte == 37) ≡ false = differs byte 37 m in
    rw (p, q) refl
spelling_reads (escape {byte} {meant} e) rest = rw e (none_more _)
spelling_reads percent rest = none_more _
spelling_reads (int {filling} w c) rest = int_reads filling w c rest

pub format_reads : {bytes : List ℕ} {pieces : List FormatPiece} → IsFormat bytes pieces → pieces_from Pieces bytes ≡ Some pieces
format_reads end = refl
format_reads (more {spelling} {bytes} {piece} {pieces} s f) = spelling_reads s bytes ∙ ap (option_map (with_piece (Some piece))) (format_reads f)

-- ---- what is read is spelled

pub record IsWide (filling : Filling) (width : ℕ) (read : List ℕ) : Type 0 where
  pub digits : List ℕ
  pub spelled : IsWidth digits width
  pub some : 1 ≤ width
  pub is : read ≡ 37 ∷ filling_flag filling ++ digits

-- the bytes that were read of a piece that has not ended
abbrev IsBegun : Before → List ℕ → Type 0
IsBegun Pieces read = read ≡ []
IsBegun Escape read = read ≡ 92 ∷ []
IsBegun Percent read = read ≡ 37 ∷ []
IsBegun (Filled filling) read = read ≡ 37 ∷ filling_flag filling
IsBegun (Wide filling width) read = IsWide filling width read

abbrev Follows : List ℕ → Before → Option FormatPiece → Type 0
Follows read before None = IsBegun before read
Follows read before (Some piece) = (before ≡ Pieces) × IsSpelled read piece

abbrev FollowsIf : List ℕ → Option FormatStep → Type 0
FollowsIf read None = Unit {0}
FollowsIf read (Some step) = Follows read step.before step.piece

spelled_int : {digits : List ℕ} {width : ℕ} {base : Base} (filling : Filling) (byte letter : ℕ) (read : List ℕ) → IsWidth digits width
    → read ≡ 37 ∷ filling_flag filling ++ digits → byte ≡ letter → IsConversion letter base → IsSpelled (read ++ byte ∷ []) (Int filling width base)
spelled_int {digits} {width} {base} filling byte letter read w e q k =
    let a : read ++ byte ∷ [] ≡ 37 ∷ filling_flag filling ++ digits ++ letter ∷ [] =
    rw (e, q) refl in
    subst (λ xs. IsSpelled xs (Int filling width base)) (sym a) (int w k)

converted : {digits : List ℕ} {width : ℕ} (filling : Filling) (byte : ℕ) (read : List ℕ) → IsWidth digits width → read ≡ 37 ∷ filling_flag filling ++ digits
    → FollowsIf (read ++ byte ∷ []) (converts filling width byte)
converted filling byte read w e = elim (cases (byte == 100)) [
  | inl p ↦ rw p (refl, spelled_int filling byte 100 read w e (eqb-true byte 100 p) decimal)
  | inr p ↦ elim (cases (byte == 105)) [
    | inl q ↦ rw (p, q) (refl, spelled_int filling byte 105 read w e (eqb-true byte 105 q) integer)
    | inr q ↦ elim (cases (byte == 120)) [
      | inl z ↦ rw (p, q, z) (refl, spelled_int filling byte 120 read w e (eqb-true byte 120 z) hexadecimal)
      | inr z ↦ rw (p, q, z) tt
    ]
  ]
]

begun_width : (filling : Filling) (byte : ℕ) (read : List ℕ) → read ≡ 37 ∷ filling_flag filling → FollowsIf (read ++ byte ∷ []) (begins_width filling byte)
begun_width filling byte read e = elim (cases (nat_le 49 byte && nat_le byte 57)) [
  | inl t ↦
      let h : 1 ≤ byte - 48 = grind (arith, nat_tests) in
      let k : byte - 48 ≤ 9 = grind (arith, nat_tests) in
      let d : byte ≡ 48 + (byte - 48) = grind (arith, nat_tests) in
      rw t (record {
        digits = (48 + (byte - 48)) ∷ [];
        spelled = one h k;
        some = h;
        is = ap (λ xs. xs ++ byte ∷ []) e ∙ ap (λ b. 37 ∷ filling_flag filling ++ b ∷ []) d;
      })
  | inr t ↦ rw t (converted filling byte read none (e ∙ ap (λ xs. 37 ∷ xs) (sym (append-nil (filling_flag filling)))))
]

one_digit : {digits : List ℕ} {width : ℕ} → IsWidth digits width → 1 ≤ width → width < 10 → digits ≡ (48 + width) ∷ []
one_digit none h k = absurd (omega arith)
one_digit (one a b) h k = refl
one_digit (two {tens} {ones} a b c) h k = absurd (omega arith)

one_byte : (before : Before) (read : List ℕ) (byte : ℕ) → IsBegun before read → FollowsIf (read ++ byte ∷ []) (step_of before byte)
one_byte Pieces read byte e = elim (cases (byte == 92)) [
  | inl t ↦ rw (e, t) (ap (λ b. b ∷ []) (eqb-true byte 92 t))
  | inr t ↦ elim (cases (byte == 37)) [
    | inl p ↦ rw (e, t, p) (ap (λ b. b ∷ []) (eqb-true byte 37 p))
    | inr p ↦ rw (e, t, p) (refl, plain (eqb-false byte 92 t) (eqb-false byte 37 p))
  ]
]
one_byte Escape read byte e = rw e (by_escape (escaped byte) refl)
  where
    by_escape : (meant : Option ℕ) → escaped byte ≡ meant → FollowsIf (92 ∷ byte ∷ []) (option_map (λ byte. record { before = Pieces; piece = Some (Byte byte) }) meant)
    by_escape None h = tt
    by_escape (Some meant) h = (refl, escape h)
one_byte Percent read byte e = elim (cases (byte == 37)) [
  | inl p ↦ rw (e, p) (refl, subst (λ b. IsSpelled (37 ∷ b ∷ []) (Byte 37)) (sym (eqb-true byte 37 p)) percent)
  | inr p ↦ elim (cases (byte == 45)) [
    | inl q ↦ rw (e, p, q) (ap (λ b. 37 ∷ b ∷ []) (eqb-true byte 45 q))
    | inr q ↦ elim (cases (byte == 48)) [
      | inl z ↦ rw (e, p, q, z) (ap (λ b. 37 ∷ b ∷ []) (eqb-true byte 48 z))
      | inr z ↦ rw (p, q, z) (begun_width Blanks byte read e)
    ]
  ]
]
one_byte (Filled filling) read byte e = begun_width filling byte read e
one_byte (Wide filling width) read byte b = elim (cases (nat_lt width 10 && (nat_le 48 byte && nat_le byte 57))) [
  | inl t ↦
      let l : width < 10 = grind (arith, nat_tests) in
      let m : byte - 48 ≤ 9 = grind (arith, nat_tests) in
      let h : 1 ≤ width = b.some in
      let k : width ≤ 9 = omega arith in
      let d : byte ≡ 48 + (byte - 48) = grind (arith, nat_tests) in
      let s : b.digits ≡ (48 + width) ∷ [] = one_digit b.spelled h l in
      let e : read ≡ 37 ∷ filling_flag filling ++ (48 + width) ∷ [] = b.is ∙ ap (λ xs. 37 ∷ filling_flag filling ++ xs) s in
      let one_more : 1 ≤ width * 10 + (byte - 48) = omega arith in
      rw t (record {
        digits = (48 + width) ∷ (48 + (byte - 48)) ∷ [];
        spelled = two h k m;
        some = one_more;
        is = ap (λ xs. xs ++ byte ∷ []) e ∙ ap (λ xs. 37 ∷ xs) (append_assoc (filling_flag filling) ((48 + width) ∷ []) (byte ∷ []))
            ∙ ap (λ b. 37 ∷ filling_flag filling ++ (48 + width) ∷ b ∷ []) d;
      })
  | inr t ↦ rw t (converted filling byte read b.spelled b.is)
]

-- what is read of the bytes behind this one is spelled
abbrev IsReadOn : List ℕ → Type 0
IsReadOn bytes = (before : Before) (read : List ℕ) (pieces : List FormatPiece) → IsBegun before read → pieces_from before bytes ≡ Some pieces → IsFormat (read ++ bytes) pieces

piece_found : (bytes read : List ℕ) (piece : FormatPiece) (pieces : List FormatPiece) (after : Option (List FormatPiece)) → IsReadOn bytes → IsSpelled read piece
    → pieces_from Pieces bytes ≡ after → option_map (with_piece (Some piece)) after ≡ Some pieces → IsFormat (read ++ bytes) pieces
piece_found bytes read piece pieces None on s h e = absurd (cc)
piece_found bytes read piece pieces (Some rest) on s h e =
    let p : pieces ≡ piece ∷ rest = cc in
    rw p (more s (on Pieces [] rest refl h))

piece_or_none : (bytes read : List ℕ) (before : Before) (piece : Option FormatPiece) (pieces : List FormatPiece) → IsReadOn bytes → Follows read before piece
    → option_map (with_piece piece) (pieces_from before bytes) ≡ Some pieces → IsFormat (read ++ bytes) pieces
piece_or_none bytes read before None pieces on f e = on before read pieces f (sym (none_more (pieces_from before bytes)) ∙ e)
piece_or_none bytes read before (Some piece) pieces on f e =
    piece_found bytes read piece pieces (pieces_from Pieces bytes) on f.1 refl
    (subst (λ b. option_map (with_piece (Some piece)) (pieces_from b bytes) ≡ Some pieces) f.0 e)

step_spells : (bytes read : List ℕ) (step : Option FormatStep) (pieces : List FormatPiece) → IsReadOn bytes → FollowsIf read step
    → goes_on step (λ before. pieces_from before bytes) ≡ Some pieces → IsFormat (read ++ bytes) pieces
step_spells bytes read None pieces on f e = absurd (cc)
step_spells bytes read (Some step) pieces on f e = piece_or_none bytes read step.before step.piece pieces on f e

spells : (bytes : List ℕ) (before : Before) (read : List ℕ) (pieces : List FormatPiece) → IsBegun before read → pieces_from before bytes ≡ Some pieces
    → IsFormat (read ++ bytes) pieces
spells [] Pieces read pieces b e = let p : pieces ≡ [] = cc in rw (p, b) end
spells [] Escape read pieces b e = absurd (cc)
spells [] Percent read pieces b e = absurd (cc)
spells [] (Filled filling) read pieces b e = absurd (cc)
spells [] (Wide filling width) read pieces b e = absurd (cc)
spells (byte ∷ bytes) before read pieces b e =
    subst (λ xs. IsFormat xs pieces) (append_assoc read (byte ∷ []) bytes)
    (step_spells bytes (read ++ byte ∷ []) (step_of before byte) pieces (λ before read pieces b e. spells bytes before read pieces b e) (one_byte before read byte b) e)

pub read_spells : (bytes : List ℕ) (pieces : List FormatPiece) → pieces_from Pieces bytes ≡ Some pieces → IsFormat bytes pieces
read_spells bytes pieces e = spells bytes Pieces [] pieces refl e

-- ---- bytes spell pieces, or none

by_reading : (bytes : List ℕ) (found : Option (List FormatPiece)) → pieces_from Pieces bytes ≡ found → SpelledOrNot bytes
by_reading bytes (Some pieces) e = inl (pieces, read_spells bytes pieces e)
by_reading bytes None e = inr (λ pieces f. let no : None ≡ Some pieces = sym e ∙ format_reads f in cc)

pub spelled_or_not : (bytes : List ℕ) → SpelledOrNot bytes
spelled_or_not bytes = by_reading bytes (pieces_from Pieces bytes) refl
