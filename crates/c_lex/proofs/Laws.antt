-- A text has one reading.
use Rattle.std.proofs.Common.{◌≡◌, ◌⊎◌, inl, inr, ◌<◌, ◌≤◌, ◌+◌, ◌-◌, ℕ, Bool, true, false, List, [], ◌∷◌, ◌++◌, length, slice_index, refl, sym, ap, ◌∙◌, subst, arith, append_assoc}
use Rattle.std.specs.Prelude.{slice_range, nat_le, if◌then◌else◌}
use Rattle.std.proofs.lemmas.Bool.{cases_order, le-leb, leb-true, false_from_ne_true}
use Rattle.std.proofs.lemmas.List.{append-nil}
use Rattle.c_lex.specs.Bytes.{IsStretch}
use Rattle.c_lex.specs.Openings.{opening}
use Rattle.c_lex.specs.Literals.{is_literal}
use Rattle.c_lex.specs.Words.{IsDirective, is_left_out}
use Rattle.c_lex.specs.Comments.{IsFirstClose, NeverCloses, IsComment, IsSplitComment}
use Rattle.c_lex.specs.Texts.{Inside, ends, goes_on, IsStringLiteral, IsBadInside}
use Rattle.c_lex.specs.Steps as steps
use Rattle.c_lex.specs.Steps.{OpeningGivesStep, IsLexicalStep}
use Rattle.c_lex.specs.Readings as readings
use Rattle.c_lex.specs.Readings.{LexicalReading, Tokens, FirstFault, ReadsTokens, with_token, stays_on_define, IsFirstLexicalFault}
use Rattle.c_lex.specs.declared.bytes.ByteClass.{ByteClass}
use Rattle.c_lex.specs.declared.bytes.ByteClass.TheVariants.{InWord, InLine, Printable}
use Rattle.c_lex.specs.declared.opening.Opening.{Opening}
use Rattle.c_lex.specs.declared.opening.Opening.TheVariants as opens
use Rattle.c_lex.specs.declared.token.Token.{Token}
use Rattle.c_lex.specs.declared.token.TokenKind.{TokenKind}
use Rattle.c_lex.specs.declared.token.TokenKind.TheVariants as kinds
use Rattle.c_lex.specs.Places.{IsLineBegin, IsPlaceOf}
use Rattle.c_lex.specs.declared.fault.SourceFault.{SourceFault}
use Rattle.c_lex.specs.declared.fault.Why.{Why}
use Rattle.c_lex.specs.declared.fault.Why.TheVariants as whys
use Rattle.c_lex.specs.declared.step.LexicalStep.{LexicalStep}
use Rattle.c_lex.specs.declared.step.LexicalStep.TheVariants.{Skip, Lexeme, Bad}

-- a run has one end
pub run_one : {class : ByteClass} {text : List ℕ} {from limit a b : ℕ} → IsStretch class text from limit a → IsStretch class text from limit b → a ≡ b
run_one {class} {text} {from} {limit} {a} {b} u v = elim (cases_order a b) [
  | inl e ↦ e
  | inr (inl less) ↦ absurd (let h = v.high in let t = v.each a u.low less in let f = u.longest (omega arith) in cc)
  | inr (inr more) ↦ absurd (let h = u.high in let t = u.each b v.low more in let f = v.longest (omega arith) in cc)
]

-- the characters of a text end at one place
pub inside_one : {text : List ℕ} {at a b : ℕ} → Inside text at a → Inside text at b → a ≡ b
inside_one (ends e) (ends f) = refl
inside_one (ends e) (goes_on p i) = absurd (omega arith)
inside_one (goes_on p i) (ends e) = absurd (omega arith)
inside_one (goes_on p i) (goes_on q j) = inside_one i j

close_one : {text : List ℕ} {from a b : ℕ} → IsFirstClose text from a → IsFirstClose text from b → a ≡ b
close_one {text} {from} {a} {b} u v = elim (cases_order a b) [
  | inl e ↦ e
  | inr (inl less) ↦ absurd (let t = u.is in let f = v.first a u.low less in cc)
  | inr (inr more) ↦ absurd (let t = v.is in let f = u.first b v.low more in cc)
]

never_endless : {text : List ℕ} {from a : ℕ} → IsFirstClose text from a → NeverCloses text from → ⊥
never_endless {text} {from} {a} u never = let t = u.is in let f = never a u.low u.high in cc

never_split : {text : List ℕ} {on_define : Bool} {at a : ℕ} → IsComment text on_define at a → on_define ≡ true → IsSplitComment text at → ⊥
never_split {text} {on_define} {at} {a} u define v =
    let e : v.close ≡ a = close_one v.closed u.closed in
    let f : v.newline ≡ a = run_one (subst (λ close. IsStretch InLine text at close v.newline) e v.run) (u.on_line define) in
    let before = v.before in
    omega arith

directive_one : {text : List ℕ} {at a b : ℕ} {word other : List ℕ} → IsDirective text at a word → IsDirective text at b other → (a ≡ b) × (word ≡ other)
directive_one {text} {at} {a} {b} {word} {other} u v =
    let e : v.from ≡ u.from = run_one v.spaces u.spaces in
    let f : a ≡ b = run_one u.run (subst (λ from. IsStretch InWord text from (length text) b) e v.run) in
    let g : slice_range text v.from b ≡ slice_range text u.from a = ap (λ from. slice_range text from b) e ∙ ap (λ end. slice_range text u.from end) (sym f) in
    (f, u.is ∙ sym g ∙ sym v.is)

text_one : {text : List ℕ} {at a b : ℕ} → IsStringLiteral text at a → IsStringLiteral text at b → a ≡ b
text_one u v = inside_one u.inside v.inside

never_bad : {text : List ℕ} {at a place : ℕ} → IsStringLiteral text at a → IsBadInside text at place → ⊥
never_bad {text} {at} {a} {place} u v =
    let e : v.close ≡ a = inside_one v.inside u.inside in
    let f : place ≡ a = run_one (subst (λ close. IsStretch Printable text (at + 1) close place) e v.printable) u.printable in
    let before = v.before in
    omega arith

bad_one : {text : List ℕ} {at a b : ℕ} → IsBadInside text at a → IsBadInside text at b → a ≡ b
bad_one {text} {at} {a} {b} u v =
    let e : v.close ≡ u.close = inside_one v.inside u.inside in
    run_one u.printable (subst (λ close. IsStretch Printable text (at + 1) close b) e v.printable)

-- one thing stands at a place
pub one_step : (text : List ℕ) (on_define : Bool) (at : ℕ) {o : Opening} {s t : LexicalStep} → OpeningGivesStep text on_define at o s → OpeningGivesStep text on_define at o t → s ≡ t
one_step text m at (steps.define_ends h) (steps.define_ends k) = refl
one_step text m at (steps.define_line_ends h) (steps.define_line_ends k) = refl
one_step text m at (steps.define_line_ends h) (steps.line_ends k) = cc
one_step text m at (steps.line_ends h) (steps.define_line_ends k) = cc
one_step text m at (steps.line_ends h) (steps.line_ends k) = refl
one_step text m at steps.space steps.space = refl
one_step text m at (steps.line_comment u) (steps.line_comment v) = ap Skip (run_one u v)
one_step text m at (steps.comment u) (steps.comment v) = ap (λ close. Skip (close + 2)) (close_one u.closed v.closed)
one_step text m at (steps.comment u) (steps.endless_comment v) = absurd (never_endless u.closed v)
one_step text m at (steps.comment u) (steps.split_comment d v) = absurd (never_split u d v)
one_step text m at (steps.endless_comment u) (steps.comment v) = absurd (never_endless v.closed u)
one_step text m at (steps.endless_comment u) (steps.endless_comment v) = refl
one_step text m at (steps.endless_comment u) (steps.split_comment d v) = refl
one_step text m at (steps.split_comment d u) (steps.comment v) = absurd (never_split v d u)
one_step text m at (steps.split_comment d u) (steps.endless_comment v) = refl
one_step text m at (steps.split_comment d u) (steps.split_comment e v) = refl
one_step text m at (steps.include d u) (steps.include {stop = stop} e v) =
    ap Skip (run_one u (subst (λ end. IsStretch InLine text end (length text) stop) (sym (directive_one d e).0) v))
one_step text m at (steps.include d u) (steps.define e) = absurd (let same = (directive_one d e).1 in cc)
one_step text m at (steps.include d u) (steps.other_directive e i n) = absurd (i (sym (directive_one d e).1))
one_step text m at (steps.define d) (steps.include e u) = absurd (let same = (directive_one d e).1 in cc)
one_step text m at (steps.define d) (steps.define e) = ap (Lexeme kinds.Define) (directive_one d e).0
one_step text m at (steps.define d) (steps.other_directive e i n) = absurd (n (sym (directive_one d e).1))
one_step text m at (steps.other_directive d i n) (steps.include e u) = absurd (i (directive_one d e).1)
one_step text m at (steps.other_directive d i n) (steps.define e) = absurd (n (directive_one d e).1)
one_step text m at (steps.other_directive d i n) (steps.other_directive e j k) = refl
one_step text m at (steps.name u h) (steps.name v k) = ap (Lexeme kinds.Name) (run_one u v)
one_step text m at (steps.name u h) (steps.left_out_word v k) = let e = ap (λ end. is_left_out (slice_range text at end)) (run_one u v) in cc
one_step text m at (steps.left_out_word u h) (steps.name v k) = let e = ap (λ end. is_left_out (slice_range text at end)) (run_one u v) in cc
one_step text m at (steps.left_out_word u h) (steps.left_out_word v k) = refl
one_step text m at (steps.number u h) (steps.number v k) = ap (Lexeme kinds.Number) (run_one u v)
one_step text m at (steps.number u h) (steps.bad_literal v k) = let e = ap (λ end. is_literal (slice_range text at end)) (run_one u v) in cc
one_step text m at (steps.bad_literal u h) (steps.number v k) = let e = ap (λ end. is_literal (slice_range text at end)) (run_one u v) in cc
one_step text m at (steps.bad_literal u h) (steps.bad_literal v k) = refl
one_step text m at (steps.quoted u) (steps.quoted v) = ap (λ close. Lexeme kinds.Text (close + 1)) (text_one u v)
one_step text m at (steps.quoted u) (steps.bad_inside v) = absurd (never_bad u v)
one_step text m at (steps.quoted u) (steps.open_text v) = absurd (v.open_there (ap (slice_index text) (inside_one v.inside u.inside) ∙ u.closed))
one_step text m at (steps.bad_inside u) (steps.quoted v) = absurd (never_bad v u)
one_step text m at (steps.bad_inside u) (steps.bad_inside v) = ap (λ place. Bad place whys.BadByte) (bad_one u v)
one_step text m at (steps.bad_inside u) (steps.open_text v) = absurd (v.open_there (ap (slice_index text) (inside_one v.inside u.inside) ∙ u.closed))
one_step text m at (steps.open_text u) (steps.quoted v) = absurd (u.open_there (ap (slice_index text) (inside_one u.inside v.inside) ∙ v.closed))
one_step text m at (steps.open_text u) (steps.bad_inside v) = absurd (u.open_there (ap (slice_index text) (inside_one u.inside v.inside) ∙ v.closed))
one_step text m at (steps.open_text u) (steps.open_text v) = refl
one_step text m at steps.mark steps.mark = refl
one_step text m at steps.bad_byte steps.bad_byte = refl

-- the text ends, and no define's line does
nothing_at_end : (text : List ℕ) (at : ℕ) (step : LexicalStep) → OpeningGivesStep text false at opens.TextEnd step → ⊥
nothing_at_end text at step (steps.define_ends h) = cc

ends_or_goes_on : {A : Type 0} (text : List ℕ) (at : ℕ) (step : LexicalStep) → opening text at ≡ opens.TextEnd → IsLexicalStep text false at step → A
ends_or_goes_on text at step e s = absurd (nothing_at_end text at step (subst (λ o. OpeningGivesStep text false at o step) e s))

-- a place has one reading
pub one_reading : (text : List ℕ) {on_define : Bool} {at : ℕ} {r q : LexicalReading} → ReadsTokens text on_define at r → ReadsTokens text on_define at q → r ≡ q
one_reading text (readings.at_end e) (readings.at_end f) = refl
one_reading text (readings.at_end e) (readings.skip s r) = ends_or_goes_on text _ _ e s
one_reading text (readings.at_end e) (readings.lexeme s r) = ends_or_goes_on text _ _ e s
one_reading text (readings.at_end e) (readings.bad s) = ends_or_goes_on text _ _ e s
one_reading text (readings.skip s r) (readings.at_end e) = ends_or_goes_on text _ _ e s
one_reading text (readings.skip {on_define = m} {end = a} {reading = x} s r) (readings.skip {end = b} {reading = y} t q) =
    let e = one_step text _ _ s t in
    let f : b ≡ a = cc in
    one_reading text r (subst (λ end. ReadsTokens text m end y) f q)
one_reading text (readings.skip s r) (readings.lexeme t q) = let e = one_step text _ _ s t in cc
one_reading text (readings.skip s r) (readings.bad t) = let e = one_step text _ _ s t in cc
one_reading text (readings.lexeme s r) (readings.at_end e) = ends_or_goes_on text _ _ e s
one_reading text (readings.lexeme s r) (readings.skip t q) = let e = one_step text _ _ s t in cc
one_reading text (readings.lexeme {on_define = m} {at = at} {end = a} {kind = k} {reading = x} s r) (readings.lexeme {end = b} {kind = j} {reading = y} t q) =
    let e = one_step text _ _ s t in
    let f : b ≡ a = cc in
    let g : j ≡ k = cc in
    let h : x ≡ y = one_reading text r (subst (λ end. ReadsTokens text (stays_on_define k m) end y) f (subst (λ kind. ReadsTokens text (stays_on_define kind m) b y) g q)) in
    cc
one_reading text (readings.lexeme s r) (readings.bad t) = let e = one_step text _ _ s t in cc
one_reading text (readings.bad s) (readings.at_end e) = ends_or_goes_on text _ _ e s
one_reading text (readings.bad s) (readings.skip t q) = let e = one_step text _ _ s t in cc
one_reading text (readings.bad s) (readings.lexeme t q) = let e = one_step text _ _ s t in cc
one_reading text (readings.bad s) (readings.bad t) = let e = one_step text _ _ s t in cc

-- the tokens before a reading
abbrev pub after : List Token → LexicalReading → LexicalReading
after found (Tokens tokens) = Tokens (found ++ tokens)
after found (FirstFault place why) = FirstFault place why

pub after_one : (found : List Token) (token : Token) (reading : LexicalReading) → after (found ++ token ∷ []) reading ≡ after found (with_token token reading)
after_one found token (Tokens tokens) = ap Tokens (append_assoc found (token ∷ []) tokens)
after_one found token (FirstFault place why) = refl

pub opening_past : (text : List ℕ) (at : ℕ) → length text ≤ at → opening text at ≡ opens.TextEnd
opening_past text at past = let h : nat_le (length text) at ≡ true = le-leb (length text) at past in rw h refl

-- a place with a byte is not the text's end
never_end : (a b c d e f g h i : Bool) → (if a then opens.Newline else (if b then opens.Space else (if c then opens.LineComment else (if d then opens.BlockComment else (if e then opens.Directive else (if f then opens.Word else (if g then opens.Digits else (if h then opens.Quote else (if i then opens.Mark else opens.Nothing))))))))) ≡ opens.TextEnd → ⊥
never_end true b c d e f g h i p = cc
never_end false true c d e f g h i p = cc
never_end false false true d e f g h i p = cc
never_end false false false true e f g h i p = cc
never_end false false false false true f g h i p = cc
never_end false false false false false true g h i p = cc
never_end false false false false false false true h i p = cc
never_end false false false false false false false true i p = cc
never_end false false false false false false false false true p = cc
never_end false false false false false false false false false p = cc

pub end_past : (text : List ℕ) (at : ℕ) → opening text at ≡ opens.TextEnd → at < length text → ⊥
end_past text at e less =
    let h : nat_le (length text) at ≡ false = false_from_ne_true _ (λ t. let past = leb-true (length text) at t in omega arith) in
    never_end _ _ _ _ _ _ _ _ _ (rw h at e)

pub on_define_at_end : (text : List ℕ) (on_define : Bool) (at : ℕ) → (at < length text) ⊎ (on_define ≡ true) → opening text at ≡ opens.TextEnd → on_define ≡ true
on_define_at_end text m at (inl less) e = absurd (end_past text at e less)
on_define_at_end text m at (inr define) e = define

pub lexeme_inside : (text : List ℕ) (on_define : Bool) (at : ℕ) (kind : TokenKind) (end : ℕ) → at ≤ length text → steps.EndsWithin text on_define at (Lexeme kind end) → end ≤ length text
lexeme_inside text m at kinds.EndLine end inside h = let e = h.0 in omega arith
lexeme_inside text m at kinds.Name end inside h = h.1
lexeme_inside text m at kinds.Number end inside h = h.1
lexeme_inside text m at kinds.Text end inside h = h.1
lexeme_inside text m at kinds.Mark end inside h = h.1
lexeme_inside text m at kinds.Define end inside h = h.1

pub begin_one : {text : List ℕ} {place a b : ℕ} → IsLineBegin text place a → IsLineBegin text place b → a ≡ b
begin_one {text} {place} {a} {b} u v = elim (cases_order a b) [
  | inl e ↦ e
  | inr (inl less) ↦ absurd (apart a b u v less)
  | inr (inr more) ↦ absurd (apart b a v u more)
]
  where
    apart : (a b : ℕ) → IsLineBegin text place a → IsLineBegin text place b → a < b → ⊥
    apart a b u v less = elim v.first [
      | inl e ↦ omega arith
      | inr e ↦ u.same_line (b - 1) (omega arith) (let before = v.before in omega arith) e
    ]

pub fault_one : (text : List ℕ) (first other : SourceFault) → IsFirstLexicalFault text first → IsFirstLexicalFault text other → first ≡ other
fault_one text first other u v =
    let e = one_reading text u.1 v.1 in
    let why : first.why ≡ other.why = cc in
    let place : v.0 ≡ u.0 = cc in
    let there : IsPlaceOf text u.0 other.line other.column = subst (λ at. IsPlaceOf text at other.line other.column) place v.2 in
    let begin : u.2.begin ≡ there.begin = begin_one u.2.begins there.begins in
    let line : first.line ≡ other.line = u.2.line_is ∙ sym there.line_is in
    let column : first.column ≡ other.column = u.2.column_is ∙ ap (λ b. u.0 - b + 1) begin ∙ sym there.column_is in
    let fault_of : ℕ → ℕ → Why → SourceFault = λ l c w. record { line = l; column = c; why = w } in
    ap (λ l. fault_of l first.column first.why) line ∙ ap (λ c. fault_of other.line c first.why) column ∙ ap (fault_of other.line other.column) why

-- what was found is all, where the text ends
pub read_all : (text : List ℕ) (on_define : Bool) (at : ℕ) (found : List Token)
    → ((reading : LexicalReading) → ReadsTokens text on_define at reading → ReadsTokens text false 0 (after found reading))
    → on_define ≡ false → length text ≤ at → ReadsTokens text false 0 (Tokens found)
read_all text m at found onward no_define past =
    subst (ReadsTokens text false 0) (ap Tokens (append-nil found))
    (onward (Tokens []) (subst (λ define. ReadsTokens text define at (Tokens [])) (sym no_define) (readings.at_end (opening_past text at past))))
