-- Tokens are slices of the text in order.
use Rattle.std.proofs.Common.{◌≡◌, inl, inr, ◌<◌, ◌≤◌, ◌+◌, ◌-◌, ℕ, zero, suc, Bool, List, [], ◌∷◌, length, get_or, refl, sym, ◌∙◌, subst, arith}
use Rattle.std.proofs.lemmas.Bool.{cases_lt}
use Rattle.c_lex.specs.Openings.{opening}
use Rattle.std.specs.Prelude.{slice_index}
use Rattle.c_lex.specs.Texts.{Inside, ends, goes_on}
use Rattle.c_lex.specs.Steps as steps
use Rattle.c_lex.specs.Steps.{OpeningGivesStep}
use Rattle.c_lex.specs.Readings as readings
use Rattle.c_lex.specs.Readings.{LexicalReading, Tokens, FirstFault, ReadsTokens, with_token, token_at, AreTokens, AreSlices}
use Rattle.c_lex.specs.declared.opening.Opening.{Opening}
use Rattle.c_lex.specs.declared.opening.Opening.TheVariants as opens
use Rattle.c_lex.specs.declared.token.Token.{Token}
use Rattle.c_lex.specs.declared.token.TokenKind.{TokenKind}
use Rattle.c_lex.specs.declared.step.LexicalStep.{LexicalStep}
use Rattle.c_lex.specs.declared.step.LexicalStep.TheVariants.{Skip, Lexeme, Bad}
use Rattle.c_lex.proofs.MarkLaws.{mark_length-within, past_is_zero}
use Rattle.c_lex.proofs.Laws.{opening_past}

-- a step goes on within the text
abbrev pub GoesOn : List ℕ → ℕ → LexicalStep → Type 0
GoesOn text at (Skip end) = (at ≤ end) × (end ≤ length text)
GoesOn text at (Lexeme kind end) = (at ≤ end) × (end ≤ length text)
GoesOn text at (Bad place why) = Unit {0}

-- what begins at a place with a byte
inside : (text : List ℕ) (at : ℕ) (o : Opening) → opening text at ≡ o → (o ≡ opens.TextEnd → ⊥) → at < length text
inside text at o e other = elim (cases_lt at (length text)) [
  | inl less ↦ less
  | inr past ↦ absurd (other (sym e ∙ opening_past text at past))
]

low_inside : {text : List ℕ} {at end : ℕ} → Inside text at end → at ≤ end
low_inside (ends e) = omega arith
low_inside (goes_on p i) = let more = low_inside i in omega arith

-- a closing mark is within the text
closed_inside : (text : List ℕ) (k : ℕ) → slice_index text k ≡ 34 → k < length text
closed_inside text k e = elim (cases_lt k (length text)) [
  | inl less ↦ less
  | inr past ↦ absurd (let z : slice_index text k ≡ 0 = past_is_zero text k past in omega arith)
]

pub goes_on_inside : (text : List ℕ) (on_define : Bool) (at : ℕ) {o : Opening} {step : LexicalStep} → at ≤ length text → opening text at ≡ o → OpeningGivesStep text on_define at o step → GoesOn text at step
goes_on_inside text m at low e (steps.define_ends h) = (omega arith, low)
goes_on_inside text m at low e (steps.define_line_ends h) = (omega arith, low)
goes_on_inside text m at low e (steps.line_ends h) = let less = inside text at opens.Newline e (λ q. cc) in (omega arith, omega arith)
goes_on_inside text m at low e steps.space = let less = inside text at opens.Space e (λ q. cc) in (omega arith, omega arith)
goes_on_inside text m at low e (steps.line_comment u) = let a = u.low in (omega arith, u.high)
goes_on_inside text m at low e (steps.comment u) =
    let a = u.closed.low in let b = u.closed.high in (omega arith, omega arith)
goes_on_inside text m at low e (steps.endless_comment u) = tt
goes_on_inside text m at low e (steps.split_comment d u) = tt
goes_on_inside text m at low e (steps.include d u) =
    let a = d.spaces.low in let b = d.run.low in let z = u.low in (omega arith, u.high)
goes_on_inside text m at low e (steps.define d) = let a = d.spaces.low in let b = d.run.low in (omega arith, d.run.high)
goes_on_inside text m at low e (steps.other_directive d i y) = tt
goes_on_inside text m at low e (steps.name u h) = let a = u.low in (omega arith, u.high)
goes_on_inside text m at low e (steps.left_out_word u h) = tt
goes_on_inside text m at low e (steps.number u h) = let a = u.low in (omega arith, u.high)
goes_on_inside text m at low e (steps.bad_literal u h) = tt
goes_on_inside text m at low e (steps.quoted {close = close} u) =
    let a = low_inside u.inside in let b = closed_inside text close u.closed in (omega arith, omega arith)
goes_on_inside text m at low e (steps.bad_inside u) = tt
goes_on_inside text m at low e (steps.open_text u) = tt
goes_on_inside text m at low e steps.mark =
    let z = mark_length-within text at low in (omega arith, z)
goes_on_inside text m at low e steps.bad_byte = tt

AreSlicesOf : List ℕ → ℕ → LexicalReading → Type 0
AreSlicesOf text from (Tokens tokens) = AreSlices text from tokens
AreSlicesOf text from (FirstFault place why) = Unit {0}

from_later : (text : List ℕ) (from later : ℕ) (tokens : List Token) → from ≤ later → AreSlices text later tokens → AreSlices text from tokens
from_later text from later [] h s = tt
from_later text from later (token ∷ tokens) h s = let a = s.0 in (omega arith, s.1, s.2)

later_of : (text : List ℕ) (from later : ℕ) (reading : LexicalReading) → from ≤ later → AreSlicesOf text later reading → AreSlicesOf text from reading
unfolding AreSlicesOf
later_of text from later (Tokens tokens) h s = from_later text from later tokens h s
later_of text from later (FirstFault place why) h s = tt

one_more : (text : List ℕ) (kind : TokenKind) (at end : ℕ) (reading : LexicalReading) → at ≤ end → end ≤ length text → AreSlicesOf text end reading → AreSlicesOf text at (with_token (token_at kind at end) reading)
unfolding AreSlicesOf
one_more text kind at end (Tokens tokens) h k s =
    let e : end ≡ at + (end - at) = omega arith in
    (omega arith, omega arith, subst (λ z. AreSlices text z tokens) e s)
one_more text kind at end (FirstFault place why) h k s = tt

slices_of : (text : List ℕ) {on_define : Bool} {at : ℕ} {reading : LexicalReading} → at ≤ length text → ReadsTokens text on_define at reading → AreSlicesOf text at reading
unfolding AreSlicesOf
slices_of text low (readings.at_end e) = tt
slices_of text low (readings.skip {on_define = m} {at = at} {end = end} {reading = r} s q) =
    let g = goes_on_inside text m at low refl s in
    later_of text at end r g.0 (slices_of text g.1 q)
slices_of text low (readings.lexeme {on_define = m} {at = at} {end = end} {kind = kind} {reading = r} s q) =
    let g = goes_on_inside text m at low refl s in
    one_more text kind at end r g.0 g.1 (slices_of text g.1 q)
slices_of text low (readings.bad s) = tt

pub tokens_are_slices : (text : List ℕ) (tokens : List Token) → AreTokens text tokens → AreSlices text 0 tokens
unfolding AreSlicesOf
tokens_are_slices text tokens h = slices_of text (omega arith) h

-- so each token can be cut out of the text
pub slice_inside : (text : List ℕ) (from : ℕ) (tokens : List Token) (k : ℕ) (default : Token) → AreSlices text from tokens → k < length tokens
    → (get_or tokens k default).start + (get_or tokens k default).len ≤ length text
slice_inside text from [] k default s below = absurd (omega arith)
slice_inside text from (token ∷ tokens) zero default s below = s.1
slice_inside text from (token ∷ tokens) (suc k) default s below = slice_inside text (token.start + token.len) tokens k default s.2 (omega arith)
