-- The tokens of a text, or its first fault.
use Rattle.std.specs.Prelude.{◌≡◌, ◌≤◌, ◌+◌, ◌-◌, length, ℕ, Bool, true, false, List, [], ◌∷◌}
use Rattle.c_lex.specs.Openings.{opening}
use Rattle.c_lex.specs.Steps.{IsLexicalStep}
use Rattle.c_lex.specs.Places.{IsPlaceOf}
use Rattle.c_lex.specs.declared.opening.Opening.TheVariants.{TextEnd}
use Rattle.c_lex.specs.declared.token.Token.{Token}
use Rattle.c_lex.specs.declared.token.TokenKind.{TokenKind}
use Rattle.c_lex.specs.declared.token.TokenKind.TheVariants.{Define, EndLine}
use Rattle.c_lex.specs.declared.fault.Why.{Why}
use Rattle.c_lex.specs.declared.fault.SourceFault.{SourceFault}
use Rattle.c_lex.specs.declared.step.LexicalStep.TheVariants.{Skip, Lexeme, Bad}

-- all tokens, or the place of the first fault and its reason
pub data LexicalReading : Type 0 where
  Tokens : List Token → LexicalReading
  FirstFault : ℕ → Why → LexicalReading

-- one token more before the others
abbrev pub with_token : Token → LexicalReading → LexicalReading
with_token token (Tokens tokens) = Tokens (token ∷ tokens)
with_token token (FirstFault place why) = FirstFault place why

-- the token of this kind from one place to another
abbrev pub token_at : TokenKind → ℕ → ℕ → Token
token_at kind start end = record { kind = kind; start = start; len = end - start }

-- whether the line after a token is a define's
abbrev pub stays_on_define : TokenKind → Bool → Bool
stays_on_define Define on_define = true
stays_on_define EndLine on_define = false
stays_on_define kind on_define = on_define

-- what the text from a place on gives, on a line that is a define or elsewhere
pub data ReadsTokens (text : List ℕ) : Bool → ℕ → LexicalReading → Type 0 where
  at_end : {at : ℕ} → opening text at ≡ TextEnd → ReadsTokens text false at (Tokens [])
  skip : {on_define : Bool} {at end : ℕ} {reading : LexicalReading} → IsLexicalStep text on_define at (Skip end)
      → ReadsTokens text on_define end reading → ReadsTokens text on_define at reading
  lexeme : {on_define : Bool} {at end : ℕ} {kind : TokenKind} {reading : LexicalReading} → IsLexicalStep text on_define at (Lexeme kind end)
      → ReadsTokens text (stays_on_define kind on_define) end reading → ReadsTokens text on_define at (with_token (token_at kind at end) reading)
  bad : {on_define : Bool} {at place : ℕ} {why : Why} → IsLexicalStep text on_define at (Bad place why)
      → ReadsTokens text on_define at (FirstFault place why)

-- these are the tokens of a text
abbrev pub AreTokens : List ℕ → List Token → Type 0
AreTokens text tokens = ReadsTokens text false 0 (Tokens tokens)

-- each within the text, and none before the place where the one before it ends
abbrev pub AreSlices : List ℕ → ℕ → List Token → Type 0
AreSlices text from [] = Unit {0}
AreSlices text from (one ∷ others) =
    (from ≤ one.start) × (one.start + one.len ≤ length text) × AreSlices text (one.start + one.len) others

-- this is the first fault of a text, with its line and column
abbrev pub IsFirstLexicalFault : List ℕ → SourceFault → Type 0
IsFirstLexicalFault text first =
    (place : ℕ) × ReadsTokens text false 0 (FirstFault place first.why) × IsPlaceOf text place first.line first.column
