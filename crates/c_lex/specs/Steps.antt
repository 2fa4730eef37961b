-- What is at a place of a text: nothing of account up to some place, a token, or a fault.
use Rattle.std.specs.Prelude.{◌≡◌, ◌≢◌, ◌≤◌, ◌<◌, ◌+◌, ℕ, Bool, true, false, List, length, slice_range, codes}
use Rattle.c_lex.specs.Bytes.{IsStretch}
use Rattle.c_lex.specs.Marks.{mark_length}
use Rattle.c_lex.specs.Openings.{opening}
use Rattle.c_lex.specs.Literals.{is_literal}
use Rattle.c_lex.specs.Words.{IsDirective, is_left_out}
use Rattle.c_lex.specs.Comments.{IsComment, IsSplitComment, NeverCloses}
use Rattle.c_lex.specs.Texts.{IsStringLiteral, IsBadInside, IsOpenText}
use Rattle.c_lex.specs.declared.bytes.ByteClass.TheVariants.{InLine, InWord}
use Rattle.c_lex.specs.declared.opening.Opening.{Opening}
use Rattle.c_lex.specs.declared.opening.Opening.TheVariants as opens
use Rattle.c_lex.specs.declared.token.TokenKind.TheVariants as kinds
use Rattle.c_lex.specs.declared.fault.Why.TheVariants.{BadByte, OpenComment, OpenText, BadLiteral, LeftOut}
use Rattle.c_lex.specs.declared.step.LexicalStep.{LexicalStep}
use Rattle.c_lex.specs.declared.step.LexicalStep.TheVariants.{Skip, Lexeme, Bad}

-- a line for each kind of lexeme and of fault, by what begins at the place
pub data OpeningGivesStep (text : List ℕ) (on_define : Bool) (at : ℕ) : Opening → LexicalStep → Type 0 where
  define_ends : on_define ≡ true → OpeningGivesStep text on_define at opens.TextEnd (Lexeme kinds.EndLine at)
  define_line_ends : on_define ≡ true → OpeningGivesStep text on_define at opens.Newline (Lexeme kinds.EndLine at)
  line_ends : on_define ≡ false → OpeningGivesStep text on_define at opens.Newline (Skip (at + 1))
  space : OpeningGivesStep text on_define at opens.Space (Skip (at + 1))
  line_comment : {end : ℕ} → IsStretch InLine text (at + 1) (length text) end
      → OpeningGivesStep text on_define at opens.LineComment (Skip end)
  comment : {close : ℕ} → IsComment text on_define at close → OpeningGivesStep text on_define at opens.BlockComment (Skip (close + 2))
  endless_comment : NeverCloses text (at + 2) → OpeningGivesStep text on_define at opens.BlockComment (Bad at OpenComment)
  split_comment : on_define ≡ true → IsSplitComment text at → OpeningGivesStep text on_define at opens.BlockComment (Bad at OpenComment)
  include : {end stop : ℕ} → IsDirective text at end (codes "include") → IsStretch InLine text end (length text) stop
      → OpeningGivesStep text on_define at opens.Directive (Skip stop)
  define : {end : ℕ} → IsDirective text at end (codes "define") → OpeningGivesStep text on_define at opens.Directive (Lexeme kinds.Define end)
  other_directive : {end : ℕ} {word : List ℕ} → IsDirective text at end word → word ≢ codes "include" → word ≢ codes "define"
      → OpeningGivesStep text on_define at opens.Directive (Bad at LeftOut)
  name : {end : ℕ} → IsStretch InWord text (at + 1) (length text) end → is_left_out (slice_range text at end) ≡ false
      → OpeningGivesStep text on_define at opens.Word (Lexeme kinds.Name end)
  left_out_word : {end : ℕ} → IsStretch InWord text (at + 1) (length text) end → is_left_out (slice_range text at end) ≡ true
      → OpeningGivesStep text on_define at opens.Word (Bad at LeftOut)
  number : {end : ℕ} → IsStretch InWord text (at + 1) (length text) end → is_literal (slice_range text at end) ≡ true
      → OpeningGivesStep text on_define at opens.Digits (Lexeme kinds.Number end)
  bad_literal : {end : ℕ} → IsStretch InWord text (at + 1) (length text) end → is_literal (slice_range text at end) ≡ false
      → OpeningGivesStep text on_define at opens.Digits (Bad at BadLiteral)
  quoted : {close : ℕ} → IsStringLiteral text at close → OpeningGivesStep text on_define at opens.Quote (Lexeme kinds.Text (close + 1))
  bad_inside : {place : ℕ} → IsBadInside text at place → OpeningGivesStep text on_define at opens.Quote (Bad place BadByte)
  open_text : IsOpenText text at → OpeningGivesStep text on_define at opens.Quote (Bad at OpenText)
  mark : OpeningGivesStep text on_define at opens.Mark (Lexeme kinds.Mark (at + mark_length text at))
  bad_byte : OpeningGivesStep text on_define at opens.Nothing (Bad at BadByte)

-- what is at this place of the text
abbrev pub IsLexicalStep : List ℕ → Bool → ℕ → LexicalStep → Type 0
IsLexicalStep text on_define at step = OpeningGivesStep text on_define at (opening text at) step

-- each step but the end of a define goes on, within the text
abbrev pub EndsWithin : List ℕ → Bool → ℕ → LexicalStep → Type 0
EndsWithin text on_define at (Skip end) = (at < end) × (end ≤ length text)
EndsWithin text on_define at (Lexeme kinds.EndLine end) = (end ≡ at) × (on_define ≡ true)
EndsWithin text on_define at (Lexeme kind end) = (at < end) × (end ≤ length text)
EndsWithin text on_define at (Bad place why) = place ≤ length text
