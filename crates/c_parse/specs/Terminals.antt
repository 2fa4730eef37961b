-- A token as the grammar sees it. (ISO C, "Keywords" and "Punctuators".)
use Rattle.std.specs.Prelude.{◌+◌, ℕ, List, [], ◌∷◌, codes, slice_range, if◌then◌else◌}
use Rattle.std.specs.Str.{bytes_eq}
use Rattle.c_lex.specs.declared.token.Token.{Token}
use Rattle.c_lex.specs.declared.token.TokenKind.{TokenKind}
use Rattle.c_lex.specs.declared.token.TokenKind.TheVariants as kinds
use Rattle.c_grammar.specs.declared.terminal.Terminal.{Terminal}
use Rattle.c_grammar.specs.declared.terminal.Symbol.{Symbol}
use Rattle.c_grammar.specs.declared.terminal.Symbol.TheVariants as w

-- the symbols that have one spelling
unfoldable pub spellings : List (List ℕ × Symbol)
spellings =
    (codes "int", w.Int) ∷ (codes "void", w.Void) ∷ (codes "char", w.Char) ∷
    (codes "MPI_Status", w.Status) ∷ (codes "MPI_Request", w.Request) ∷
    (codes "MPI_Comm", w.Communicator) ∷ (codes "if", w.If) ∷ (codes "else", w.Else) ∷
    (codes "while", w.While) ∷ (codes "do", w.Do) ∷ (codes "for", w.For) ∷ (codes "break", w.Break) ∷
    (codes "continue", w.Continue) ∷ (codes "return", w.Return) ∷ (codes "(", w.OpenParen) ∷
    (codes ")", w.CloseParen) ∷ (codes "{", w.OpenBrace) ∷ (codes "}", w.CloseBrace) ∷
    (codes "[", w.OpenBracket) ∷ (codes "]", w.CloseBracket) ∷ (codes ";", w.Semicolon) ∷
    (codes ",", w.Comma) ∷ (codes ".", w.Dot) ∷ (codes "?", w.Question) ∷ (codes ":", w.Colon) ∷
    (codes "=", w.Assign) ∷ (codes "+=", w.PlusAssign) ∷ (codes "-=", w.MinusAssign) ∷
    (codes "*=", w.TimesAssign) ∷ (codes "/=", w.DivideAssign) ∷ (codes "%=", w.RemainderAssign) ∷
    (codes "&=", w.AndAssign) ∷ (codes "|=", w.OrAssign) ∷ (codes "^=", w.XorAssign) ∷
    (codes "<<=", w.ShiftLeftAssign) ∷ (codes ">>=", w.ShiftRightAssign) ∷ (codes "++", w.Increment) ∷
    (codes "--", w.Decrement) ∷ (codes "||", w.LogicalOr) ∷ (codes "&&", w.LogicalAnd) ∷
    (codes "|", w.Or) ∷ (codes "^", w.Xor) ∷ (codes "&", w.And) ∷ (codes "==", w.Equal) ∷
    (codes "!=", w.NotEqual) ∷ (codes "<", w.Less) ∷ (codes "<=", w.AtMost) ∷ (codes ">", w.Greater) ∷
    (codes ">=", w.AtLeast) ∷ (codes "<<", w.ShiftLeft) ∷ (codes ">>", w.ShiftRight) ∷
    (codes "+", w.Plus) ∷ (codes "-", w.Minus) ∷ (codes "*", w.Times) ∷ (codes "/", w.Divide) ∷
    (codes "%", w.Remainder) ∷ (codes "!", w.Not) ∷ (codes "~", w.Complement) ∷ []

-- the symbol of these that has this spelling, and else a name
abbrev pub symbol_among : List (List ℕ × Symbol) → List ℕ → Symbol
symbol_among [] bytes = w.Name
symbol_among (row ∷ others) bytes = if bytes_eq bytes row.0 then row.1 else symbol_among others bytes

-- what a token of this kind with these bytes is
abbrev pub symbol_of : TokenKind → List ℕ → Symbol
symbol_of kinds.Name bytes = symbol_among spellings bytes
symbol_of kinds.Mark bytes = symbol_among spellings bytes
symbol_of kinds.Number bytes = w.Number
symbol_of kinds.Text bytes = w.Text
symbol_of kinds.Define bytes = w.Define
symbol_of kinds.EndLine bytes = w.EndLine

-- a token's symbol by its bytes, and its place
abbrev pub terminal_of : List ℕ → Token → Terminal
terminal_of text token = record {
  symbol = symbol_of token.kind (slice_range text token.start (token.start + token.len));
  span = record { start = token.start; len = token.len };
}
