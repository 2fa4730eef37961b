-- The numbers of a text.
use Rattle.std.specs.Prelude.{ℕ, List, unwrap_or}
use Rattle.c_lex.specs.Literals.{literal}
use Rattle.c_grammar.specs.declared.terminal.Span.{Span}
use Rattle.c_scope.specs.Scopes.{token_bytes}

-- the number of a token; 0 for what is no literal, as no token is
abbrev pub literal_at : List ℕ → Span → ℕ
literal_at text span = unwrap_or (literal (token_bytes text span)) 0
