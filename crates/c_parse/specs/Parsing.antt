-- The tree of a text by its tokens, or its first fault.
use Rattle.std.specs.Prelude.{ℕ, List, [], ◌∷◌, length, map}
use Rattle.c_lex.specs.declared.fault.SourceFault.{SourceFault}
use Rattle.c_lex.specs.declared.token.Token.{Token}
use Rattle.c_lex.specs.Places.{IsPlaceOf}
use Rattle.c_grammar.specs.declared.terminal.Terminal.{Terminal}
use Rattle.c_grammar.specs.Tree.{Tree}
use Rattle.c_grammar.specs.Programs as programs
use Rattle.c_parse.specs.Terminals.{terminal_of}

-- the tokens as terminals
abbrev pub terminals_of : List ℕ → List Token → List Terminal
terminals_of text tokens = map (terminal_of text) tokens

-- the tokens are this tree's, and nothing in it is too deep
abbrev pub IsTreeOfTokens : List ℕ → List Token → Tree → Type 0
IsTreeOfTokens text tokens tree = programs.IsTree (terminals_of text tokens) tree

-- where the first of these terminals is; after the last one, the end of the text
abbrev pub place_of_first : List ℕ → List Terminal → ℕ
place_of_first text [] = length text
place_of_first text (terminal ∷ terminals) = terminal.span.start

-- this is the first fault, by the grammar alone, with its line and column
abbrev pub IsFirstSyntaxFault : List ℕ → List Token → SourceFault → Type 0
IsFirstSyntaxFault text tokens first =
    (rest : List Terminal) × programs.IsSyntaxFault (terminals_of text tokens) first.why rest × IsPlaceOf text (place_of_first text rest) first.line first.column
