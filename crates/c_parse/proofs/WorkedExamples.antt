-- What small texts give, by computing.
use Rattle.std.proofs.Common.{◌≡◌, ◌==◌, ◌∷◌, [], List, false, map, refl}
use Rattle.std.specs.Prelude.{codes}
use Rattle.std.specs.List.{list_any}
use Rattle.c_lex.specs.Marks.{marks}
use Rattle.c_lex.specs.declared.token.TokenKind.TheVariants as kinds
use Rattle.c_lex.specs.declared.token.Token.{Token}
use Rattle.c_grammar.specs.Symbols.{symbol_code}
use Rattle.c_grammar.specs.declared.terminal.Symbol.TheVariants as w
use Rattle.c_parse.specs.Terminals.{spellings, symbol_among, symbol_of}
use Rattle.c_parse.specs.Parsing.{place_of_first, terminals_of}

-- each mark of the tokens has a symbol, and none is a name
marks_are_no_names : list_any (λ mark. symbol_code (symbol_among spellings mark) == symbol_code w.Name) marks ≡ false
unfolding spellings marks
marks_are_no_names = refl

-- the symbols of `int ints MPI_Comm MPI_Com`
names : map (λ word. symbol_of kinds.Name word) (codes "int" ∷ codes "ints" ∷ codes "MPI_Comm" ∷ codes "MPI_Com" ∷ [])
    ≡ w.Int ∷ w.Name ∷ w.Communicator ∷ w.Name ∷ []
unfolding spellings
names = refl

tokens : List Token
tokens =
    (record { kind = kinds.Name; start = 0; len = 1 }) ∷ (record { kind = kinds.Mark; start = 2; len = 2 })
    ∷ (record { kind = kinds.Number; start = 5; len = 1 }) ∷ []

-- `x += 1` and its places; its end is a place too
terminals : terminals_of (codes "x += 1") tokens
    ≡ (record { symbol = w.Name; span = record { start = 0; len = 1 } }) ∷ (record { symbol = w.PlusAssign; span = record { start = 2; len = 2 } })
    ∷ (record { symbol = w.Number; span = record { start = 5; len = 1 } }) ∷ []
unfolding spellings tokens
terminals = refl

end_place : place_of_first (codes "x += 1") [] ≡ 6
end_place = refl
