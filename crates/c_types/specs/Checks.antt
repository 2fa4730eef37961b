-- The program of a text, or its first fault, with its line and column.
use Rattle.std.specs.Prelude.{◌≡◌, ℕ, List, min, length}
use Rattle.c_lex.specs.Places.{IsPlaceOf}
use Rattle.c_lex.specs.declared.fault.SourceFault.{SourceFault}
use Rattle.c_lex.specs.Readings as lexed
use Rattle.c_lex.specs.Readings.{AreTokens}
use Rattle.c_lex.specs.declared.token.Token.{Token}
use Rattle.c_grammar.specs.Tree as t
use Rattle.c_parse.specs.Parsing as parsed
use Rattle.c_parse.specs.Parsing.{IsTreeOfTokens}
use Rattle.c_program.specs.Tree.{Program}
use Rattle.c_scope.specs.Least.{IsLeastFault}
use Rattle.c_scope.specs.Typing.{faults_of, typed}
use Rattle.c_scope.specs.declared.fault.TypingFault.{TypingFault}
use Rattle.c_types.specs.ProgramTyping.{program_typing}

-- a token lies in its text, so the least of the two is its place
pub record IsFirstIn (text : List ℕ) (faults : List TypingFault) (found : SourceFault) : Type 0 where
  pub fault : TypingFault
  pub first : IsLeastFault faults fault
  pub place : IsPlaceOf text (min (length text) fault.at) found.line found.column
  pub why : found.why ≡ fault.why

-- a text has a tree, and this is the tree's typed program
pub record IsProgramOf (text : List ℕ) (program : Program) : Type 0 where
  pub tokens : List Token
  pub tree : t.Tree
  pub lexed : AreTokens text tokens
  pub parsed : IsTreeOfTokens text tokens tree
  pub typed : program_typing text tree ≡ typed program

-- the first fault of the first stage that has one
pub data IsFaultOf (text : List ℕ) (found : SourceFault) : Type 0 where
  of_tokens : lexed.IsFirstLexicalFault text found → IsFaultOf text found
  of_tree : (tokens : List Token) → AreTokens text tokens → parsed.IsFirstSyntaxFault text tokens found → IsFaultOf text found
  of_types : (tokens : List Token) (tree : t.Tree) → AreTokens text tokens → IsTreeOfTokens text tokens tree
      → IsFirstIn text (faults_of (program_typing text tree)) found → IsFaultOf text found
