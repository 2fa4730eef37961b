-- What names stand for. Scopes are one list, the innermost declaration first, with a mark where a block opens.
-- (ISO C, "Scopes of identifiers".)
use Rattle.std.specs.Prelude.{◌||◌, Bool, false, not, ℕ, List, [], ◌∷◌, Option, Some, None, if◌then◌else◌, take, drop, codes, nat_eq}
use Rattle.std.specs.List.{starts_with}
use Rattle.std.specs.Option.{is_some}
use Rattle.std.specs.Str.{bytes_eq}
use Rattle.c_lex.specs.declared.fault.Why.TheVariants.{Unknown, Twice, LeftOut}
use Rattle.c_grammar.specs.declared.terminal.Span.{Span}
use Rattle.c_names.specs.Predefined.{predefined}
use Rattle.c_names.specs.declared.function.ArgumentKind.{ArgumentKind}
use Rattle.c_names.specs.declared.predefined.Predefined.{Predefined}
use Rattle.c_scope.specs.Least.{fault, fault_unless}
use Rattle.c_scope.specs.declared.fault.TypingFault.{TypingFault}
use Rattle.c_scope.specs.declared.meaning.Entity.{Entity}
use Rattle.c_scope.specs.declared.meaning.Meaning.{Meaning}
use Rattle.c_scope.specs.declared.meaning.Meaning.TheVariants as m

-- what is declared: the beginning of a block, or a name and what it stands for
pub data Entry : Type 0 where
  opening : Entry
  named : List ℕ → Entity → Entry

-- what a function takes, and whether it gives an int
pub record Signature : Type 0 where
  pub gives : Bool
  pub takes : List ArgumentKind

-- what stands around a piece of a program: the text, its functions, and what is declared
pub record Env : Type 0 where
  pub text : List ℕ
  pub functions : List Signature
  pub entries : List Entry

-- the bytes of a token
abbrev pub token_bytes : List ℕ → Span → List ℕ
token_bytes text span = take span.len (drop span.start text)

-- the innermost declaration of a name
abbrev pub found : List Entry → List ℕ → Option Entity
found [] name = None
found (opening ∷ rest) name = found rest name
found (named other entity ∷ rest) name = if bytes_eq other name then Some entity else found rest name

-- what a name that is not predefined means; a name of MPI that is not declared is one that is left out
abbrev pub declared_meaning : List ℕ → Option Entity → Meaning
declared_meaning name (Some entity) = m.Declared entity
declared_meaning name None = if starts_with nat_eq name (codes "MPI_") then m.LeftOut else m.Unknown

-- what a name means, by what is predefined of it
abbrev pub meaning_in : List Entry → List ℕ → Option Predefined → Meaning
meaning_in entries name (Some known) = m.Known known
meaning_in entries name None = declared_meaning name (found entries name)

-- a name means what is predefined, or its innermost declaration, else it is left out or unknown
abbrev pub meaning_of : List Entry → List ℕ → Meaning
meaning_of entries name = meaning_in entries name (predefined name)

-- what the name at a token means
abbrev pub meaning : Env → Span → Meaning
meaning env span = meaning_of env.entries (token_bytes env.text span)

-- a name without a meaning, at the name
abbrev pub name_faults : Meaning → Span → List TypingFault
name_faults m.Unknown at = fault at Unknown
name_faults m.LeftOut at = fault at LeftOut
name_faults _ at = []

-- declared in the innermost block
abbrev pub is_in_block : List Entry → List ℕ → Bool
is_in_block [] name = false
is_in_block (opening ∷ rest) name = false
is_in_block (named other entity ∷ rest) name = bytes_eq other name || is_in_block rest name

-- a name that cannot be declared here
abbrev pub is_taken : List Entry → List ℕ → Bool
is_taken entries name = is_some (predefined name) || is_in_block entries name

-- a name that is predefined, or declared in this block before, at the name
abbrev pub twice_faults : Env → Span → List TypingFault
twice_faults env span = fault_unless (not (is_taken env.entries (token_bytes env.text span))) span Twice

-- the scope after a declaration of the name at a token
abbrev pub declare : Env → Span → Entity → Env
declare env span entity = record env { entries = named (token_bytes env.text span) entity ∷ env.entries }

-- the scope in a new block
abbrev pub opened : Env → Env
opened env = record env { entries = opening ∷ env.entries }

-- the end of a block
abbrev pub closed : List Entry → List Entry
closed [] = []
closed (opening ∷ rest) = rest
closed (named name entity ∷ rest) = closed rest
