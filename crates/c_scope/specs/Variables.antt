-- The numbers of variables, and the names that are values.
use Rattle.std.specs.Prelude.{◌+◌, ℕ, ℤ, negsuc, List, [], ◌∷◌, Option, Some, None, if◌then◌else◌}
use Rattle.std.specs.Str.{bytes_eq}
use Rattle.c_grammar.specs.declared.terminal.Span.{Span}
use Rattle.c_names.specs.declared.predefined.Predefined.TheVariants as p
use Rattle.c_scope.specs.Scopes.{Entry, opening, named, Env, token_bytes}
use Rattle.c_scope.specs.declared.meaning.Meaning.{Meaning}
use Rattle.c_scope.specs.declared.meaning.Meaning.TheVariants as m
use Rattle.c_scope.specs.declared.meaning.Entity.{Entity}
use Rattle.c_scope.specs.declared.meaning.Entity.TheVariants as d

-- functions and defines are no variables
abbrev pub is_variable : Entity → ℕ
is_variable (d.Function number) = 0
is_variable (d.Define value) = 0
is_variable _ = 1

-- how many variables are declared
abbrev pub declared_variables : List Entry → ℕ
declared_variables [] = 0
declared_variables (opening ∷ rest) = declared_variables rest
declared_variables (named name entity ∷ rest) = is_variable entity + declared_variables rest

-- how many variables stand before the innermost declaration of a name
abbrev pub variable_number : List Entry → List ℕ → ℕ
variable_number [] name = 0
variable_number (opening ∷ rest) name = variable_number rest name
variable_number (named other entity ∷ rest) name = if bytes_eq other name then declared_variables rest else variable_number rest name

-- the number of the variable whose name is at a token
abbrev pub variable : Env → Span → ℕ
variable env name = variable_number env.entries (token_bytes env.text name)

-- a handle is a number, and none is -1
abbrev pub value_meant : Meaning → Option ℤ
value_meant (m.Known (p.Number value)) = Some value
value_meant (m.Known (p.Communicator number)) = Some number
value_meant (m.Known p.NullRequest) = Some (negsuc 0)
value_meant (m.Declared (d.Define value)) = Some value
value_meant _ = None
