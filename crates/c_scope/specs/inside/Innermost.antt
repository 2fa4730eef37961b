-- The innermost declarations of names, as a table has them and as the list of declarations says.
use Rattle.std.specs.Prelude.{◌≡◌, ◌==◌, ℕ, suc, List, [], ◌∷◌, Bool, false, Option, Some, None, if◌then◌else◌}
use Rattle.std.specs.Borrow.{Bor}
use Rattle.std.specs.Str.{bytes_eq}
use Rattle.std.specs.Map.{lookup}
use Rattle.c_scope.specs.Scopes.{Entry, opening, named}
use Rattle.c_scope.specs.Variables.{declared_variables}
use Rattle.c_scope.specs.declared.innermost.DeclaredName.{DeclaredName}
use Rattle.c_scope.specs.declared.meaning.Entity.{Entity}

-- declarations by names, None where a block has ended
abbrev pub DeclarationTable : Type 0
DeclarationTable = List (Bor (List ℕ) × Option DeclaredName)

-- the declaration under a name, where the table has one
abbrev pub declaration_or_none : Option (Option DeclaredName) → Option DeclaredName
declaration_or_none None = None
declaration_or_none (Some declaration) = declaration

-- the declaration that a table has for a name
abbrev pub declared_in : DeclarationTable → List ℕ → Option DeclaredName
declared_in table name = declaration_or_none (lookup (λ key. bytes_eq name key.now) table)

-- a name has this declaration, and each other name has the one that it had
abbrev pub Sets : DeclarationTable → DeclarationTable → List ℕ → Option DeclaredName → Type 0
Sets old new name declaration = (other : List ℕ) → declared_in new other ≡ (if bytes_eq name other then declaration else declared_in old other)

-- each name has the declaration that it had
abbrev pub HaveSameDeclarations : DeclarationTable → DeclarationTable → Type 0
HaveSameDeclarations old new = (name : List ℕ) → declared_in new name ≡ declared_in old name

-- in how many blocks one is
abbrev pub depth_of : List Entry → ℕ
depth_of [] = 0
depth_of (opening ∷ outer) = suc (depth_of outer)
depth_of (named name entity ∷ outer) = depth_of outer

-- a declaration after these
abbrev pub declaration_after : List Entry → Entity → DeclaredName
declaration_after outer entity = record { entity = entity; variables = declared_variables outer; depth = depth_of outer }

-- the innermost declaration of a name
abbrev pub innermost_declaration : List Entry → List ℕ → Option DeclaredName
innermost_declaration [] name = None
innermost_declaration (opening ∷ outer) name = innermost_declaration outer name
innermost_declaration (named other entity ∷ outer) name = if bytes_eq other name then Some (declaration_after outer entity) else innermost_declaration outer name

-- what is declared
abbrev pub entity_of : Option DeclaredName → Option Entity
entity_of None = None
entity_of (Some declaration) = Some declaration.entity

-- how many variables stand before a declaration
abbrev pub variables_before : Option DeclaredName → ℕ
variables_before None = 0
variables_before (Some declaration) = declaration.variables

-- whether a declaration stands in this many blocks
abbrev pub is_at : ℕ → Option DeclaredName → Bool
is_at depth None = false
is_at depth (Some declaration) = declaration.depth == depth
