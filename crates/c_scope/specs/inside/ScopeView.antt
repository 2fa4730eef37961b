-- Scopes without where they lie in memory, and the tables beside them.
use Rattle.std.specs.Prelude.{◌≡◌, ℕ, List, [], ◌∷◌, map, reverse}
use Rattle.c_scope.specs.Scopes.{Entry, opening, named}
use Rattle.c_scope.specs.Variables.{declared_variables}
use Rattle.c_scope.specs.inside.Innermost.{DeclarationTable, declared_in, depth_of, innermost_declaration}
use Rattle.c_scope.specs.declared.declarations.Placed.{Placed}
use Rattle.c_scope.specs.declared.declarations.Placed.TheVariants as p

-- what is placed, without the declaration that it hides
abbrev pub entry_view : Placed → Entry
entry_view p.Opening = opening
entry_view (p.Named name entity hidden) = named name.now entity

-- what is placed, the innermost first
abbrev pub scope_entries : List Placed → List Entry
scope_entries inner = map entry_view inner

-- what was placed, in order, as entries with the innermost first
abbrev pub entries_view : List Placed → List Entry
entries_view placed = scope_entries (reverse placed)

-- each declaration has the one that it hides; the innermost first
abbrev pub AreHidden : List Placed → Type 0
AreHidden [] = Unit {0}
AreHidden (p.Opening ∷ outer) = AreHidden outer
AreHidden (p.Named name entity hidden ∷ outer) = (hidden ≡ innermost_declaration (scope_entries outer) name.now) × AreHidden outer

-- a table and counts tell of the declarations, the innermost first
pub record IsScopeTable (placed : List Placed) (table : DeclarationTable) (variables depth : ℕ) : Type 0 where
  pub names : (name : List ℕ) → declared_in table name ≡ innermost_declaration (scope_entries placed) name
  pub hidden : AreHidden placed
  pub variable_count : variables ≡ declared_variables (scope_entries placed)
  pub open_blocks : depth ≡ depth_of (scope_entries placed)
