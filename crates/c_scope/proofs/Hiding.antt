-- The innermost declarations of names, declaration by declaration.
use Rattle.std.proofs.Common.{◌≡◌, ◌≤◌, ◌-◌, ◌||◌, ◌==◌, List, [], ◌∷◌, ◌++◌, length, ℕ, suc, Bool, true, false, cond, Option, Some, None, IsSome, ap, sym, ◌∙◌, subst, refl, reverse, arith, if◌then◌else◌}
use Rattle.std.specs.Borrow.{Bor}
use Rattle.std.specs.Str.{bytes_eq}
use Rattle.std.proofs.lemmas.List.{length-reverse, reverse-append}
use Rattle.std.proofs.lemmas.Bool.{eqb-true, eq-eqb}
use Rattle.std.proofs.lemmas.Slice.Eq.{bytes_eq-Decides}
use Rattle.c_scope.specs.Scopes.{Entry, closed, opening, named, found, is_in_block}
use Rattle.c_scope.specs.Variables.{is_variable, variable_number, declared_variables}
use Rattle.c_scope.specs.inside.Innermost.{Sets, DeclarationTable, declaration_after, declared_in, depth_of, entity_of, innermost_declaration, is_at, declaration_or_none, variables_before}
use Rattle.c_scope.specs.inside.ScopeView.{IsScopeTable, scope_entries, entries_view}
use Rattle.c_scope.specs.declared.innermost.DeclaredName.{DeclaredName}
use Rattle.c_scope.specs.declared.declarations.Placed.{Placed}
use Rattle.c_scope.specs.declared.declarations.Placed.TheVariants as p
use Rattle.c_scope.specs.declared.meaning.Entity.{Entity}
use Rattle.c_scope.specs.declared.meaning.Entity.TheVariants as d

-- a value that is set where a test passes
pub set_where : (test : Bool) (declaration : Option DeclaredName) (old new : Option (Option DeclaredName)) → new ≡ cond test (Some declaration) old → declaration_or_none new ≡ (if test then declaration else declaration_or_none old)
set_where true declaration old new e = ap declaration_or_none e
set_where false declaration old new e = ap declaration_or_none e

pub some_there : (o : Option (Option DeclaredName)) (x : Option DeclaredName) → Some x ≡ o → IsSome o
some_there o x is = (let P : Option (Option DeclaredName) → Type 0 = λ p. IsSome p in subst P is refl)

pub not_there : (o : Option (Option DeclaredName)) → None ≡ o → IsSome (declaration_or_none o) → ⊥
not_there None e h = absurd (cc)
not_there (Some x) e h = absurd (cc)

-- what the innermost declaration of a name tells

found_where : (test : Bool) (entity : Entity) (declaration : DeclaredName) (far : Option Entity) (other : Option DeclaredName) → entity ≡ declaration.entity → far ≡ entity_of other
    → (if test then Some entity else far) ≡ entity_of (if test then Some declaration else other)
found_where true entity declaration far other is e = ap Some is
found_where false entity declaration far other is e = e

pub found_is : (entries : List Entry) (name : List ℕ) → found entries name ≡ entity_of (innermost_declaration entries name)
found_is [] name = refl
found_is (opening ∷ outer) name = found_is outer name
found_is (named other entity ∷ outer) name =
    found_where (bytes_eq other name) entity (declaration_after outer entity) (found outer name) (innermost_declaration outer name) refl (found_is outer name)

number_where : (test : Bool) (number : ℕ) (declaration : DeclaredName) (far : ℕ) (other : Option DeclaredName) → number ≡ declaration.variables → far ≡ variables_before other
    → (if test then number else far) ≡ variables_before (if test then Some declaration else other)
number_where true number declaration far other is e = is
number_where false number declaration far other is e = e

pub number_is : (entries : List Entry) (name : List ℕ) → variable_number entries name ≡ variables_before (innermost_declaration entries name)
number_is [] name = refl
number_is (opening ∷ outer) name = number_is outer name
number_is (named other entity ∷ outer) name =
    number_where (bytes_eq other name) (declared_variables outer) (declaration_after outer entity) (variable_number outer name) (innermost_declaration outer name) refl (number_is outer name)

-- a declaration is in no more blocks than are open
abbrev IsWithin : ℕ → Option DeclaredName → Type 0
IsWithin depth None = Unit {0}
IsWithin depth (Some declaration) = declaration.depth ≤ depth

within_where : (test : Bool) (depth : ℕ) (declaration : DeclaredName) (other : Option DeclaredName) → declaration.depth ≤ depth → IsWithin depth other → IsWithin depth (if test then Some declaration else other)
within_where true depth declaration other h w = h
within_where false depth declaration other h w = w

within_more : (depth : ℕ) (declaration : Option DeclaredName) → IsWithin depth declaration → IsWithin (suc depth) declaration
within_more depth None w = tt
within_more depth (Some declaration) w = omega (arith, w)

within : (entries : List Entry) (name : List ℕ) → IsWithin (depth_of entries) (innermost_declaration entries name)
within [] name = tt
within (opening ∷ outer) name = within_more (depth_of outer) (innermost_declaration outer name) (within outer name)
within (named other entity ∷ outer) name =
    within_where (bytes_eq other name) (depth_of outer) (declaration_after outer entity) (innermost_declaration outer name) (omega arith) (within outer name)

apart : (a b : ℕ) → a ≤ b → (a == suc b) ≡ false
apart a b h = by (a == suc b) refl
  where
    by : (test : Bool) → (a == suc b) ≡ test → (a == suc b) ≡ false
    by true e = (let same = eqb-true a (suc b) e in absurd (omega (arith, h, same)))
    by false e = e

not_at : (depth : ℕ) (declaration : Option DeclaredName) → IsWithin depth declaration → false ≡ is_at (suc depth) declaration
not_at depth None w = refl
not_at depth (Some declaration) w = sym (apart declaration.depth depth w)

at_where : (test : Bool) (declaration : DeclaredName) (far : Bool) (other : Option DeclaredName) (depth : ℕ) → declaration.depth ≡ depth → far ≡ is_at depth other
    → (test || far) ≡ is_at depth (if test then Some declaration else other)
at_where true declaration far other depth is e = sym (eq-eqb declaration.depth depth is)
at_where false declaration far other depth is e = e

pub in_block_is : (entries : List Entry) (name : List ℕ) → is_in_block entries name ≡ is_at (depth_of entries) (innermost_declaration entries name)
in_block_is [] name = refl
in_block_is (opening ∷ outer) name = not_at (depth_of outer) (innermost_declaration outer name) (within outer name)
in_block_is (named other entity ∷ outer) name =
    at_where (bytes_eq other name) (declaration_after outer entity) (is_in_block outer name) (innermost_declaration outer name) (depth_of outer) refl (in_block_is outer name)

pub in_block_by : (entries : List Entry) (name : List ℕ) (depth : ℕ) (declaration : Option DeclaredName) → declaration ≡ innermost_declaration entries name → depth ≡ depth_of entries → is_at depth declaration ≡ is_in_block entries name
in_block_by entries name depth declaration is blocks = (λ j. is_at (blocks j) (is j)) ∙ sym (in_block_is entries name)

-- counts are no more than the declarations and blocks

pub variable_one : (entity : Entity) → is_variable entity ≤ 1
variable_one (d.Function number) = omega arith
variable_one (d.Define value) = omega arith
variable_one (d.Variable kind) = omega arith
variable_one (d.Array kind size) = omega arith
variable_one d.ArrayParameter = omega arith
variable_one d.ArgumentCount = omega arith
variable_one d.ArgumentTexts = omega arith

few_variables : (placed : List Placed) → declared_variables (scope_entries placed) ≤ length placed
few_variables [] = omega arith
few_variables (p.Opening ∷ outer) = (let few = few_variables outer in omega (arith, few))
few_variables (p.Named name entity hidden ∷ outer) = (let few = few_variables outer in let one = variable_one entity in omega (arith, few, one))

few_blocks : (placed : List Placed) → depth_of (scope_entries placed) ≤ length placed
few_blocks [] = omega arith
few_blocks (p.Opening ∷ outer) = (let few = few_blocks outer in omega (arith, few))
few_blocks (p.Named name entity hidden ∷ outer) = (let few = few_blocks outer in omega (arith, few))

pub variables_few : (placed : List Placed) → declared_variables (entries_view placed) ≤ length placed
variables_few placed = (let few = few_variables (reverse placed) in let same = length-reverse placed in omega (arith, few, same))

pub blocks_few : (placed : List Placed) → depth_of (entries_view placed) ≤ length placed
blocks_few placed = (let few = few_blocks (reverse placed) in let same = length-reverse placed in omega (arith, few, same))

-- the innermost declaration goes, and the name is put back
back_where : (outer : List Entry) (name other : List ℕ) (declaration hidden old : Option DeclaredName) (test : Bool) → bytes_eq name other ≡ test → hidden ≡ innermost_declaration outer name
    → old ≡ (if test then declaration else innermost_declaration outer other) → (if test then hidden else old) ≡ innermost_declaration outer other
back_where outer name other declaration hidden old true e h was = h ∙ ap (innermost_declaration outer) ((bytes_eq-Decides name other).0 e)
back_where outer name other declaration hidden old false e h was = was

pub kept_back : (placed : List Placed) (old new : DeclarationTable) (variables depth after : ℕ) (name : Bor (List ℕ)) (entity : Entity) (hidden : Option DeclaredName)
    → IsScopeTable (p.Named name entity hidden ∷ placed) old variables depth → Sets old new name.now hidden → after ≡ variables - is_variable entity → IsScopeTable placed new after depth
kept_back placed old new variables depth after name entity hidden kept sets is =
    let count = kept.variable_count in
    record {
      names = λ other. sets other ∙ back_where (scope_entries placed) name.now other (Some (declaration_after (scope_entries placed) entity)) hidden (declared_in old other) (bytes_eq name.now other) refl kept.hidden.0 (kept.names other);
      hidden = kept.hidden.1;
      variable_count = omega (arith, is, count);
      open_blocks = kept.open_blocks;
    }

-- a declared name has a declaration
some_where : (test : Bool) (declaration : DeclaredName) (other : Option DeclaredName) → test ≡ true → IsSome (if test then Some declaration else other)
some_where true declaration other e = refl
some_where false declaration other e = absurd (cc)

pub kept_there : (placed : List Placed) (table : DeclarationTable) (variables depth : ℕ) (name : Bor (List ℕ)) (entity : Entity) (hidden : Option DeclaredName)
    → IsScopeTable (p.Named name entity hidden ∷ placed) table variables depth → IsSome (declared_in table name.now)
kept_there placed table variables depth name entity hidden kept =
    let P : Option DeclaredName → Type 0 = λ o. IsSome o in
    subst P (sym (kept.names name.now)) (some_where (bytes_eq name.now name.now) (declaration_after (scope_entries placed) entity) (innermost_declaration (scope_entries placed) name.now) ((bytes_eq-Decides name.now name.now).1 refl))

-- what is kept before the innermost one goes
last_first : (items rest : List Placed) (one other : Placed) → items ≡ rest ++ one ∷ [] → one ≡ other → reverse items ≡ other ∷ reverse rest
last_first items rest one other e is = ap reverse (e ∙ ap (λ o. rest ++ o ∷ []) is) ∙ reverse-append rest (other ∷ [])

pub kept_last : (items rest : List Placed) (one other : Placed) (table : DeclarationTable) (variables depth : ℕ) → items ≡ rest ++ one ∷ [] → one ≡ other
    → IsScopeTable (reverse items) table variables depth → IsScopeTable (other ∷ reverse rest) table variables depth
kept_last items rest one other table variables depth e is kept =
    let P : List Placed → Type 0 = λ l. IsScopeTable l table variables depth in
    subst P (last_first items rest one other e is) kept

pub closed_last : (items rest : List Placed) (one : Placed) (name : Bor (List ℕ)) (entity : Entity) (hidden : Option DeclaredName) → items ≡ rest ++ one ∷ [] → one ≡ p.Named name entity hidden
    → closed (entries_view rest) ≡ closed (entries_view items)
closed_last items rest one name entity hidden e is = sym (ap (λ l. closed (scope_entries l)) (last_first items rest one (p.Named name entity hidden) e is))
