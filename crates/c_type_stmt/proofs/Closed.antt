-- The end of a block leaves what stood before it.
use Rattle.std.proofs.Common.{◌≡◌, List, [], ◌∷◌, refl, ◌∙◌}
use Rattle.c_grammar.specs.Tree as t
use Rattle.c_names.specs.declared.kind.VariableKind.{VariableKind}
use Rattle.c_scope.specs.Kinds.{kind_of_symbol}
use Rattle.c_scope.specs.Scopes.{Env, closed, opened}
use Rattle.c_scope.specs.Signatures.{listed}
use Rattle.c_type_stmt.specs.Declarations.{after_declaration, after_declarators, after_item, after_part, after_parts, after_start}

abbrev pub closing : Env → Env
closing env = record env { entries = closed env.entries }

closed_items : (env : Env) (kind : VariableKind) (items : List t.InitDeclarator) → closing (after_declarators env kind items) ≡ closing env
closed_items env kind [] = refl
closed_items env kind (item ∷ items) = closed_items (after_item env kind item) kind items

closed_declaration : (env : Env) (one : t.Declaration) → closing (after_declaration env one) ≡ closing env
closed_declaration env one = closed_items env (kind_of_symbol one.kind) (listed one.items)

closed_part : (env : Env) (one : t.Part) → closing (after_part env one) ≡ closing env
closed_part env (t.declare declaration end) = closed_declaration env declaration
closed_part env (t.stmt inner) = refl

-- whatever parts stand there
pub closed_more : (env : Env) (parts : t.Parts) → closing (after_parts env parts) ≡ closing env
closed_more env t.no_part = refl
closed_more env (t.part one others) = closed_more (after_part env one) others ∙ closed_part env one

pub closed_parts : (env : Env) (parts : t.Parts) → closing (after_parts (opened env) parts) ≡ env
closed_parts env parts = closed_more (opened env) parts

closed_started : (env : Env) (start : t.ForStart) → closing (after_start env start) ≡ closing env
closed_started env t.no_start = refl
closed_started env (t.declared_start declaration) = closed_declaration env declaration
closed_started env (t.simple_start simple) = refl

pub closed_start : (env : Env) (start : t.ForStart) → closing (after_start (opened env) start) ≡ env
closed_start env start = closed_started (opened env) start
