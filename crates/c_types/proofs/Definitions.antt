-- What a function as it is defined gives, and that its end leaves what stood before it.
use Rattle.std.proofs.Common.{◌≡◌, Bool, false, List, [], ◌∷◌, Option, Some, None, refl, ◌∙◌}
use Rattle.c_grammar.specs.declared.terminal.Span.{Span}
use Rattle.c_grammar.specs.Tree as t
use Rattle.c_program.specs.Tree as p
use Rattle.c_program.specs.declared.program.TypedParameter.{TypedParameter}
use Rattle.c_scope.specs.Scopes.{Env, opened}
use Rattle.c_scope.specs.Signatures.{is_int_keyword, parameters_listed}
use Rattle.c_scope.specs.Walks.{Gives, if_both}
use Rattle.c_scope.specs.declared.fault.TypingFault.{TypingFault}
use Rattle.c_scope.specs.declared.meaning.Entity.{Entity}
use Rattle.c_scope.proofs.Gives.{gives_both, gives_form}
use Rattle.c_type_stmt.specs.Declarations.{after_parts}
use Rattle.c_type_stmt.specs.StmtTyping.{parts_typing}
use Rattle.c_type_stmt.proofs.Closed.{closed_more, closing}
use Rattle.c_types.specs.ProgramTyping.{definition_typing, parameters_typing}
use Rattle.c_types.specs.Programs.{after_parameter, after_parameters, declare_optional, is_main, parameter_entity, parameter_name}

closed_optional : (env : Env) (name : Option Span) (entity : Entity) → closing (declare_optional env name entity) ≡ closing env
closed_optional env None entity = refl
closed_optional env (Some name) entity = refl

closed_parameters : (env : Env) (main : Bool) (parameters : List t.Parameter) → closing (after_parameters env main parameters) ≡ closing env
closed_parameters env main [] = refl
closed_parameters env main (one ∷ others) =
    closed_parameters (after_parameter env main one) main others ∙ closed_optional env (parameter_name one) (parameter_entity main one)

pub closed_function : (env : Env) (main : Bool) (parameters : List t.Parameter) (parts : t.Parts)
    → closing (after_parts (after_parameters (opened env) main parameters) parts) ≡ env
closed_function env main parameters parts = closed_more (after_parameters (opened env) main parameters) parts ∙ closed_parameters (opened env) main parameters

pub definition_gives : {old mid new : Option TypingFault} {found : Option p.Function} (env outer inner : Env) (main gives : Bool) (head : t.Head) (parts : t.Parts)
    (parameters : Option (List TypedParameter)) (body : Option p.TypedParts) → main ≡ is_main env.text head → gives ≡ is_int_keyword head.result → outer ≡ opened env
    → inner ≡ after_parameters outer main (parameters_listed head.listed) → Gives old mid parameters (parameters_typing outer main (parameters_listed head.listed))
    → Gives mid new body (parts_typing inner gives false parts) → found ≡ if_both (λ parameters body. record { parameters = parameters; body = body }) parameters body
    → Gives old new found (definition_typing env head parts)
definition_gives env outer inner main gives head parts parameters body m w o i g h e =
    gives_form (gives_both (λ parameters body. record { parameters = parameters; body = body }) _ _ (rw (m, o) at g) (rw (i, m, o, w) at h)) e
