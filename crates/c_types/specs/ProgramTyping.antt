-- The typed program of a tree, or its faults. (ISO C, "External definitions", "Program startup".)
use Rattle.std.specs.Prelude.{◌++◌, ℕ, Bool, false, List, [], ◌∷◌, length, Option, Some, None}
use Rattle.std.specs.List.{position}
use Rattle.std.specs.Option.{option_to_list}
use Rattle.c_lex.specs.declared.fault.Why.TheVariants.{NoMain, Unexpected}
use Rattle.c_grammar.specs.declared.terminal.Span.{Span}
use Rattle.c_grammar.specs.Tree as t
use Rattle.c_program.specs.Tree as p
use Rattle.c_program.specs.declared.program.TypedParameter.{TypedParameter}
use Rattle.c_program.specs.declared.program.ParameterKind.{ParameterKind}
use Rattle.c_scope.specs.Scopes.{Env, opened, token_bytes, twice_faults}
use Rattle.c_scope.specs.Signatures.{is_int_keyword, parameters_listed}
use Rattle.c_scope.specs.Typing.{Typing, typed, faulty, also, both, onto, refused}
use Rattle.c_types.specs.Programs.{after_external, after_parameter, after_parameters, external_twice_faults, heads_of, is_main, parameter_faults, parameter_name, prototype_faults, seen_after, text_env, parameter_kind}
use Rattle.c_type_stmt.specs.StmtTyping.{parts_typing}

-- ---- functions

-- a parameter's first token
abbrev pub parameter_first_token : t.Parameter → Span
parameter_first_token (t.int keyword name) = keyword
parameter_first_token (t.array keyword name opening length closing) = keyword
parameter_first_token (t.pointer keyword star name) = keyword
parameter_first_token (t.communicator keyword name) = keyword
parameter_first_token (t.text_pointers keyword star second name) = keyword
parameter_first_token (t.text_array keyword star name opening closing) = keyword

-- a parameter of a function has a new name
abbrev pub named_typing : Env → Span → ParameterKind → Option Span → Typing TypedParameter
named_typing env at kind None = refused at Unexpected
named_typing env at kind (Some name) = also (twice_faults env name) (typed (record { name = token_bytes env.text name; kind = kind }))

-- one parameter; `main`: of main
abbrev pub parameter_typing : Env → Bool → t.Parameter → Typing TypedParameter
parameter_typing env main one =
    also (parameter_faults env main one) (named_typing env (parameter_first_token one) (parameter_kind one) (parameter_name one))

-- parameters, each visible in those behind it
abbrev pub parameters_typing : Env → Bool → List t.Parameter → Typing (List TypedParameter)
parameters_typing env main [] = typed []
parameters_typing env main (one ∷ others) = both ◌∷◌ (parameter_typing env main one) (parameters_typing (after_parameter env main one) main others)

-- a function as it is defined; its parameters share the scope of its block
abbrev pub definition_typing : Env → t.Head → t.Parts → Typing p.Function
definition_typing env head parts =
    let main = is_main env.text head in
    let listed = parameters_listed head.listed in
    both (λ parameters body. record { parameters = parameters; body = body }) (parameters_typing (opened env) main listed)
    (parts_typing (after_parameters (opened env) main listed) (is_int_keyword head.result) false parts)

-- ---- the text

-- the function that stands at a place of the text, or nothing; `seen`: the names declared before
abbrev pub external_typing : Env → List (List ℕ) → t.ExternalDeclaration → Typing (Option p.Function)
external_typing env seen (t.define keyword name value end) = also (external_twice_faults env.text seen name) (typed None)
external_typing env seen (t.function head opening parts closing) =
    also (external_twice_faults env.text seen head.name) (onto Some (definition_typing env head parts))
external_typing env seen (t.prototype head end) =
    also (prototype_faults env (is_main env.text head) (parameters_listed head.listed)) (typed None)

-- the functions of the text, in its order
abbrev pub functions_typing : Env → List (List ℕ) → List t.ExternalDeclaration → Typing (List p.Function)
functions_typing env seen [] = typed []
functions_typing env seen (external ∷ externals) =
    both (λ function others. option_to_list function ++ others) (external_typing env seen external)
    (functions_typing (after_external env external) (seen_after env.text seen external) externals)

-- the number of main; none is a fault at the end of the text
abbrev pub main_typing : List ℕ → Option ℕ → Typing ℕ
main_typing text None = faulty (record { at = length text; why = NoMain }) []
main_typing text (Some number) = typed number

-- the typed program of a tree, or its faults
abbrev pub program_typing : List ℕ → t.Tree → Typing p.Program
program_typing text tree =
    both (λ functions main. record { functions = functions; main = main }) (functions_typing (text_env text tree) [] tree)
    (main_typing text (position (is_main text) (heads_of tree)))
