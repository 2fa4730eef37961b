-- What functions and programs declare, and which function is main. (ISO C, "External definitions", "Program startup".)
use Rattle.std.specs.Prelude.{◌++◌, ◌&&◌, ◌||◌, ℕ, ℤ, pos, neg_ℤ, Bool, true, false, not, List, [], ◌∷◌, length, map, if◌then◌else◌, Option, Some, None, codes}
use Rattle.std.specs.List.{list_any}
use Rattle.std.specs.Option.{is_some}
use Rattle.std.specs.Str.{bytes_eq}
use Rattle.c_lex.specs.declared.fault.Why.TheVariants.{Twice, LeftOut}
use Rattle.c_grammar.specs.declared.terminal.Span.{Span}
use Rattle.c_grammar.specs.Tree as t
use Rattle.c_names.specs.Predefined.{predefined}
use Rattle.c_names.specs.declared.kind.VariableKind.TheVariants.{Int, Communicator}
use Rattle.c_scope.specs.Least.{fault_unless}
use Rattle.c_scope.specs.Literals.{literal_at}
use Rattle.c_scope.specs.Constants.{length_faults}
use Rattle.c_scope.specs.Signatures.{function_entries, is_int_keyword, parameters_listed, signature_of}
use Rattle.c_scope.specs.Scopes.{Env, token_bytes, declare}
use Rattle.c_scope.specs.declared.fault.TypingFault.{TypingFault}
use Rattle.c_scope.specs.declared.meaning.Entity.{Entity}
use Rattle.c_scope.specs.declared.meaning.Entity.TheVariants as d
use Rattle.c_program.specs.declared.program.ParameterKind.{ParameterKind}
use Rattle.c_program.specs.declared.program.ParameterKind.TheVariants as k

-- ---- main

-- a `char` parameter
abbrev pub is_text : t.Parameter → Bool
is_text (t.text_pointers keyword star second name) = true
is_text (t.text_array keyword star name opening closing) = true
is_text _ = false

-- an int
abbrev pub is_one_int : t.Parameter → Bool
is_one_int (t.int keyword name) = true
is_one_int _ = false

-- no parameters, or an int and a `char` parameter
abbrev pub are_main_parameters : List t.Parameter → Bool
are_main_parameters [] = true
are_main_parameters (count ∷ texts ∷ []) = is_one_int count && is_text texts
are_main_parameters _ = false

-- `int main`, with such parameters
abbrev pub is_main : List ℕ → t.Head → Bool
is_main text head = (is_int_keyword head.result && bytes_eq (token_bytes text head.name) (codes "main")) && are_main_parameters (parameters_listed head.listed)

-- ---- parameters

-- `main`: the head is that of main
abbrev pub parameter_entity : Bool → t.Parameter → Entity
parameter_entity true (t.int keyword name) = d.ArgumentCount
parameter_entity false (t.int keyword name) = d.Variable Int
parameter_entity main (t.array keyword name opening length closing) = d.ArrayParameter
parameter_entity main (t.pointer keyword star name) = d.ArrayParameter
parameter_entity main (t.communicator keyword name) = d.Variable Communicator
parameter_entity main (t.text_pointers keyword star second name) = d.ArgumentTexts
parameter_entity main (t.text_array keyword star name opening closing) = d.ArgumentTexts

-- the name of a parameter, where it has one
abbrev pub parameter_name : t.Parameter → Option Span
parameter_name (t.int keyword name) = name
parameter_name (t.array keyword name opening length closing) = name
parameter_name (t.pointer keyword star name) = name
parameter_name (t.communicator keyword name) = name
parameter_name (t.text_pointers keyword star second name) = name
parameter_name (t.text_array keyword star name opening closing) = name

-- what a parameter holds
abbrev pub parameter_kind : t.Parameter → ParameterKind
parameter_kind (t.int keyword name) = k.Int
parameter_kind (t.array keyword name opening length closing) = k.Array
parameter_kind (t.pointer keyword star name) = k.Array
parameter_kind (t.communicator keyword name) = k.Communicator
parameter_kind (t.text_pointers keyword star second name) = k.Texts
parameter_kind (t.text_array keyword star name opening closing) = k.Texts

-- a length that may be left out
abbrev pub optional_length_faults : Env → Option t.Expr → List TypingFault
optional_length_faults env None = []
optional_length_faults env (Some length) = length_faults env length

-- a bad length, and a `char` outside main
abbrev pub parameter_faults : Env → Bool → t.Parameter → List TypingFault
parameter_faults env main (t.array keyword name opening length closing) = optional_length_faults env length
parameter_faults env main (t.text_pointers keyword star second name) = fault_unless main keyword LeftOut
parameter_faults env main (t.text_array keyword star name opening closing) = fault_unless main keyword LeftOut
parameter_faults env main _ = []

-- a prototype declares nothing
abbrev pub prototype_faults : Env → Bool → List t.Parameter → List TypingFault
prototype_faults env main [] = []
prototype_faults env main (one ∷ others) = parameter_faults env main one ++ prototype_faults env main others

-- after a name that may be left out
abbrev pub declare_optional : Env → Option Span → Entity → Env
declare_optional env None entity = env
declare_optional env (Some name) entity = declare env name entity

-- after a parameter
abbrev pub after_parameter : Env → Bool → t.Parameter → Env
after_parameter env main one = declare_optional env (parameter_name one) (parameter_entity main one)

-- after parameters
abbrev pub after_parameters : Env → Bool → List t.Parameter → Env
after_parameters env main [] = env
after_parameters env main (one ∷ others) = after_parameters (after_parameter env main one) main others

-- ---- the text

-- a name that is predefined, or was declared before in the text
abbrev pub external_twice_faults : List ℕ → List (List ℕ) → Span → List TypingFault
external_twice_faults text seen name =
    fault_unless (not (is_some (predefined (token_bytes text name)) || list_any (bytes_eq (token_bytes text name)) seen)) name Twice

-- the value of a define
abbrev pub define_value : List ℕ → t.Value → ℤ
define_value text value = if is_some value.minus then neg_ℤ (pos (literal_at text value.number)) else pos (literal_at text value.number)

-- a define is visible from where it stands
abbrev pub after_external : Env → t.ExternalDeclaration → Env
after_external env (t.define keyword name value end) = declare env name (d.Define (define_value env.text value))
after_external env _ = env

-- the names that the text has declared so far
abbrev pub seen_after : List ℕ → List (List ℕ) → t.ExternalDeclaration → List (List ℕ)
seen_after text seen (t.define keyword name value end) = seen ++ token_bytes text name ∷ []
seen_after text seen (t.function head opening parts closing) = seen ++ token_bytes text head.name ∷ []
seen_after text seen (t.prototype head end) = seen

-- the head of a function before other heads
abbrev pub with_head : t.ExternalDeclaration → List t.Head → List t.Head
with_head (t.function head opening parts closing) heads = head ∷ heads
with_head _ heads = heads

-- the heads of a text's functions, in its order
abbrev pub heads_of : t.Tree → List t.Head
heads_of [] = []
heads_of (external ∷ externals) = with_head external (heads_of externals)

-- what stands around a text: its functions
abbrev pub text_env : List ℕ → t.Tree → Env
text_env text tree = record { text = text; functions = map signature_of (heads_of tree); entries = function_entries text 0 (heads_of tree) }
