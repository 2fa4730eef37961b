-- What a function takes and gives. (ISO C, "Function definitions".)
use Rattle.std.specs.Prelude.{ℕ, suc, Bool, true, false, List, [], ◌∷◌, map}
use Rattle.c_grammar.specs.declared.terminal.Symbol.{Symbol}
use Rattle.c_grammar.specs.declared.terminal.Symbol.TheVariants as w
use Rattle.c_grammar.specs.Tree as t
use Rattle.c_names.specs.declared.function.ArgumentKind.{ArgumentKind}
use Rattle.c_names.specs.declared.function.ArgumentKind.TheVariants as a
use Rattle.c_scope.specs.Scopes.{Entry, named, Signature, token_bytes}
use Rattle.c_scope.specs.declared.meaning.Entity.TheVariants as d

-- things in a row
abbrev pub listed : {A : Type 0} → t.CommaList A → List A
listed (t.comma_list first more) = first ∷ map (λ behind. behind.1) more

-- whether a word is `int`, which a function has in front if it gives a value
abbrev pub is_int_keyword : Symbol → Bool
is_int_keyword w.Int = true
is_int_keyword _ = false

-- an int, a communicator, or a reference to ints; no argument fits a `char` parameter
abbrev pub parameter_takes : t.Parameter → ArgumentKind
parameter_takes (t.int keyword name) = a.Number
parameter_takes (t.array keyword name opening length closing) = a.Buffer
parameter_takes (t.pointer keyword star name) = a.Buffer
parameter_takes (t.communicator keyword name) = a.Communicator
parameter_takes (t.text_pointers keyword star second name) = a.Nothing
parameter_takes (t.text_array keyword star name opening closing) = a.Nothing

-- the parameters of a function, in order
abbrev pub parameters_listed : t.Parameters → List t.Parameter
parameters_listed t.no_parameter = []
parameters_listed (t.void at) = []
parameters_listed (t.parameters parameters) = listed parameters

-- what a function takes, and whether it gives a value
abbrev pub signature_of : t.Head → Signature
signature_of head = record { gives = is_int_keyword head.result; takes = map parameter_takes (parameters_listed head.listed) }

-- functions are visible in the whole text; of two with one name, the first
abbrev pub function_entries : List ℕ → ℕ → List t.Head → List Entry
function_entries text number [] = []
function_entries text number (head ∷ heads) = named (token_bytes text head.name) (d.Function number) ∷ function_entries text (suc number) heads
