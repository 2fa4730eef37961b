-- What a call is written with, and what a function of the text takes and gives. (ISO C, "Function calls".)
use Rattle.std.specs.Prelude.{ℕ, Bool, false, List, [], length, Option, Some, None, take, drop, ◌-◌}
use Rattle.c_grammar.specs.declared.terminal.Span.{Span}
use Rattle.c_grammar.specs.Tree as t
use Rattle.c_names.specs.Functions.{arguments}
use Rattle.c_names.specs.declared.function.ArgumentKind.{ArgumentKind}
use Rattle.c_scope.specs.Kinds.{first_token}
use Rattle.c_scope.specs.Signatures.{listed}
use Rattle.c_scope.specs.Scopes.{Signature}

-- what stands between the parentheses of a call
abbrev pub arguments_listed : Option (t.CommaList t.Argument) → List t.Argument
arguments_listed None = []
arguments_listed (Some arguments) = listed arguments

-- the arguments of a call
abbrev pub arguments_of : t.WrittenCall → List t.Argument
arguments_of call = arguments_listed call.arguments

-- what a function takes; a function that is none takes nothing
abbrev pub signature_takes : Option Signature → List ArgumentKind
signature_takes None = []
signature_takes (Some signature) = signature.takes

-- whether a function gives an int
abbrev pub gives_int : Option Signature → Bool
gives_int None = false
gives_int (Some signature) = signature.gives

-- what stands between the quotes of a text
abbrev pub without_quotes : List ℕ → List ℕ
without_quotes quoted = drop 1 (take (length quoted - 1) quoted)

-- the first token of a right side
abbrev pub right_first_token : t.Right → Span
right_first_token (t.called call) = call.name
right_first_token (t.valued e) = first_token e
