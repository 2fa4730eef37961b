-- Typing of calls, by what the name of a call means, and of right sides: the typed form, or the faults. (ISO C, "Function calls".)
use mathlib.Core.Logic.{inl, inr}
use Rattle.std.specs.Prelude.{◌==◌, ℕ, List, [], ◌∷◌, length, if◌then◌else◌, Option, Some, None, slice_get}
use Rattle.c_lex.specs.declared.fault.Why.TheVariants.{WrongType, WrongCount, BadFormat, LeftOut}
use Rattle.c_grammar.specs.declared.terminal.Span.{Span}
use Rattle.c_grammar.specs.Tree as t
use Rattle.c_names.specs.declared.kind.VariableKind.TheVariants.{Int}
use Rattle.c_names.specs.declared.predefined.Predefined.TheVariants as p
use Rattle.c_program.proofs.Spelling.{spelled_or_not}
use Rattle.c_program.specs.Formats.{SpelledOrNot, ints_taken}
use Rattle.c_program.specs.declared.format.FormatPiece.{FormatPiece}
use Rattle.c_program.specs.Tree as pure
use Rattle.c_program.specs.Tree.{TypedExpr, TypedRight, TypedSimple}
use Rattle.c_scope.specs.Kinds.{kind_faults}
use Rattle.c_scope.specs.Scopes.{Env, meaning, token_bytes}
use Rattle.c_scope.specs.Typing.{Typing, typed, also, behind, both, onto, refused, unfit}
use Rattle.c_scope.specs.declared.meaning.ExprKind.{ExprKind}
use Rattle.c_scope.specs.declared.meaning.ExprKind.TheVariants.{Of}
use Rattle.c_scope.specs.declared.meaning.Meaning.{Meaning}
use Rattle.c_scope.specs.declared.meaning.Meaning.TheVariants as m
use Rattle.c_scope.specs.declared.meaning.Entity.TheVariants as d
use Rattle.c_type_expr.specs.Calls.{arguments_of, gives_int, without_quotes}
use Rattle.c_type_expr.specs.ExprTyping.{function_typing, misfit_typing, value_typing, wanted_typing}
use Rattle.c_type_expr.specs.MpiTyping.{mpi_typing}

-- ---- printf and fflush

-- what a text spells, if it takes so many ints
abbrev pub read_format : Span → ℕ → Option (List FormatPiece) → Typing (List FormatPiece)
read_format at count None = refused at BadFormat
read_format at count (Some format) = if ints_taken format == count then typed format else refused at BadFormat

-- the pieces that bytes spell, if they spell some
abbrev pub if_spelled : (bytes : List ℕ) → SpelledOrNot bytes → Option (List FormatPiece)
if_spelled bytes (inl spelled) = Some spelled.0
if_spelled bytes (inr none) = None

-- the same, by the law that they spell pieces or none
abbrev pub spelled_pieces : List ℕ → Option (List FormatPiece)
spelled_pieces bytes = if_spelled bytes (spelled_or_not bytes)

-- a text that is a format of so many ints
abbrev pub format_typing : Env → Span → ℕ → Typing (List FormatPiece)
format_typing env at count = read_format at count (spelled_pieces (without_quotes (token_bytes env.text at)))

-- ints
abbrev pub numbers_typing : Env → List t.Argument → Typing (List TypedExpr)
numbers_typing env [] = typed []
numbers_typing env (given ∷ more) = both (λ first others. first ∷ others) (value_typing env (Of Int) given) (numbers_typing env more)

-- a format and its ints
abbrev pub print_typing : Env → Span → List t.Argument → Typing TypedSimple
print_typing env name [] = refused name WrongCount
print_typing env name (t.text at ∷ others) = both pure.print (format_typing env at (length others)) (numbers_typing env others)
print_typing env name (given ∷ others) = misfit_typing env given

-- a name that means `stdout`
abbrev pub stream_meant : Span → Meaning → Typing (Unit {0})
stream_meant name (m.Known p.Output) = typed tt
stream_meant name meant = unfit name name meant

-- an argument that is such a name
abbrev pub stream_typing : Env → t.Argument → Typing (Unit {0})
stream_typing env (t.value (t.read (t.whole name))) = stream_meant name (meaning env name)
stream_typing env given = misfit_typing env given

-- a call of `fflush`
abbrev pub flush_typing : Env → Span → List t.Argument → Typing TypedSimple
flush_typing env name (stream ∷ []) = onto (λ trace. pure.flush) (stream_typing env stream)
flush_typing env name given = refused name WrongCount

-- ---- calls

-- a call of what a name means
abbrev pub called_typing : Env → Span → Meaning → List t.Argument → Typing TypedSimple
called_typing env name (m.Declared (d.Function number)) given = onto pure.call (function_typing env name number given)
called_typing env name (m.Known (p.Mpi function)) given = onto pure.mpi (mpi_typing env name function given)
called_typing env name (m.Known p.Printf) given = print_typing env name given
called_typing env name (m.Known p.Fflush) given = flush_typing env name given
called_typing env name meant given = unfit name name meant

-- a call that stands alone
abbrev pub call_typing : Env → t.WrittenCall → Typing TypedSimple
call_typing env call = called_typing env call.name (meaning env call.name) (arguments_of call)

-- ---- right sides

-- what a function of the text gives, by its number, where a kind is wanted: an int, or nothing
abbrev pub gives_typing : Env → ExprKind → Span → ℕ → List t.Argument → Typing TypedRight
gives_typing env wanted name number given =
    if gives_int (slice_get env.functions number)
    then also (kind_faults wanted (Of Int) name) (onto pure.called (function_typing env name number given))
    else behind (function_typing env name number given) (refused name WrongType)

-- a call of what a name means; functions of the text alone give a value here
abbrev pub result_typing : Env → ExprKind → Span → Meaning → List t.Argument → Typing TypedRight
result_typing env wanted name (m.Declared (d.Function number)) given = gives_typing env wanted name number given
result_typing env wanted name (m.Known (p.Mpi function)) given = behind (mpi_typing env name function given) (refused name LeftOut)
result_typing env wanted name (m.Known p.Printf) given = behind (print_typing env name given) (refused name LeftOut)
result_typing env wanted name (m.Known p.Fflush) given = behind (flush_typing env name given) (refused name WrongType)
result_typing env wanted name meant given = unfit name name meant

-- a right side where a kind is wanted
abbrev pub right_typing : Env → ExprKind → t.Right → Typing TypedRight
right_typing env wanted (t.called call) = result_typing env wanted call.name (meaning env call.name) (arguments_of call)
right_typing env wanted (t.valued e) = onto pure.value (wanted_typing env wanted e)
