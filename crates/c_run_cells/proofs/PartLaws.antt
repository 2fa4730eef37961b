-- What parts come to.
use Rattle.std.proofs.Common.{◌≡◌, ℕ, ℤ, zero, suc, ◌+◌, ◌-◌, ◌<◌, ◌≤◌, ◌++◌, true, false, List, [], ◌∷◌, Option, Some, None, refl, sym, ◌∙◌, ap, arith, length, map, nat_le, option_map, slice_get}
use Rattle.std.proofs.lemmas.Option.{slice_get-map}
use Rattle.mpi_call.specs.declared.call.Fault.TheVariants.{Depth, OutputFull}
use Rattle.c_program.specs.declared.constants.TheConstants.{MOST_PRINTED}
use Rattle.c_program.specs.declared.effect.Rank.{Rank}
use Rattle.c_program.specs.declared.format.FormatPiece.{FormatPiece}
use Rattle.c_program.specs.declared.program.Function as source
use Rattle.c_program.specs.declared.program.TypedParameter.{TypedParameter}
use Rattle.c_program.specs.declared.program.ParameterKind.{ParameterKind}
use Rattle.c_program.specs.declared.program.ParameterKind.TheVariants.{Int, Communicator, Array, Texts}
use Rattle.c_program.specs.declared.state.Passed.{Passed}
use Rattle.c_program.specs.Courses.{trapped}
use Rattle.c_program.specs.Meaning.{act_parts, call_at, exits_to, has_room, with_open_call, parameter_cells, print as print_of, with_parameter, with_parameters}
use Rattle.c_program.specs.Performing.{Onward}
use Rattle.c_program.specs.Prints.{text_of}
use Rattle.c_program.specs.State.{State, stack_mark}
use Rattle.c_program.specs.Tree.{Function}
use Rattle.c_program.specs.View.{pure_function, pure_parts}
use Rattle.c_run_cells.specs.Comes.{Leads}
use Rattle.c_run_cells.specs.Parts.{entered}

le-true : (a b : ℕ) → a ≤ b → nat_le a b ≡ true
le-true a b h = grind arith

le-false : (a b : ℕ) → b < a → nat_le a b ≡ false
le-false a b h = grind arith

-- ---- printing

pub prints : (format : List FormatPiece) (vs : List ℤ) (text : List ℕ) (s t : State) (k : Onward) → text ≡ text_of format vs → length s.printed + length text ≤ MOST_PRINTED
    → t ≡ record s { printed = s.printed ++ text } → print_of (text_of format vs) s k ≡ k t
prints format vs text s t k e le is = rw (← e, le-true (length s.printed + length text) MOST_PRINTED le) (ap k (sym is))

pub prints-full : (format : List FormatPiece) (vs : List ℤ) (text : List ℕ) (s : State) (k : Onward) → text ≡ text_of format vs → MOST_PRINTED < length s.printed + length text
    → print_of (text_of format vs) s k ≡ trapped OutputFull s
prints-full format vs text s k e gt = rw (← e, le-false (length s.printed + length text) MOST_PRINTED gt) refl

-- ---- parameters

parameter-left : (name : List ℕ) (kind : ParameterKind) (one : Option Passed) (s : State) → (with_parameter (record { name = name; kind = kind }) one s).left ≡ s.left
parameter-left name Int one s = refl
parameter-left name Communicator one s = refl
parameter-left name Array one s = refl
parameter-left name Texts one s = refl

pub parameters-left : (parameters : List TypedParameter) (arguments : List Passed) (s : State) → (with_parameters parameters arguments s).left ≡ s.left
parameters-left [] arguments s = refl
parameters-left (parameter ∷ parameters) [] s = parameters-left parameters [] (with_parameter parameter None s) ∙ parameter-left parameter.name parameter.kind None s
parameters-left (parameter ∷ parameters) (one ∷ others) s = parameters-left parameters others (with_parameter parameter (Some one) s) ∙ parameter-left parameter.name parameter.kind (Some one) s

pub enters : (f : Function) (arguments : List Passed) (s t : State) → has_room (parameter_cells f.parameters) s ≡ true
    → t ≡ with_parameters f.parameters arguments (with_open_call s) → Leads {K = Onward} {A = Unit {0}} (λ go done. go) (entered f arguments) s (tt {0}) t
enters f arguments s t room is =
    let same : t.left ≡ s.left = ap (λ (u : State). u.left) is ∙ parameters-left f.parameters arguments (with_open_call s) in
    record { at = λ k. rw room (ap k (sym is)); left = omega arith }

-- ---- calls

-- a call, where one more may be open
pub entering : (rank : Rank) (fs : List source.Function) (d number : ℕ) (f : source.Function) (arguments : List Passed) (s : State) (go : ℤ → Onward) → 0 < d
    → slice_get fs number ≡ Some f
    → call_at rank (map pure_function fs) d number arguments s go
    ≡ entered (pure_function f) arguments s (λ t. act_parts rank (call_at rank (map pure_function fs) (d - 1)) (pure_parts f.body.items) t (exits_to (stack_mark s) go))
entering rank fs zero number f arguments s go lt is = absurd (omega arith)
entering rank fs (suc d) number f arguments s go lt is =
    let e : suc d - 1 ≡ d = omega arith in
    let found : slice_get (map pure_function fs) number ≡ Some (pure_function f) = slice_get-map pure_function fs number ∙ ap (option_map pure_function) is in
    rw (e, found) refl

-- a call of no function
pub entering-none : (rank : Rank) (fs : List source.Function) (d number : ℕ) (arguments : List Passed) (s : State) (go : ℤ → Onward) → 0 < d → slice_get fs number ≡ None
    → call_at rank (map pure_function fs) d number arguments s go ≡ trapped Depth s
entering-none rank fs zero number arguments s go lt is = absurd (omega arith)
entering-none rank fs (suc d) number arguments s go lt is =
    let found : slice_get (map pure_function fs) number ≡ None = slice_get-map pure_function fs number ∙ ap (option_map pure_function) is in
    rw found refl
