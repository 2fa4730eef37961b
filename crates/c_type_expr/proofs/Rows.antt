-- Rows of arguments: so many, or another number.
use Rattle.std.proofs.Common.{◌≡◌, ◌≤◌, ◌<◌, List, [], ◌∷◌, length, map, get_or, arith, Option, Some, None, Result, Ok, Err, ap, refl, sym, ◌∙◌}
use Rattle.std.proofs.lemmas.List.{length-map}
use Rattle.std.specs.Borrow.{Bor}
use Rattle.std.specs.declared.alloc.Global.{Global}
use Rattle.std.specs.declared.boxed.Box.{Box}
use Rattle.c_grammar.specs.StmtView.{argument_view}
use Rattle.c_grammar.specs.Tree as t
use Rattle.c_grammar.specs.declared.statement.Argument.{Argument}
use Rattle.c_grammar.specs.declared.terminal.Span.{Span}
use Rattle.c_lex.specs.declared.fault.Why.TheVariants.{WrongCount}
use Rattle.c_names.specs.Functions.{arguments}
use Rattle.c_names.specs.declared.function.MpiFunction.{MpiFunction}
use Rattle.c_names.specs.declared.function.MpiFunction.TheVariants as f
use Rattle.c_program.specs.View.{pure_mpi}
use Rattle.c_program.specs.declared.mpi.MpiCall.{MpiCall}
use Rattle.c_scope.specs.Scopes.{Env}
use Rattle.c_scope.specs.Typing.{Typing, refused}
use Rattle.c_scope.specs.Walks.{Walked}
use Rattle.c_scope.specs.declared.fault.TypingFault.{TypingFault}
use Rattle.c_scope.proofs.Gives.{gives_form}
use Rattle.c_type_expr.specs.MpiTyping.{mpi_typing}
use Rattle.c_type_expr.specs.inside.Making.{IsMadeBy}
use Rattle.c_type_expr.specs.declared.mpi_arguments.CallSite.{CallSite}

-- ---- so many

pub of_one : {A : Type 0} (xs : List A) (a1 : A) → 1 ≤ length xs → length xs < 2
    → a1 ≡ get_or xs 0 a1
    → xs ≡ a1 ∷ []
of_one (x1 ∷ []) a1 low high e1 = cc
of_one xs a1 low high e1 = absurd (omega arith)

pub of_two : {A : Type 0} (xs : List A) (a1 a2 : A) → 2 ≤ length xs → length xs < 3
    → a1 ≡ get_or xs 0 a1 → a2 ≡ get_or xs 1 a2
    → xs ≡ a1 ∷ a2 ∷ []
of_two (x1 ∷ x2 ∷ []) a1 a2 low high e1 e2 = cc
of_two xs a1 a2 low high e1 e2 = absurd (omega arith)

pub of_three : {A : Type 0} (xs : List A) (a1 a2 a3 : A) → 3 ≤ length xs → length xs < 4
    → a1 ≡ get_or xs 0 a1 → a2 ≡ get_or xs 1 a2 → a3 ≡ get_or xs 2 a3
    → xs ≡ a1 ∷ a2 ∷ a3 ∷ []
of_three (x1 ∷ x2 ∷ x3 ∷ []) a1 a2 a3 low high e1 e2 e3 = cc
of_three xs a1 a2 a3 low high e1 e2 e3 = absurd (omega arith)

pub of_four : {A : Type 0} (xs : List A) (a1 a2 a3 a4 : A) → 4 ≤ length xs → length xs < 5
    → a1 ≡ get_or xs 0 a1 → a2 ≡ get_or xs 1 a2 → a3 ≡ get_or xs 2 a3 → a4 ≡ get_or xs 3 a4
    → xs ≡ a1 ∷ a2 ∷ a3 ∷ a4 ∷ []
of_four (x1 ∷ x2 ∷ x3 ∷ x4 ∷ []) a1 a2 a3 a4 low high e1 e2 e3 e4 = cc
of_four xs a1 a2 a3 a4 low high e1 e2 e3 e4 = absurd (omega arith)

pub of_five : {A : Type 0} (xs : List A) (a1 a2 a3 a4 a5 : A) → 5 ≤ length xs → length xs < 6
    → a1 ≡ get_or xs 0 a1 → a2 ≡ get_or xs 1 a2 → a3 ≡ get_or xs 2 a3 → a4 ≡ get_or xs 3 a4 → a5 ≡ get_or xs 4 a5
    → xs ≡ a1 ∷ a2 ∷ a3 ∷ a4 ∷ a5 ∷ []
of_five (x1 ∷ x2 ∷ x3 ∷ x4 ∷ x5 ∷ []) a1 a2 a3 a4 a5 low high e1 e2 e3 e4 e5 = cc
of_five xs a1 a2 a3 a4 a5 low high e1 e2 e3 e4 e5 = absurd (omega arith)

pub of_six : {A : Type 0} (xs : List A) (a1 a2 a3 a4 a5 a6 : A) → 6 ≤ length xs → length xs < 7
    → a1 ≡ get_or xs 0 a1 → a2 ≡ get_or xs 1 a2 → a3 ≡ get_or xs 2 a3 → a4 ≡ get_or xs 3 a4 → a5 ≡ get_or xs 4 a5 → a6 ≡ get_or xs 5 a6
    → xs ≡ a1 ∷ a2 ∷ a3 ∷ a4 ∷ a5 ∷ a6 ∷ []
of_six (x1 ∷ x2 ∷ x3 ∷ x4 ∷ x5 ∷ x6 ∷ []) a1 a2 a3 a4 a5 a6 low high e1 e2 e3 e4 e5 e6 = cc
of_six xs a1 a2 a3 a4 a5 a6 low high e1 e2 e3 e4 e5 e6 = absurd (omega arith)

pub of_seven : {A : Type 0} (xs : List A) (a1 a2 a3 a4 a5 a6 a7 : A) → 7 ≤ length xs → length xs < 8
    → a1 ≡ get_or xs 0 a1 → a2 ≡ get_or xs 1 a2 → a3 ≡ get_or xs 2 a3 → a4 ≡ get_or xs 3 a4 → a5 ≡ get_or xs 4 a5 → a6 ≡ get_or xs 5 a6 → a7 ≡ get_or xs 6 a7
    → xs ≡ a1 ∷ a2 ∷ a3 ∷ a4 ∷ a5 ∷ a6 ∷ a7 ∷ []
of_seven (x1 ∷ x2 ∷ x3 ∷ x4 ∷ x5 ∷ x6 ∷ x7 ∷ []) a1 a2 a3 a4 a5 a6 a7 low high e1 e2 e3 e4 e5 e6 e7 = cc
of_seven xs a1 a2 a3 a4 a5 a6 a7 low high e1 e2 e3 e4 e5 e6 e7 = absurd (omega arith)

pub of_eight : {A : Type 0} (xs : List A) (a1 a2 a3 a4 a5 a6 a7 a8 : A) → 8 ≤ length xs → length xs < 9
    → a1 ≡ get_or xs 0 a1 → a2 ≡ get_or xs 1 a2 → a3 ≡ get_or xs 2 a3 → a4 ≡ get_or xs 3 a4 → a5 ≡ get_or xs 4 a5 → a6 ≡ get_or xs 5 a6 → a7 ≡ get_or xs 6 a7 → a8 ≡ get_or xs 7 a8
    → xs ≡ a1 ∷ a2 ∷ a3 ∷ a4 ∷ a5 ∷ a6 ∷ a7 ∷ a8 ∷ []
of_eight (x1 ∷ x2 ∷ x3 ∷ x4 ∷ x5 ∷ x6 ∷ x7 ∷ x8 ∷ []) a1 a2 a3 a4 a5 a6 a7 a8 low high e1 e2 e3 e4 e5 e6 e7 e8 = cc
of_eight xs a1 a2 a3 a4 a5 a6 a7 a8 low high e1 e2 e3 e4 e5 e6 e7 e8 = absurd (omega arith)

pub of_twelve : {A : Type 0} (xs : List A) (a1 a2 a3 a4 a5 a6 a7 a8 a9 a10 a11 a12 : A) → 12 ≤ length xs → length xs < 13
    → a1 ≡ get_or xs 0 a1 → a2 ≡ get_or xs 1 a2 → a3 ≡ get_or xs 2 a3 → a4 ≡ get_or xs 3 a4 → a5 ≡ get_or xs 4 a5 → a6 ≡ get_or xs 5 a6 → a7 ≡ get_or xs 6 a7 → a8 ≡ get_or xs 7 a8 → a9 ≡ get_or xs 8 a9 → a10 ≡ get_or xs 9 a10 → a11 ≡ get_or xs 10 a11 → a12 ≡ get_or xs 11 a12
    → xs ≡ a1 ∷ a2 ∷ a3 ∷ a4 ∷ a5 ∷ a6 ∷ a7 ∷ a8 ∷ a9 ∷ a10 ∷ a11 ∷ a12 ∷ []
of_twelve (x1 ∷ x2 ∷ x3 ∷ x4 ∷ x5 ∷ x6 ∷ x7 ∷ x8 ∷ x9 ∷ x10 ∷ x11 ∷ x12 ∷ []) a1 a2 a3 a4 a5 a6 a7 a8 a9 a10 a11 a12 low high e1 e2 e3 e4 e5 e6 e7 e8 e9 e10 e11 e12 = cc
of_twelve xs a1 a2 a3 a4 a5 a6 a7 a8 a9 a10 a11 a12 low high e1 e2 e3 e4 e5 e6 e7 e8 e9 e10 e11 e12 = absurd (omega arith)

-- ---- a call in a box, of what the walks of its arguments found

pub made_of : {A B C E : Type 0} (old new : Option TypingFault) (g : A → C) (h : B → C) (t : Typing C) (makes : A → B → Type 0)
    (found : Result (Option A) E) (result : Result (Option (Box B Global)) E)
    → Walked g old new found t → IsMadeBy makes found result → ((a : A) (b : B) → makes a b → h b ≡ g a) → Walked (λ box. h box.value) old new result t
made_of old new g h t makes found (Err e) w p same = tt
made_of old new g h t makes (Ok (Some a)) (Ok (Some box)) w p same = gives_form w (ap (λ one. Some one) (same a box.value p))
made_of old new g h t makes (Ok (Some a)) (Ok None) w p same = absurd p
made_of old new g h t makes (Ok None) (Ok held) w p same = rw p w
made_of old new g h t makes (Err e) (Ok held) w p same = absurd p

-- ---- another number

pub wrong_count : (function : MpiFunction) (env : Env) (name : Span) (given : List t.Argument) → (length given ≡ length (arguments function) → ⊥)
    → mpi_typing env name function given ≡ refused name WrongCount
wrong_count f.Init env name (a0 ∷ a1 ∷ []) h = absurd (h refl)
wrong_count f.Finalize env name [] h = absurd (h refl)
wrong_count f.CommRank env name (a0 ∷ a1 ∷ []) h = absurd (h refl)
wrong_count f.CommSize env name (a0 ∷ a1 ∷ []) h = absurd (h refl)
wrong_count f.GetCount env name (a0 ∷ a1 ∷ a2 ∷ []) h = absurd (h refl)
wrong_count f.CommFree env name (a0 ∷ []) h = absurd (h refl)
wrong_count f.Send env name (a0 ∷ a1 ∷ a2 ∷ a3 ∷ a4 ∷ a5 ∷ []) h = absurd (h refl)
wrong_count f.Ssend env name (a0 ∷ a1 ∷ a2 ∷ a3 ∷ a4 ∷ a5 ∷ []) h = absurd (h refl)
wrong_count f.Recv env name (a0 ∷ a1 ∷ a2 ∷ a3 ∷ a4 ∷ a5 ∷ a6 ∷ []) h = absurd (h refl)
wrong_count f.Sendrecv env name (a0 ∷ a1 ∷ a2 ∷ a3 ∷ a4 ∷ a5 ∷ a6 ∷ a7 ∷ a8 ∷ a9 ∷ a10 ∷ a11 ∷ []) h = absurd (h refl)
wrong_count f.Isend env name (a0 ∷ a1 ∷ a2 ∷ a3 ∷ a4 ∷ a5 ∷ a6 ∷ []) h = absurd (h refl)
wrong_count f.Issend env name (a0 ∷ a1 ∷ a2 ∷ a3 ∷ a4 ∷ a5 ∷ a6 ∷ []) h = absurd (h refl)
wrong_count f.Irecv env name (a0 ∷ a1 ∷ a2 ∷ a3 ∷ a4 ∷ a5 ∷ a6 ∷ []) h = absurd (h refl)
wrong_count f.Wait env name (a0 ∷ a1 ∷ []) h = absurd (h refl)
wrong_count f.Waitall env name (a0 ∷ a1 ∷ a2 ∷ []) h = absurd (h refl)
wrong_count f.Waitany env name (a0 ∷ a1 ∷ a2 ∷ a3 ∷ []) h = absurd (h refl)
wrong_count f.Waitsome env name (a0 ∷ a1 ∷ a2 ∷ a3 ∷ a4 ∷ []) h = absurd (h refl)
wrong_count f.Test env name (a0 ∷ a1 ∷ a2 ∷ []) h = absurd (h refl)
wrong_count f.Testall env name (a0 ∷ a1 ∷ a2 ∷ a3 ∷ []) h = absurd (h refl)
wrong_count f.Testany env name (a0 ∷ a1 ∷ a2 ∷ a3 ∷ a4 ∷ []) h = absurd (h refl)
wrong_count f.Testsome env name (a0 ∷ a1 ∷ a2 ∷ a3 ∷ a4 ∷ []) h = absurd (h refl)
wrong_count f.Probe env name (a0 ∷ a1 ∷ a2 ∷ a3 ∷ []) h = absurd (h refl)
wrong_count f.Iprobe env name (a0 ∷ a1 ∷ a2 ∷ a3 ∷ a4 ∷ []) h = absurd (h refl)
wrong_count f.Barrier env name (a0 ∷ []) h = absurd (h refl)
wrong_count f.Bcast env name (a0 ∷ a1 ∷ a2 ∷ a3 ∷ a4 ∷ []) h = absurd (h refl)
wrong_count f.Reduce env name (a0 ∷ a1 ∷ a2 ∷ a3 ∷ a4 ∷ a5 ∷ a6 ∷ []) h = absurd (h refl)
wrong_count f.Allreduce env name (a0 ∷ a1 ∷ a2 ∷ a3 ∷ a4 ∷ a5 ∷ []) h = absurd (h refl)
wrong_count f.Scan env name (a0 ∷ a1 ∷ a2 ∷ a3 ∷ a4 ∷ a5 ∷ []) h = absurd (h refl)
wrong_count f.Gather env name (a0 ∷ a1 ∷ a2 ∷ a3 ∷ a4 ∷ a5 ∷ a6 ∷ a7 ∷ []) h = absurd (h refl)
wrong_count f.Scatter env name (a0 ∷ a1 ∷ a2 ∷ a3 ∷ a4 ∷ a5 ∷ a6 ∷ a7 ∷ []) h = absurd (h refl)
wrong_count f.Allgather env name (a0 ∷ a1 ∷ a2 ∷ a3 ∷ a4 ∷ a5 ∷ a6 ∷ []) h = absurd (h refl)
wrong_count f.Alltoall env name (a0 ∷ a1 ∷ a2 ∷ a3 ∷ a4 ∷ a5 ∷ a6 ∷ []) h = absurd (h refl)
wrong_count f.CommSplit env name (a0 ∷ a1 ∷ a2 ∷ a3 ∷ []) h = absurd (h refl)
wrong_count f.CommDup env name (a0 ∷ a1 ∷ []) h = absurd (h refl)
wrong_count f.Abort env name (a0 ∷ a1 ∷ []) h = absurd (h refl)
wrong_count function env name given h = refl

pub miscounted : {E : Type 0} (function : MpiFunction) (site : CallSite) (given : List (Bor Argument)) (old new : Option TypingFault) (result : Result (Option (Box MpiCall Global)) E)
    → (length given ≡ length (arguments function) → ⊥) → Walked (λ call. pure_mpi call.value) old new result (refused site.name WrongCount)
    → Walked (λ call. pure_mpi call.value) old new result (mpi_typing site.scope.now site.name function (map (λ one. argument_view one.now) given))
miscounted function site given old new result h w =
    rw (wrong_count function site.scope.now site.name (map (λ one. argument_view one.now) given) (λ e. h (sym (length-map given (λ one. argument_view one.now)) ∙ e))) w
