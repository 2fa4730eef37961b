-- What walks over arguments give, from what the walks over their parts give.
use Rattle.std.proofs.Common.{◌≡◌, ◌+◌, ◌<◌, ◌≤◌, ℕ, zero, suc, min, List, [], ◌∷◌, length, drop, drop-cons, get_or, map, Option, Some, None, option_map, refl, arith, subst, Bor}
use Rattle.c_lex.specs.declared.fault.Why.{Why}
use Rattle.c_grammar.specs.declared.statement.AfterComma.{AfterComma}
use Rattle.c_grammar.specs.declared.statement.Argument.{Argument}
use Rattle.c_grammar.specs.declared.statement.Parameter.{Parameter}
use Rattle.c_grammar.specs.declared.terminal.Span.{Span}
use Rattle.c_grammar.specs.declared.terminal.Symbol.{Symbol}
use Rattle.c_grammar.specs.declared.terminal.Symbol.TheVariants as w
use Rattle.c_grammar.specs.declared.tree.Link.{Link}
use Rattle.c_grammar.specs.StmtView.{argument_view, parameter_view}
use Rattle.c_grammar.specs.Tree as t
use Rattle.c_grammar.specs.View.{links_from, piece}
use Rattle.c_names.specs.declared.function.ArgumentKind.{ArgumentKind}
use Rattle.c_names.specs.declared.kind.VariableKind.{VariableKind}
use Rattle.c_program.specs.Tree as pure
use Rattle.c_program.specs.Tree.{Reference}
use Rattle.c_scope.specs.Scopes.{Env, meaning}
use Rattle.c_scope.specs.Signatures.{parameter_takes}
use Rattle.c_scope.specs.Typing.{Typing, typed, behind, both, refused}
use Rattle.c_scope.specs.Walks.{Gives, if_both}
use Rattle.c_scope.specs.declared.fault.TypingFault.{TypingFault}
use Rattle.c_scope.proofs.Gives.{gives_both, gives_form}
use Rattle.c_scope.proofs.Lists.{drop_at}
use Rattle.c_type_expr.specs.ExprTyping.{argument_typing, arguments_typing, array_typing, int_typing, misfit_typing, reference_typing}
use Rattle.c_type_expr.specs.Shapes.{array_sum, name_alone, sum_base}

-- ---- what is refused behind an expression

none_behind : {A B : Type 0} (a : Option A) (b : Option B) → b ≡ None → option_map (λ form. form) b ≡ if_both (λ first second. second) a b
none_behind None None e = refl
none_behind (Some one) None e = refl
none_behind a (Some form) e = absurd (cc)

pub misfit_rule : {A B : Type 0} (s : Typing A) (old mid new : Option TypingFault) (found : Option A) (result : Option B) (given at : Span) (why : Why)
    → Gives old mid found s → Gives mid new result (refused given why) → given ≡ at → Gives old new (option_map (λ form. form) result) (behind s (refused at why))
misfit_rule s old mid new found result given at why g h e =
    let told : Gives mid new result (refused at why) = subst (λ span. Gives mid new result (refused span why)) e h in
    gives_form (gives_both (λ first second. second) s (refused at why) g told) (none_behind found result h.form)

-- ---- sums of a name and an operand

sum_longer : (name : Span) (operator : Symbol) (at : Span) (operand : t.Expr) (other : Symbol) (other_at : Span) (second : t.Expr) (rest : t.Links)
    → None ≡ sum_base (Some name) (t.link operator at operand (t.link other other_at second rest))
sum_longer name w.Plus at operand other other_at second rest = refl
sum_longer name operator at operand other other_at second rest = refl

pub sum_many : (name : Option Span) (links : List Link) → 2 ≤ length links → None ≡ sum_base name (links_from (map piece links))
sum_many name [] h = absurd (omega arith)
sum_many name (a ∷ []) h = absurd (omega arith)
sum_many None (a ∷ b ∷ rest) h = refl
sum_many (Some name) (a ∷ b ∷ rest) h = sum_longer name _ _ _ _ _ _ _

-- a sum's reference, or what is no reference
abbrev pub by_sum : Env → VariableKind → t.Expr → Option (Span × t.Expr) → Typing Reference
by_sum env wanted e (Some sum) = both pure.from (array_typing env wanted sum.0 sum.0 (meaning env sum.0)) (int_typing env sum.1)
by_sum env wanted e None = misfit_typing env (t.value e)

pub by_shape : (env : Env) (wanted : VariableKind) (e : t.Expr) → None ≡ name_alone e → reference_typing env wanted (t.value e) ≡ by_sum env wanted e (array_sum e)
by_shape env wanted (t.read (t.whole name)) h = absurd (cc)
by_shape env wanted (t.chain level (t.read (t.whole name)) (t.link w.Plus at operand t.no_link)) h = refl
by_shape env wanted e h = refl

-- ---- lists

-- what parameters behind commas take
abbrev pub takes_behind : List (AfterComma Parameter) → List ArgumentKind
takes_behind more = map parameter_takes (map (λ (behind : Span × t.Parameter). behind.1) (map (λ behind. (behind.comma, parameter_view behind.item)) more))

-- arguments as they are lent
abbrev pub given_view : List (Bor Argument) → List t.Argument
given_view given = map (λ one. argument_view one.now) given

pub arguments_left : (env : Env) (takes : List ArgumentKind) (given : List (Bor Argument)) (i : ℕ) (default : ArgumentKind) (one : Bor Argument)
    → i < min (length takes) (length given) → one ≡ get_or given i one
    → arguments_typing env (drop i takes) (given_view (drop i given))
    ≡ both ◌∷◌ (argument_typing env (get_or takes i default) (argument_view one.now)) (arguments_typing env (drop (i + 1) takes) (given_view (drop (i + 1) given)))
arguments_left env takes given i default one lt is =
    let next : suc i ≡ i + 1 = omega arith in
    rw (drop-cons takes i default (omega arith), next, drop_at given i one (omega arith) is) refl

none_given : (env : Env) (takes : List ArgumentKind) → arguments_typing env takes [] ≡ typed []
none_given env [] = refl
none_given env (kind ∷ kinds) = refl

pub no_arguments_left : (env : Env) (takes : List ArgumentKind) (given : List (Bor Argument)) (i : ℕ) → min (length takes) (length given) ≤ i
    → arguments_typing env (drop i takes) (given_view (drop i given)) ≡ typed []
no_arguments_left env [] given zero past = refl
no_arguments_left env [] given (suc i) past = refl
no_arguments_left env (kind ∷ kinds) [] zero past = refl
no_arguments_left env (kind ∷ kinds) [] (suc i) past = none_given env (drop i kinds)
no_arguments_left env (kind ∷ kinds) (one ∷ more) zero past = absurd (omega arith)
no_arguments_left env (kind ∷ kinds) (one ∷ more) (suc i) past = no_arguments_left env kinds more i (omega arith)
