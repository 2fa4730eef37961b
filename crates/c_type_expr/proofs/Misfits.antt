-- An argument that is not what is wanted has faults alone, so its typing is that of whatever form.
use Rattle.std.proofs.Common.{◌≡◌, Option, Some, None, Result, Ok, Err, refl, sym, ap, ◌∙◌}
use Rattle.c_lex.specs.declared.fault.Why.{Why}
use Rattle.c_lex.specs.declared.fault.Why.TheVariants.{WrongType}
use Rattle.c_grammar.specs.declared.terminal.Span.{Span}
use Rattle.c_grammar.specs.Tree as t
use Rattle.c_scope.specs.Kinds.{first_token}
use Rattle.c_scope.specs.Least.{least_fault_from}
use Rattle.c_scope.specs.Scopes.{Env}
use Rattle.c_scope.specs.Typing.{Typing, typed, faulty, faults_of, behind, refused}
use Rattle.c_scope.specs.Walks.{Walked, typed_form}
use Rattle.c_scope.specs.declared.fault.TypingFault.{TypingFault}
use Rattle.c_type_expr.specs.ExprTyping.{expr_typing, misfit_typing}

-- of two typings with the same faults, neither of which has a form
faulty_as : {A B T E : Type 0} (s : Typing A) (t : Typing B) (f : T → A) (g : T → B) (old new : Option TypingFault) (result : Result (Option T) E)
    → typed_form s ≡ None → typed_form t ≡ None → faults_of s ≡ faults_of t → Walked f old new result s → Walked g old new result t
faulty_as s t f g old new (Err e) p q r w = tt
faulty_as s t f g old new (Ok None) p q r w = record { best = w.best ∙ ap (least_fault_from old) r; form = sym q }
faulty_as s t f g old new (Ok (Some x)) p q r w = let h : Some (f x) ≡ None = w.form ∙ p in absurd (cc)

formless_behind : {A : Type 0} (B : Type 0) (s : Typing A) (at : Span) (why : Why) → typed_form (behind {B = B} s (refused at why)) ≡ None
formless_behind B (typed a) at why = refl
formless_behind B (faulty one others) at why = refl

same_behind : {A : Type 0} (B C : Type 0) (s : Typing A) (at : Span) (why : Why) → faults_of (behind {B = B} s (refused at why)) ≡ faults_of (behind {B = C} s (refused at why))
same_behind B C (typed a) at why = refl
same_behind B C (faulty one others) at why = refl

formless : (A : Type 0) (env : Env) (given : t.Argument) → typed_form (misfit_typing {A = A} env given) ≡ None
formless A env (t.text at) = refl
formless A env (t.address mark place) = refl
formless A env (t.value e) = formless_behind A (expr_typing env e) (first_token e) WrongType

same_faults : (A B : Type 0) (env : Env) (given : t.Argument) → faults_of (misfit_typing {A = A} env given) ≡ faults_of (misfit_typing {A = B} env given)
same_faults A B env (t.text at) = refl
same_faults A B env (t.address mark place) = refl
same_faults A B env (t.value e) = same_behind A B (expr_typing env e) (first_token e) WrongType

-- a walk that gives a misfit of one form gives a misfit of each other one
pub misfit_as : {B T E : Type 0} (env : Env) (given : t.Argument) (g : T → B) (old new : Option TypingFault) (result : Result (Option T) E)
    → Walked (λ form. form) old new result (misfit_typing {A = T} env given) → Walked g old new result (misfit_typing {A = B} env given)
misfit_as {B} {T} env given g old new result w =
    faulty_as (misfit_typing {A = T} env given) (misfit_typing {A = B} env given) (λ form. form) g old new result (formless T env given) (formless B env given)
    (same_faults T B env given) w
