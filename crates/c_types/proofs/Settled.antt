-- What is found of two parts, and of a whole: the typed form, or the first fault.
use Rattle.std.proofs.Common.{◌≡◌, ℕ, List, length, Option, Some, None, Result, Ok, Err, sym, ap, subst, ◌∙◌, []}
use Rattle.std.specs.List.{position}
use Rattle.std.specs.Result.{result_err}
use Rattle.c_lex.specs.declared.fault.Why.TheVariants.{NoMain}
use Rattle.c_grammar.specs.Tree as t
use Rattle.c_program.specs.Tree as p
use Rattle.c_scope.specs.Least.{least_fault_from, take_less}
use Rattle.c_scope.specs.Scopes.{Env}
use Rattle.c_scope.specs.Typing.{Typing, both, faults_of}
use Rattle.c_scope.specs.declared.fault.TypingFault.{TypingFault}
use Rattle.c_scope.proofs.Least.{least_from_append}
use Rattle.c_scope.proofs.Typings.{faults_both}
use Rattle.c_types.specs.ProgramTyping.{functions_typing, main_typing, program_typing}
use Rattle.c_types.specs.Programs.{heads_of, is_main, text_env}
use Rattle.c_types.specs.inside.Settled.{Settles}

found_fault : {A B : Type 0} (pure : A → B) (found : Result A TypingFault) (t : Typing B) → Settles pure found t → least_fault_from None (faults_of t) ≡ result_err found
found_fault pure (Ok form) t s = ap (λ one. least_fault_from None (faults_of one)) s
found_fault pure (Err fault) t s = s

-- without main, the first of the other faults and of that
pub without_main : {A B C : Type 0} (pure : A → B) (form : B → ℕ → C) (text : List ℕ) (found : Result A TypingFault) (main : Option ℕ) (fault : Option TypingFault) (end first : TypingFault) (t : Typing B)
    → main ≡ None → fault ≡ result_err found → end ≡ record { at = length text; why = NoMain } → Some first ≡ take_less fault end → Settles pure found t
    → least_fault_from None (faults_of (both form t (main_typing text main))) ≡ Some first
without_main pure form text found main fault end first t m f e l s =
    ap (λ one. least_fault_from None (faults_of (both form t (main_typing text one)))) m
    ∙ ap (least_fault_from None) (faults_both form t (main_typing text None)) ∙ least_from_append None (faults_of t) (faults_of (main_typing text None))
    ∙ ap (λ best. least_fault_from best (faults_of (main_typing text None))) (found_fault pure found t s ∙ sym f) ∙ ap (take_less fault) (sym e) ∙ sym l

-- of a tree, from its functions and the number of main
pub program_settled : {A B : Type 0} (pure_all : A → List p.Function) (pure : B → p.Program) (text : List ℕ) (env : Env) (tree all : t.Tree) (heads : List t.Head) (main : Option ℕ)
    (found : Result A TypingFault) (result : Result B TypingFault) → env ≡ text_env text tree → all ≡ tree → main ≡ position (is_main text) heads → heads ≡ heads_of tree
    → Settles pure_all found (functions_typing env [] all)
    → ((t : Typing (List p.Function)) → Settles pure_all found t → Settles pure result (both (λ functions main. record { functions = functions; main = main }) t (main_typing text main)))
    → Settles pure result (program_typing text tree)
program_settled pure_all pure text env tree all heads main found result e a m h settled joined =
    let functions : Settles pure_all found (functions_typing (text_env text tree) [] tree) =
    subst (λ one. Settles pure_all found (functions_typing one [] tree)) e (subst (λ externals. Settles pure_all found (functions_typing env [] externals)) a settled) in
    let number : main ≡ position (is_main text) (heads_of tree) = m ∙ ap (position (is_main text)) h in
    subst (λ one. Settles pure result (both (λ functions main. record { functions = functions; main = main }) (functions_typing (text_env text tree) [] tree) (main_typing text one))) number
    (joined (functions_typing (text_env text tree) [] tree) functions)
