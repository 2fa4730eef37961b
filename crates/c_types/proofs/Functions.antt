-- The functions of a text, one more.
use Rattle.std.proofs.Common.{◌≡◌, ◌||◌, ◌++◌, ◌+◌, ◌<◌, ◌≤◌, ℕ, Bool, true, false, List, [], ◌∷◌, Option, Some, None, option_map, is_none, length, drop, get_or, map, refl, sym, ap, ◌∙◌, subst, append_assoc}
use Rattle.std.specs.Option.{option_to_list}
use Rattle.std.proofs.lemmas.List.{append-nil}
use Rattle.c_grammar.specs.declared.statement.ExternalDeclaration.{ExternalDeclaration}
use Rattle.c_grammar.specs.StmtView.{external_view}
use Rattle.c_program.specs.Tree as p
use Rattle.c_scope.specs.Least.{least_fault_from}
use Rattle.c_scope.specs.Scopes.{Env}
use Rattle.c_scope.specs.Typing.{Typing, typed, faulty, faults_of}
use Rattle.c_scope.specs.Walks.{Gives, if_both, unless_faulty}
use Rattle.c_scope.specs.declared.fault.TypingFault.{TypingFault}
use Rattle.c_scope.proofs.Least.{first_of}
use Rattle.c_scope.proofs.Lists.{drop_at, drop_past}
use Rattle.c_types.specs.ProgramTyping.{external_typing, functions_typing}
use Rattle.c_types.specs.Programs.{after_external, seen_after}
use Rattle.c_types.specs.inside.Seen.{HaveSameNames}
use Rattle.c_types.specs.inside.Settled.{found_functions}
use Rattle.c_types.proofs.Names.{functions_same}
use Rattle.c_types.proofs.Walks.{SoFar, so_far_last, so_far_next}

-- functions so far, of which one may be faulty
abbrev pub FunctionsSoFar : Option TypingFault → Bool → List p.Function → Typing (List p.Function) → Typing (List p.Function) → Type 0
FunctionsSoFar best one_is all left whole = SoFar ◌++◌ None best (unless_faulty one_is all) left whole

-- one is faulty if one before is, or this one is
kept_function : {A : Type 0} (one_is : Bool) (all : List A) (found : Option (Option A))
    → unless_faulty (one_is || is_none found) (all ++ found_functions found) ≡ if_both (λ all one. all ++ option_to_list one) (unless_faulty one_is all) found
kept_function true all found = refl
kept_function false all None = refl
kept_function false all (Some None) = refl
kept_function false all (Some (Some one)) = refl

pub functions_next : {best new : Option TypingFault} {found : Option (Option p.Function)} (env next : Env) (seen after : List (List ℕ)) (externals : List ExternalDeclaration) (i : ℕ)
    (one : ExternalDeclaration) (one_is : Bool) (all more : List p.Function) (whole : Typing (List p.Function)) → i < length externals → one ≡ get_or externals i one
    → next ≡ after_external env (external_view one) → HaveSameNames after (seen_after env.text seen (external_view one)) → Gives best new found (external_typing env seen (external_view one))
    → more ≡ all ++ found_functions found → FunctionsSoFar best one_is all (functions_typing env seen (map external_view (drop i externals))) whole
    → FunctionsSoFar new (one_is || is_none found) more (functions_typing next after (map external_view (drop (i + 1) externals))) whole
functions_next {best} {new} {found} env next seen after externals i one one_is all more whole h e n same g k so_far =
    let this = external_view one in
    let rest = map external_view (drop (i + 1) externals) in
    let left : functions_typing (after_external env this) (seen_after env.text seen this) rest ≡ functions_typing next after rest =
    sym (functions_same next after (seen_after env.text seen this) rest same ∙ ap (λ scope. functions_typing scope (seen_after env.text seen this) rest) n) in
    subst (λ left. FunctionsSoFar new (one_is || is_none found) more left whole) left
    (so_far_next (λ all last. all ++ option_to_list last) (λ function others. option_to_list function ++ others) ◌++◌ (λ all last others. append_assoc all (option_to_list last) others)
    (unless_faulty one_is all) (external_typing env seen this) (functions_typing (after_external env this) (seen_after env.text seen this) rest) whole
    (subst (λ externals. FunctionsSoFar best one_is all (functions_typing env seen (map external_view externals)) whole) (drop_at externals i one h e) so_far) g
    (ap (unless_faulty (one_is || is_none found)) k ∙ kept_function one_is all found))

-- ---- the end

ended : {best : Option TypingFault} (env : Env) (seen : List (List ℕ)) (externals : List ExternalDeclaration) (n : ℕ) (one_is : Bool) (all : List p.Function) (whole : Typing (List p.Function))
    → length externals ≤ n → FunctionsSoFar best one_is all (functions_typing env seen (map external_view (drop n externals))) whole
    → Gives None best (option_map (λ all. all ++ []) (unless_faulty one_is all)) whole
ended {best} env seen externals n one_is all whole h so_far =
    so_far_last ◌++◌ (unless_faulty one_is all) [] whole
    (subst (λ externals. FunctionsSoFar best one_is all (functions_typing env seen (map external_view externals)) whole) (drop_past externals n h) so_far)

some_first : (one : TypingFault) (others : List TypingFault) → None ≡ least_fault_from None (one ∷ others) → ⊥
some_first one others e = let none = first_of (one ∷ others) None e in cc none

all_typed : {A : Type 0} (one_is : Bool) (all : List A) (t : Typing (List A)) → Gives None None (option_map (λ all. all ++ []) (unless_faulty one_is all)) t → t ≡ typed all
all_typed true all (typed form) g = absurd (let e = g.form in cc)
all_typed false all (typed form) g = let e = g.form in let n = append-nil all in ap typed (cc)
all_typed one_is all (faulty one others) g = absurd (some_first one others g.best)

-- without a fault all are there
pub functions_typed : {best : Option TypingFault} (env : Env) (seen : List (List ℕ)) (externals : List ExternalDeclaration) (n : ℕ) (one_is : Bool) (all : List p.Function)
    (whole : Typing (List p.Function)) → length externals ≤ n → best ≡ None → FunctionsSoFar best one_is all (functions_typing env seen (map external_view (drop n externals))) whole
    → whole ≡ typed all
functions_typed env seen externals n one_is all whole h none so_far = all_typed one_is all whole (rw none at (ended env seen externals n one_is all whole h so_far))

-- a fault that was found is the first
pub functions_faulty : {best : Option TypingFault} {fault : TypingFault} (env : Env) (seen : List (List ℕ)) (externals : List ExternalDeclaration) (n : ℕ) (one_is : Bool) (all : List p.Function)
    (whole : Typing (List p.Function)) → length externals ≤ n → best ≡ Some fault → FunctionsSoFar best one_is all (functions_typing env seen (map external_view (drop n externals))) whole
    → least_fault_from None (faults_of whole) ≡ Some fault
functions_faulty env seen externals n one_is all whole h some so_far = let given = ended env seen externals n one_is all whole h so_far in sym given.best ∙ some
