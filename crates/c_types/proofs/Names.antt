-- Names that the text has declared: what is in a set of them, and what typing makes of it.
use Rattle.std.proofs.Common.{◌≡◌, ◌||◌, ◌++◌, not, is_some, ℕ, Bool, true, false, List, [], ◌∷◌, Some, None, refl, sym, ◌∙◌, ap, map, if◌then◌else◌}
use Rattle.std.specs.Borrow.{Bor}
use Rattle.std.specs.List.{list_any}
use Rattle.std.specs.Option.{option_to_list}
use Rattle.std.specs.Str.{bytes_eq}
use Rattle.std.proofs.Math.Bool.{or-false, or-true}
use Rattle.std.proofs.lemmas.List.{map-append}
use Rattle.std.proofs.lemmas.List.Folds.{list_any-append}
use Rattle.std.proofs.lemmas.Slice.Eq.{bytes_eq-Decides}
use Rattle.indexmap.specs.IndexSet.{insert_key}
use Rattle.c_grammar.specs.Tree as t
use Rattle.c_grammar.specs.declared.terminal.Span.{Span}
use Rattle.c_lex.specs.declared.fault.Why.TheVariants.{Twice}
use Rattle.c_names.specs.Predefined.{predefined}
use Rattle.c_scope.specs.Least.{fault_unless}
use Rattle.c_scope.specs.Scopes.{Env, token_bytes}
use Rattle.c_scope.specs.Typing.{also, both, onto, typed}
use Rattle.c_types.specs.ProgramTyping.{definition_typing, external_typing, functions_typing}
use Rattle.c_types.specs.Programs.{after_external, external_twice_faults, seen_after}
use Rattle.c_types.specs.inside.Seen.{HaveSameNames}

abbrev bytes_of : List (Bor (List ℕ)) → List (List ℕ)
bytes_of names = map (λ name. name.now) names

abbrev pub same_bytes : Bor (List ℕ) → Bor (List ℕ) → Bool
same_bytes name other = bytes_eq name.now other.now

pub any_bytes : (name : List ℕ) (names : List (Bor (List ℕ))) → list_any (λ other. bytes_eq name other.now) names ≡ list_any (bytes_eq name) (map (λ other. other.now) names)
any_bytes name [] = refl
any_bytes name (other ∷ names) = ap (λ b. bytes_eq name other.now || b) (any_bytes name names)

-- a name that is there already
there_already : (name other : List ℕ) (names : List (List ℕ)) (test : Bool) → bytes_eq name other ≡ test → list_any (bytes_eq other) names ≡ true
    → list_any (bytes_eq name) names ≡ (list_any (bytes_eq name) names || (test || false))
there_already name other names true e there =
    ap (λ n. list_any (bytes_eq n) names) ((bytes_eq-Decides name other).0 e) ∙ there ∙ sym (or-true (list_any (bytes_eq name) names))
there_already name other names false e there = sym (or-false (list_any (bytes_eq name) names))

kept_or_added : (name : List ℕ) (names : List (Bor (List ℕ))) (other : Bor (List ℕ)) (test : Bool) → list_any (same_bytes other) names ≡ test
    → list_any (bytes_eq name) (bytes_of (if test then names else names ++ other ∷ [])) ≡ list_any (bytes_eq name) (bytes_of names ++ other.now ∷ [])
kept_or_added name names other true e =
    there_already name other.now (bytes_of names) (bytes_eq name other.now) refl (sym (any_bytes other.now names) ∙ e)
    ∙ sym (list_any-append (bytes_eq name) (bytes_of names) (other.now ∷ []))
kept_or_added name names other false e = ap (list_any (bytes_eq name)) (map-append (λ (one : Bor (List ℕ)). one.now) names (other ∷ []))

pub inserted : (names : List (Bor (List ℕ))) (other : Bor (List ℕ)) → HaveSameNames (map (λ name. name.now) (insert_key same_bytes names other)) (map (λ name. name.now) names ++ other.now ∷ [])
inserted names other name = kept_or_added name names other (list_any (same_bytes other) names) refl

-- the typing of what stands in a text rests on which names were declared before

twice_same : (env : Env) (names others : List (List ℕ)) (name : Span) → HaveSameNames names others → external_twice_faults env.text names name ≡ external_twice_faults env.text others name
twice_same env names others name same =
    ap (λ there. fault_unless (not (is_some (predefined (token_bytes env.text name)) || there)) name Twice) (same (token_bytes env.text name))

external_same : (env : Env) (names others : List (List ℕ)) (external : t.ExternalDeclaration) → HaveSameNames names others → external_typing env names external ≡ external_typing env others external
external_same env names others (t.define keyword name value end) same = ap (λ twice. also twice (typed None)) (twice_same env names others name same)
external_same env names others (t.function head opening parts closing) same =
    ap (λ twice. also twice (onto Some (definition_typing env head parts))) (twice_same env names others head.name same)
external_same env names others (t.prototype head end) same = refl

added_same : (names others : List (List ℕ)) (name : List ℕ) → HaveSameNames names others → HaveSameNames (names ++ name ∷ []) (others ++ name ∷ [])
added_same names others name same other =
    list_any-append (bytes_eq other) names (name ∷ []) ∙ ap (λ b. b || list_any (bytes_eq other) (name ∷ [])) (same other) ∙ sym (list_any-append (bytes_eq other) others (name ∷ []))

after_same : (text : List ℕ) (names others : List (List ℕ)) (external : t.ExternalDeclaration) → HaveSameNames names others → HaveSameNames (seen_after text names external) (seen_after text others external)
after_same text names others (t.define keyword name value end) same = added_same names others (token_bytes text name) same
after_same text names others (t.function head opening parts closing) same = added_same names others (token_bytes text head.name) same
after_same text names others (t.prototype head end) same = same

pub functions_same : (env : Env) (names others : List (List ℕ)) (externals : List t.ExternalDeclaration) → HaveSameNames names others
    → functions_typing env names externals ≡ functions_typing env others externals
functions_same env names others [] same = refl
functions_same env names others (external ∷ externals) same =
    λ j. both (λ function more. option_to_list function ++ more) (external_same env names others external same j)
    (functions_same (after_external env external) (seen_after env.text names external) (seen_after env.text others external) externals (after_same env.text names others external same) j)
