-- The heads of a text's functions, and the number of main among them.
use Rattle.std.proofs.Common.{◌≡◌, ℕ, ◌+◌, ◌<◌, ◌≤◌, ◌++◌, Bool, Bor, List, [], ◌∷◌, Some, None, cond, not, if◌then◌else◌, length, drop, get_or, map, nat_lt, refl, sym, ◌∙◌, ap, append_assoc}
use Rattle.std.specs.List.{position, position_or_len}
use Rattle.std.proofs.lemmas.List.{append-nil, length-map}
use Rattle.c_grammar.specs.Tree as t
use Rattle.c_grammar.specs.declared.statement.ExternalDeclaration.{ExternalDeclaration}
use Rattle.c_grammar.specs.declared.statement.Head.{Head}
use Rattle.c_grammar.specs.StmtView.{external_view, head_view}
use Rattle.c_scope.specs.Scopes.{Env, Signature}
use Rattle.c_scope.specs.Signatures.{function_entries, signature_of}
use Rattle.c_scope.proofs.Lists.{drop_at, drop_past}
use Rattle.c_types.specs.Programs.{heads_of, text_env, with_head}

-- ---- heads

head_and : (external : t.ExternalDeclaration) (heads : List t.Head) → with_head external [] ++ heads ≡ with_head external heads
head_and (t.define keyword name value end) heads = refl
head_and (t.function head opening parts closing) heads = refl
head_and (t.prototype head end) heads = refl

pub heads_next : (far next all : List t.Head) (externals : List ExternalDeclaration) (i : ℕ) (one : ExternalDeclaration) → i < length externals → one ≡ get_or externals i one
    → far ++ heads_of (map external_view (drop i externals)) ≡ all → next ≡ far ++ with_head (external_view one) []
    → next ++ heads_of (map external_view (drop (i + 1) externals)) ≡ all
heads_next far next all externals i one h e before n =
    let rest : List t.Head = heads_of (map external_view (drop (i + 1) externals)) in
    ap (λ heads. heads ++ rest) n ∙ append_assoc far (with_head (external_view one) []) rest ∙ ap (λ heads. far ++ heads) (head_and (external_view one) rest)
    ∙ sym (ap (λ left. far ++ heads_of (map external_view left)) (drop_at externals i one h e)) ∙ before

pub heads_past : (far all : List t.Head) (externals : List ExternalDeclaration) (n : ℕ) → length externals ≤ n → far ++ heads_of (map external_view (drop n externals)) ≡ all → far ≡ all
heads_past far all externals n h i = sym (append-nil far) ∙ sym (ap (λ left. far ++ heads_of (map external_view left)) (drop_past externals n h)) ∙ i

-- ---- main

place_viewed : {A B : Type 0} (f : A → B) (test : B → Bool) (xs : List A) → position_or_len test (map f xs) ≡ position_or_len (λ x. test (f x)) xs
place_viewed f test [] = refl
place_viewed f test (x ∷ xs) = ap (λ n. if not (test (f x)) then 1 + n else 0) (place_viewed f test xs)

pub position_viewed : {A B : Type 0} (f : A → B) (test : B → Bool) (xs : List A) → position (λ x. test (f x)) xs ≡ position test (map f xs)
position_viewed f test xs =
    let e = sym (place_viewed f test xs) in
    let l = sym (length-map xs f) in
    λ i. cond (nat_lt (e i) (l i)) (Some (e i)) None

-- ---- what stands around a text

map_twice : {A B C : Type 0} (f : B → C) (g : A → B) (xs : List A) → map (λ x. f (g x)) xs ≡ map f (map g xs)
map_twice f g [] = refl
map_twice f g (x ∷ xs) = ap (λ ys. f (g x) ∷ ys) (map_twice f g xs)

pub text_env_of : (text : List ℕ) (heads : List (Bor Head)) (tree : t.Tree) → map (λ head. head_view head.now) heads ≡ heads_of tree
    → ◌≡◌ {A = Env} (record {
      text = text;
      functions = map (λ head. signature_of (head_view head.now)) heads;
      entries = function_entries text 0 (map (λ head. head_view head.now) heads);
    }) (text_env text tree)
text_env_of text heads tree e =
    let viewed : List t.Head = map (λ (head : Bor Head). head_view head.now) heads in
    let f : map (λ (head : Bor Head). signature_of (head_view head.now)) heads ≡ map signature_of viewed =
    map_twice signature_of (λ (head : Bor Head). head_view head.now) heads in
    let P : List Signature → Env = λ functions. record { text = text; functions = functions; entries = function_entries text 0 viewed } in
    let Q : List t.Head → Env = λ all. record { text = text; functions = map signature_of all; entries = function_entries text 0 all } in
    ap P f ∙ ap Q e
