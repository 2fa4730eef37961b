-- Functions, declaration by declaration.
use Rattle.std.proofs.Common.{◌≡◌, ℕ, ◌+◌, ◌<◌, ◌≤◌, List, ◌∷◌, length, get_or, map, drop, suc, Bor, ◌∙◌, ap, arith}
use Rattle.c_grammar.specs.StmtView.{head_view}
use Rattle.c_grammar.specs.declared.statement.Head.{Head}
use Rattle.c_scope.specs.Scopes.{named, token_bytes}
use Rattle.c_scope.specs.Signatures.{function_entries}
use Rattle.c_scope.specs.declared.meaning.Entity.TheVariants as d
use Rattle.c_scope.proofs.Lists.{drop_at}

-- the functions from a place on, and the one before it
pub function_more : (text : List ℕ) (heads : List (Bor Head)) (n k : ℕ) (head : Bor Head) → n ≡ suc k → n ≤ length heads → head ≡ get_or heads k head
    → function_entries text k (map (λ one. head_view one.now) (drop k heads))
    ≡ named (token_bytes text head.now.name) (d.Function k) ∷ function_entries text n (map (λ one. head_view one.now) (drop n heads))
function_more text heads n k head e h g =
    let less : k < length heads = omega arith in
    let next : k + 1 ≡ n = omega arith in
    let after : suc k ≡ n = omega arith in
    ap (λ left. function_entries text k (map (λ (one : Bor Head). head_view one.now) left)) (drop_at heads k head less g)
    ∙ ap (λ m. named (token_bytes text head.now.name) (d.Function k) ∷ function_entries text m (map (λ (one : Bor Head). head_view one.now) (drop (k + 1) heads))) after
    ∙ ap (λ m. named (token_bytes text head.now.name) (d.Function k) ∷ function_entries text n (map (λ (one : Bor Head). head_view one.now) (drop m heads))) next
