-- What stands behind the first of things in a row.
use Rattle.std.proofs.Common.{◌≡◌, suc, List, [], ◌∷◌, length, map, refl, ap}
use Rattle.c_grammar.specs.declared.terminal.Span.{Span}
use Rattle.c_grammar.specs.declared.statement.AfterComma.{AfterComma}
use Rattle.c_grammar.specs.declared.statement.CommaList.{CommaList}
use Rattle.c_grammar.specs.StmtView.{comma_list_view}
use Rattle.c_scope.specs.Rows.{comma_items}
use Rattle.c_scope.specs.Signatures.{listed}

-- as `listed` and `comma_list_view` make it
abbrev pub behind_viewed : {A B : Type 0} → (A → B) → List (AfterComma A) → List B
behind_viewed {A} {B} view more = map (λ (behind : Span × B). behind.1) (map (λ (behind : AfterComma A). (behind.comma, view behind.item)) more)

count_behind : {A B : Type 0} (view : A → B) (more : List (AfterComma A)) → length (map (λ behind. behind.item) more) ≡ length (behind_viewed view more)
count_behind view [] = refl
count_behind view (one ∷ more) = ap (λ n. suc n) (count_behind view more)

pub count_viewed : {A B : Type 0} (view : A → B) (list : CommaList A) → length (comma_items list) ≡ length (listed (comma_list_view view list))
count_viewed view list = ap (λ n. suc n) (count_behind view list.more.items)
