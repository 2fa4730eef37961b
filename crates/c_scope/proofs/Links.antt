-- One link more.
use Rattle.std.proofs.Common.{◌≡◌, ℕ, ◌+◌, ◌<◌, List, length, drop, get_or, map, Option, ◌∙◌, ap}
use Rattle.c_grammar.specs.declared.tree.Link.{Link}
use Rattle.c_grammar.specs.View.{links_from, piece, view}
use Rattle.c_scope.specs.Constants.{unknown_name_faults, names_in_links}
use Rattle.c_scope.specs.Least.{least_fault_from}
use Rattle.c_scope.specs.Scopes.{Env}
use Rattle.c_scope.specs.declared.fault.TypingFault.{TypingFault}
use Rattle.c_scope.proofs.Least.{least_from_append}
use Rattle.c_scope.proofs.Lists.{drop_at}

pub names_next : (env : Env) (best : Option TypingFault) (links : List Link) (i : ℕ) (link : Link) → i < length links → link ≡ get_or links i link
    → least_fault_from best (names_in_links env (links_from (map piece (drop i links))))
    ≡ least_fault_from (least_fault_from best (unknown_name_faults env (view link.operand))) (names_in_links env (links_from (map piece (drop (i + 1) links))))
names_next env best links i link h e =
    ap (λ left. least_fault_from best (names_in_links env (links_from (map piece left)))) (drop_at links i link h e)
    ∙ least_from_append best (unknown_name_faults env (view link.operand)) (names_in_links env (links_from (map piece (drop (i + 1) links))))
