use Rattle.std.proofs.Common.{◌≡◌, drop, map}
use Rattle.c_grammar.specs.View.{links_from, piece}
use Rattle.c_scope.specs.Constants.{names_in_links}
use Rattle.c_scope.specs.Least.{least_fault_from}
use Rattle.c_scope.proofs.constant.+names.Given as goal

abbrev pub invariant-want_names_in_links-loop-link : goal.invariant-want_names_in_links-loop-link
invariant-want_names_in_links-loop-link l =
    least_fault_from l.best (names_in_links l.scope (links_from (map piece (drop l.link-index l.links))))
    ≡ least_fault_from l.initial.best (names_in_links l.scope (links_from (map piece l.links)))
