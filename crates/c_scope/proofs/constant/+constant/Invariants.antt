use Rattle.std.proofs.Common.{◌≡◌, drop, map}
use Rattle.c_grammar.specs.View.{links_from, piece}
use Rattle.c_scope.specs.Constants.{links_constant}
use Rattle.c_scope.proofs.constant.+constant.Given as goal

abbrev pub invariant-links_constant-loop-link : goal.invariant-links_constant-loop-link
invariant-links_constant-loop-link l =
    links_constant l.scope l.value (links_from (map piece (drop l.link-index l.links))) ≡ links_constant l.scope l.initial.value (links_from (map piece l.links))
