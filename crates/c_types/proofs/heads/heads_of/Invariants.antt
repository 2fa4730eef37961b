use Rattle.std.proofs.Common.{◌≡◌, ◌++◌, drop, map}
use Rattle.c_grammar.specs.StmtView.{head_view, external_view}
use Rattle.c_types.specs.Programs.{heads_of}
use Rattle.c_types.proofs.heads.heads_of.Given as goal

abbrev pub invariant-loop-external : goal.invariant-loop-external
invariant-loop-external l =
    map (λ head. head_view head.now) l.heads.items ++ heads_of (map external_view (drop l.external-index l.externals)) ≡ heads_of (map external_view l.externals)
