use Rattle.std.proofs.Common.{map}
use Rattle.c_grammar.specs.StmtView.{head_view}
use Rattle.c_types.proofs.TextHeads.{heads_next, heads_past}
use Rattle.c_types.proofs.heads.heads_of.Goals as goal

pub loop-external-preserved : goal.loop-external-preserved
loop-external-preserved c =
    heads_next (map (λ head. head_view head.now) c.loop-external.heads.items) (map (λ head. head_view head.now) c.push_head.new.heads.items) _ c.args.externals.now c.loop-external.external-index c.external-item.result
    c.loop-external-test.true c.external-item.is c.loop-external.invariant c.in_ok-push_head.ensures

pub returns : goal.returns
returns c = heads_past (map (λ head. head_view head.now) c.loop-external.heads.items) _ c.args.externals.now c.loop-external.external-index c.loop-external-test.false c.loop-external.invariant
