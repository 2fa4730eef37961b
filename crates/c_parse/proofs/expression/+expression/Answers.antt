use Rattle.std.proofs.Common.{sym, ◌∙◌}
use Rattle.c_grammar.specs.View.{piece}
use Rattle.c_parse.proofs.Loops.{so_far-push, so_far-ends}
use Rattle.c_grammar.proofs.Shorter.{link_shorter}
use Rattle.c_parse.proofs.expression.+expression.Goals as goal

pub links-loop-alloc-preserved : goal.links-loop-alloc-preserved
links-loop-alloc-preserved t c =
    so_far-push piece _ _ _ c.loop-alloc.found.items c.push.new.list.items c.in-Ok.read.0 c.loop-alloc.rest.now c.in-Ok.read.1.now
    (sym c.heads.ensures ∙ c.loop-alloc-test.true) c.in-Ok.ensures (link_shorter _ _ _ _ c.requires.most c.in-Ok.ensures) c.in_ok-push.ensures c.loop-alloc.invariant

pub links-loop-alloc-smaller : goal.links-loop-alloc-smaller
links-loop-alloc-smaller t c = link_shorter _ _ _ _ c.requires.most c.in-Ok.ensures

pub links-returns : goal.links-returns
links-returns t c = so_far-ends _ _ _ _ _ (sym c.heads.ensures ∙ c.loop-alloc-test.false) c.loop-alloc.invariant
