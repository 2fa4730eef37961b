use Rattle.std.proofs.Common.{sym, ◌∙◌}
use Rattle.c_grammar.specs.StmtView.{part_view}
use Rattle.c_parse.proofs.Loops.{so_far-push, so_far-ends, so_far-fault}
use Rattle.c_grammar.proofs.Shorter.{part_shorter}
use Rattle.c_parse.proofs.statement.+statement.Goals as goal

pub parts-loop-alloc-preserved : goal.parts-loop-alloc-preserved
parts-loop-alloc-preserved t c =
    so_far-push part_view _ _ _ c.loop-alloc.found.items c.push.new.list.items c.in-Ok.read.0 c.loop-alloc.rest.now c.in-Ok.read.1.now
    (sym c.heads.ensures ∙ c.loop-alloc-test.true) c.in-Ok.ensures (part_shorter _ _ _ c.in-Ok.ensures) c.in_ok-push.ensures c.loop-alloc.invariant

pub parts-loop-alloc-smaller : goal.parts-loop-alloc-smaller
parts-loop-alloc-smaller t c = part_shorter _ _ _ c.in-Ok.ensures

pub parts-returns-in-Err : goal.parts-returns-in-Err
parts-returns-in-Err t c = so_far-fault _ _ _ _ _ c.in-Err.error (sym c.heads.ensures ∙ c.loop-alloc-test.true) c.in-Err.ensures c.loop-alloc.invariant

pub parts-returns : goal.parts-returns
parts-returns t c = so_far-ends _ _ _ _ _ (sym c.heads.ensures ∙ c.loop-alloc-test.false) c.loop-alloc.invariant
