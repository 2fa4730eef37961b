use Rattle.std.proofs.Common.{sym, ◌∙◌}
use Rattle.c_parse.proofs.Loops.{so_far-push, so_far-ends, so_far-fault}
use Rattle.c_grammar.proofs.Shorter.{after_comma_shorter}
use Rattle.c_parse.proofs.comma_list.others.Goals as goal

pub loop-alloc-preserved : goal.loop-alloc-preserved
loop-alloc-preserved g c =
    so_far-push (λ one. (one.comma, g.T.InCommaList.view one.item)) _ _ _ c.loop-alloc.found.items c.push.new.list.items c.in-Ok.read.0 c.loop-alloc.rest.now c.in-Ok.read.1.now
    (sym c.heads.ensures ∙ c.loop-alloc-test.true) c.in-Ok.ensures (after_comma_shorter _ (λ ts y h. g.met.T.InCommaList.shorter c.args.left ts y c.requires h) _ _ c.in-Ok.ensures) c.in_ok-push.ensures c.loop-alloc.invariant

pub loop-alloc-smaller : goal.loop-alloc-smaller
loop-alloc-smaller g c = after_comma_shorter _ (λ ts y h. g.met.T.InCommaList.shorter c.args.left ts y c.requires h) _ _ c.in-Ok.ensures

pub returns : goal.returns
returns g c = so_far-ends _ _ _ _ _ (sym c.heads.ensures ∙ c.loop-alloc-test.false) c.loop-alloc.invariant

pub returns-in-Err : goal.returns-in-Err
returns-in-Err g c = so_far-fault _ _ _ _ _ c.in-Err.error (sym c.heads.ensures ∙ c.loop-alloc-test.true) c.in-Err.ensures c.loop-alloc.invariant
