use Rattle.std.proofs.Common.{◌≡◌, ◌+◌, ◌-◌, suc, arith}
use Rattle.c_parse.proofs.Times.{times-step, times-fault}
use Rattle.c_parse.proofs.external.closes.Goals as goal

pub loop-preserved : goal.loop-preserved
loop-preserved c =
    let more : c.args.count - c.loop.counter ≡ suc (c.args.count - (c.loop.counter + 1)) = omega arith in
    times-step _ _ _ c.loop.found.items c.push.new.list.items _ _ c.in-Ok.read.0 c.loop.rest.now c.in-Ok.read.1.now more c.in-Ok.ensures.read c.in_ok-push.ensures c.loop.invariant

pub returns-in-Err : goal.returns-in-Err
returns-in-Err c =
    let more : c.args.count - c.loop.counter ≡ suc (c.args.count - (c.loop.counter + 1)) = omega arith in
    times-fault _ _ _ _ _ _ _ c.in-Err.error more c.in-Err.ensures.read c.loop.invariant
