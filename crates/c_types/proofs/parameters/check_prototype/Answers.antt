use Rattle.c_types.proofs.ParameterLoops.{prototype_end, prototype_next}
use Rattle.c_types.proofs.parameters.check_prototype.Goals as goal

pub loop-behind-preserved : goal.loop-behind-preserved
loop-behind-preserved c =
    let e = prototype_next c.args.scope.now c.args.main c.loop-behind.best c.deref-behind-items.result.now c.loop-behind.behind-index c.behind-item.result c.loop-behind-test.true c.behind-item.is in
    let i = c.loop-behind.invariant in
    cc c.check_parameter-in-loop-behind.ensures

pub returns-after-loop-behind : goal.returns-after-loop-behind
returns-after-loop-behind c =
    prototype_end c.args.best.now c.check_parameter.new.best c.loop-behind.best c.args.scope.now c.args.main c.in-Listed.list c.args.parameters.now c.deref-behind-items.result.now c.loop-behind.behind-index
    c.in-Listed.is c.deref-behind-items.ensures.value c.loop-behind-test.false c.check_parameter.ensures c.loop-behind.invariant
