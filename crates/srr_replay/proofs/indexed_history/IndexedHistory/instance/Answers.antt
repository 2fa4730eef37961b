use Rattle.std.proofs.Common.{◌∙◌, arith}
use Rattle.view_tables.proofs.InstanceLemmas.{instance_short, instance_there, numbers_rise}
use Rattle.srr_replay.proofs.indexed_history.IndexedHistory.instance.Goals as goal

pub count_below-count-requires : goal.count_below-count-requires
count_below-count-requires c =
    numbers_rise c.self.inside.ranks c.self.inside.events.events c.self.inside.enters c.args.rank c.args.comm c.get.result.now c.self.invariant.4 c.get.ensures

pub returns : goal.returns
returns c =
    rw (← c.self.view_is)
    (c.count_below-count.ensures
    ∙ instance_there c.self.inside.ranks c.self.inside.events.events c.self.inside.enters c.args.rank c.args.comm c.args.number c.get.result.now c.self.invariant.4 c.get.ensures)

pub prove-unreachable-requires : goal.prove-unreachable-requires
prove-unreachable-requires c =
    let there = instance_there c.self.inside.ranks c.self.inside.events.events c.self.inside.enters c.args.rank c.args.comm c.args.number c.get.result.now c.self.invariant.4 c.get.ensures in
    let short = instance_short c.self.inside.events.events c.args.rank c.args.comm c.args.number in
    omega (arith, c.if-prove.true, c.count_below-count.ensures, there, short, c.len-most.ensures)
