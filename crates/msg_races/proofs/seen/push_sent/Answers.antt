use Rattle.std.proofs.Common.{arith}
use Rattle.msg_races.proofs.Counted.{few_below}
use Rattle.msg_races.proofs.seen.push_sent.Goals as goal

pub overflow_cast-start : goal.overflow_cast-start
overflow_cast-start c =
    let is = c.count_below-start.ensures in
    let short = c.requires.short in
    omega (arith, few_below, is, short)
