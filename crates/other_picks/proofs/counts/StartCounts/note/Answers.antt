use Rattle.std.proofs.Common.{◌<◌, ◌∙◌, arith, sym}
use Rattle.other_picks.proofs.Counting.{counted_rest, counted_start, starts_few}
use Rattle.other_picks.proofs.counts.StartCounts.note.Goals as goal

pub overflow_add-count : goal.overflow_add-count
overflow_add-count c =
    let few = starts_few c.args.before.now c.args.event.now.rank in
    let below : c.args.event.now.rank < 256 = omega arith in
    let is = c.requires.counts.each c.args.event.now.rank below in
    omega (arith, few, is, c.get-count.ensures.count, c.requires.short)

pub returns-then-is_start : goal.returns-then-is_start
returns-then-is_start c =
    let below : c.args.event.now.rank < 256 = omega arith in
    rw (c.set.ensures, c.get-count.ensures.count)
    (counted_start c.args.before.now c.args.event.now c.args.self.now c.get-count.ensures.wide below (sym c.is_start.ensures ∙ c.if-is_start.true) c.requires.counts)

pub returns-else-is_start : goal.returns-else-is_start
returns-else-is_start c = counted_rest c.args.before.now c.args.event.now c.args.self.now (sym c.is_start.ensures ∙ c.if-is_start.false) c.requires.counts
