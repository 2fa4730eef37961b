use Rattle.std.proofs.Common.{arith, sym}
use Rattle.view_tables.proofs.StartTableLemmas.{with_taken-at, with_taken-past}
use Rattle.view_tables.proofs.start_table.RankStarts.take.Goals as goal

pub returns-then-number-len : goal.returns-then-number-len
returns-then-number-len c =
    rw (← c.self.view_is)
    (with_taken-at c.self.inside.values.items c.args.number c.index_mut.result.now (omega arith) c.index_mut.ensures.value)

pub returns-else-number-len : goal.returns-else-number-len
returns-else-number-len c = sym (with_taken-past c.args.self.now c.args.number (rw (← c.self.view_is) (omega arith)))
