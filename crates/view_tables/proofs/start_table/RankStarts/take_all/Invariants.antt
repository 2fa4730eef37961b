use Rattle.std.proofs.Common.{◌≡◌, length}
use Rattle.run_model.specs.Views.{items_taken}
use Rattle.view_tables.specs.StartTable.{with_all_taken}
use Rattle.view_tables.proofs.start_table.RankStarts.take_all.Given as goal

abbrev pub invariant-loop-rest : goal.invariant-loop-rest
invariant-loop-rest l = with_all_taken l.self (items_taken l.listed l.rest) ≡ with_all_taken l.fn.self (items_taken l.listed l.items)

abbrev pub decreases-loop-rest : goal.decreases-loop-rest
decreases-loop-rest l = length l.rest
