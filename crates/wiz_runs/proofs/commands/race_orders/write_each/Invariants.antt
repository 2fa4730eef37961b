use Rattle.std.proofs.Common.{◌≡◌, ◌≤◌, map, take, []}
use Rattle.wiz_runs.specs.RaceOrders.{other_file}
use Rattle.wiz_tool.specs.Files.{AreWritten}
use Rattle.wiz_runs.proofs.commands.race_orders.write_each.Given as goal

abbrev pub invariant-loop-other : goal.invariant-loop-other
invariant-loop-other g l = record {
  written : AreWritten (g.S.Store.observed l.initial.store).files (g.S.Store.observed l.store).files (map (other_file l.prefix l.recording) (take l.other-index l.others)) [];
  reads : (g.S.Store.observed l.store).reads ≡ (g.S.Store.observed l.initial.store).reads;
  later : (g.S.Store.observed l.initial.store).writes ≤ (g.S.Store.observed l.store).writes;
}
