use Rattle.std.proofs.Common.{◌≡◌, ◌≤◌, take, []}
use Rattle.wiz_searches.specs.Explorations.{found_turns, numbered_files}
use Rattle.wiz_tool.specs.Files.{AreWritten}
use Rattle.wiz_searches.proofs.commands.explore_files.write_found.Given as goal

abbrev pub invariant-loop-number : goal.invariant-loop-number
invariant-loop-number g l = record {
  written : AreWritten (g.S.Store.observed l.initial.store).files (g.S.Store.observed l.store).files (numbered_files l.prefix 0 (take l.number (found_turns l.listed))) [];
  reads : (g.S.Store.observed l.store).reads ≡ (g.S.Store.observed l.initial.store).reads;
  later : (g.S.Store.observed l.initial.store).writes ≤ (g.S.Store.observed l.store).writes;
}
