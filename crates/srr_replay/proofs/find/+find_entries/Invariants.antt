use Rattle.std.proofs.Common.{length}
use Rattle.srr_replay.proofs.find.+find_entries.Given as goal

abbrev pub decreases-find_entries : goal.decreases-find_entries
decreases-find_entries l = length l.group.now
