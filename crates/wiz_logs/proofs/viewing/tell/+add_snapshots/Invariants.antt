use Rattle.std.proofs.Common.{length}
use Rattle.wiz_logs.proofs.viewing.tell.+add_snapshots.Given as goal

abbrev pub decreases-add_snapshots : goal.decreases-add_snapshots
decreases-add_snapshots l = length l.group.now
