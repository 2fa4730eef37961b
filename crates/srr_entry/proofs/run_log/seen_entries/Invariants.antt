use Rattle.std.proofs.Common.{◌≡◌, ◌++◌, [], length, map}
use Rattle.run_model.specs.Views.{View}
use Rattle.srr_entry.specs.Entries.{entries_from}
use Rattle.srr_entry.specs.Known.{IsKnownOf}
use Rattle.srr_entry.proofs.run_log.seen_entries.Given as goal

abbrev pub invariant-loop-rest : goal.invariant-loop-rest
invariant-loop-rest l = record {
  own : View;
  known : IsKnownOf l.owner.ranks own l.known;
  seen : map (λ event. (event.now.call, event.now.reply)) l.events ≡ own ++ map (λ event. (event.now.call, event.now.reply)) l.rest;
  made : l.entries ≡ entries_from l.owner.ranks l.owner.group.now l.owner.rank [] own;
}

abbrev pub decreases-loop-rest : goal.decreases-loop-rest
decreases-loop-rest l = length l.rest
