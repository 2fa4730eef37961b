use Rattle.std.proofs.Common.{◌≡◌, ◌++◌}
use Rattle.msg_races.specs.Listing.{lists_below as for_ranks}
use Rattle.trace_json.specs.JsonTexts.{rank_name_text}
use Rattle.trace_json.proofs.json.push_ranks.Given as goal

abbrev pub invariant-loop-rank : goal.invariant-loop-rank
invariant-loop-rank l = l.out ≡ l.initial.out ++ for_ranks (rank_name_text l.groups) l.rank
