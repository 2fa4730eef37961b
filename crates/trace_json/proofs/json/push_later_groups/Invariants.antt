use Rattle.std.proofs.Common.{◌≡◌, ◌+◌, ◌++◌}
use Rattle.msg_races.specs.Listing.{lists_below as for_ranks}
use Rattle.trace_json.specs.JsonTexts.{group_name_text}
use Rattle.trace_json.proofs.json.push_later_groups.Given as goal

abbrev pub invariant-loop-before : goal.invariant-loop-before
invariant-loop-before l = l.out ≡ l.initial.out ++ for_ranks (λ before. group_name_text (before + 1)) l.before
