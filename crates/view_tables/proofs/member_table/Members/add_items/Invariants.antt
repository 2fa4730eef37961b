use Rattle.std.proofs.Common.{◌≡◌, ◌≤◌, length, take}
use Rattle.view_tables.specs.MemberTable.{with_all_got}
use Rattle.view_tables.proofs.member_table.Members.add_items.Given as goal

abbrev pub invariant-loop-rest : goal.invariant-loop-rest
invariant-loop-rest l =
    record {
      all : with_all_got l.self l.rest ≡ with_all_got l.fn.self l.items;
      kept : take (length l.fn.self) l.self ≡ l.fn.self;
      longer : length l.fn.self ≤ length l.self;
    }

abbrev pub decreases-loop-rest : goal.decreases-loop-rest
decreases-loop-rest l = length l.rest
