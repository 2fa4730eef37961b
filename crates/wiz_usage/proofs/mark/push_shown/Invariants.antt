use Rattle.std.proofs.Common.{◌≡◌, ◌++◌, map, take}
use Rattle.wiz_usage.specs.Marks.{shown}
use Rattle.wiz_usage.proofs.mark.push_shown.Given as goal

abbrev pub invariant-loop-byte : goal.invariant-loop-byte
invariant-loop-byte l = l.out ≡ l.initial.out ++ map shown (take l.byte-index l.bytes)
