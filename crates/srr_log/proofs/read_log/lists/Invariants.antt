use Rattle.std.proofs.Common.{◌≡◌, [], length}
use Rattle.srr_log.specs.Parts.{lists_parts}
use Rattle.srr_log.specs.inside.Reading.{at_list}
use Rattle.srr_log.proofs.StateLaws.{AreRead}
use Rattle.srr_log.proofs.read_log.lists.Given as goal

abbrev pub invariant-loop-named : goal.invariant-loop-named
invariant-loop-named l = record {
  many : length l.lists ≡ l.named-index;
  read : AreRead (at_list l.ranks l.group l.group) (lists_parts l.group l.lists []) l.initial.cursor l.cursor;
}
