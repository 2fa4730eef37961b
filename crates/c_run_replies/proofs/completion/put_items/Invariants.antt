use Rattle.std.proofs.Common.{◌≡◌, ◌≤◌, drop}
use Rattle.c_program.specs.Performing.{Onward, completing_of, put_items}
use Rattle.c_run_replies.proofs.completion.put_items.Given as goal

abbrev pub invariant-loop-number : goal.invariant-loop-number
invariant-loop-number l = record {
  comes : (go : Onward) → put_items (completing_of l.call.rank.ranks l.call.requests l.call.mode l.call.answer) l.active 0 l.items l.initial.state go
      ≡ put_items (completing_of l.call.rank.ranks l.call.requests l.call.mode l.call.answer) l.active l.number (drop l.number l.items) l.state go;
  left : l.state.left ≤ l.initial.state.left;
}
