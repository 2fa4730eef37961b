use Rattle.std.proofs.Common.{◌≡◌, ℕ, length}
use Rattle.std.specs.Map.{lookup}
use Rattle.msg_races.specs.Ways.{named_tag}
use Rattle.run_model.specs.Views.{View}
use Rattle.srr_entry.specs.Known.{IsKnownOf}
use Rattle.wait_graph.specs.declared.taken.InboundWay.{InboundWay}
use Rattle.wait_graph.specs.Taken.{taken_after_items, asked_of, same_inbound_way}
use Rattle.wait_graph.proofs.taken.LastTaken.add_items.Given as goal

abbrev pub invariant-loop-rest : goal.invariant-loop-rest
invariant-loop-rest l =
    (n : ℕ) (own : View) → IsKnownOf n own l.known → (way : InboundWay)
    → taken_after_items (asked_of way.comm (named_tag way.tag) way.sender) l.number own l.starts l.rest (lookup (same_inbound_way way) l.self)
    ≡ taken_after_items (asked_of way.comm (named_tag way.tag) way.sender) l.number own l.starts l.items (lookup (same_inbound_way way) l.initial.self)

abbrev pub decreases-loop-rest : goal.decreases-loop-rest
decreases-loop-rest l = length l.rest
