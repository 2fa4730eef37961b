use Rattle.std.proofs.Common.{◌∙◌, ℕ, Option, ap}
use Rattle.std.specs.Map.{lookup}
use Rattle.wait_graph.specs.declared.taken.InboundWay.{InboundWay}
use Rattle.wait_graph.specs.Taken.{same_inbound_way, taken_last}
use Rattle.wait_graph.proofs.TakenLemmas.{tag_back}
use Rattle.wait_graph.proofs.taken.LastTaken.get.Goals as goal

pub returns : goal.returns
returns c = λ own are.
    let way_of : Option ℕ → InboundWay = λ tag. record { sender = c.args.sender; comm = c.args.comm; tag = tag } in
    c.last.ensures ∙ ap (λ tag. lookup (same_inbound_way (way_of tag)) c.args.self.now) c.tag_named.ensures
    ∙ are.each (way_of _) ∙ ap (λ tag. taken_last own c.args.comm tag c.args.sender) (tag_back c.args.tag.now)
