use Rattle.std.proofs.Common.{◌∙◌, Option, Some, ap, if◌then◌else◌}
use Rattle.std.proofs.lemmas.Result.{on_ok_weaker}
use Rattle.std.specs.Map.{lookup}
use Rattle.wait_graph.specs.declared.message.Taken.{Taken}
use Rattle.wait_graph.specs.declared.taken.InboundWay.{InboundWay}
use Rattle.wait_graph.specs.Taken.{same_inbound_way}
use Rattle.wait_graph.proofs.TakenLemmas.{added}
use Rattle.wait_graph.proofs.taken.LastTaken.add_message.Goals as goal

pub returns : goal.returns
returns c =
    let tagged : InboundWay = record { sender = c.args.sender; comm = c.args.comm; tag = Some c.args.tag } in
    on_ok_weaker c.add_tagged.result
    (λ adds way.
    adds way
    ∙ ap (λ (k : Option Taken). if same_inbound_way tagged way then Some c.args.taken else k) (c.in_ok-add_any.ensures way)
    ∙ added c.args.sender c.args.comm c.args.tag way.sender way.comm way.tag c.args.taken (lookup (same_inbound_way way) c.args.self.now))
    c.add_tagged.ensures
