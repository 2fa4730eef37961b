use Rattle.std.proofs.Common.{subst}
use Rattle.std.specs.Map.{lookup}
use Rattle.mpi_call.specs.declared.reply.Item.{Item}
use Rattle.msg_races.specs.Ways.{named_tag}
use Rattle.run_model.specs.Views.{start_at}
use Rattle.std.proofs.Common.{◌≡◌, slice_index}
use Rattle.wait_graph.specs.Taken.{taken_after_got, asked_of, same_inbound_way}
use Rattle.wait_graph.proofs.TakenLemmas.{items_end, items_step}
use Rattle.wait_graph.proofs.taken.LastTaken.add_items.Goals as goal

pub loop-rest-preserved : goal.loop-rest-preserved
loop-rest-preserved c = λ n own is way.
    let F : Item → Type 0 = λ x. lookup (same_inbound_way way) c.add_item.new.self
    ≡ taken_after_got (asked_of way.comm (named_tag way.tag) way.sender) c.args.number (start_at own (slice_index c.args.starts.now x.index)) x.got (lookup (same_inbound_way way) c.loop-rest.self) in
    items_step way.comm (named_tag way.tag) way.sender c.args.number own c.args.starts.now c.loop-rest.rest.now c.item-item.result _ _ _ c.in-len1-up.len_at_least
    (subst F c.item-item.is (c.in_ok-add_item.ensures n own is way)) (c.loop-rest.invariant n own is way)

pub returns : goal.returns
returns c = λ n own is way.
    items_end way.comm (named_tag way.tag) way.sender c.args.number own c.args.starts.now c.loop-rest.rest.now _ _ c.in_default.len_below (c.loop-rest.invariant n own is way)
