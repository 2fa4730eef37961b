use Rattle.std.proofs.Common.{◌∙◌, ap}
use Rattle.std.proofs.lemmas.Result.{on_ok_weaker}
use Rattle.std.specs.Map.{lookup}
use Rattle.msg_races.specs.Ways.{named_tag}
use Rattle.run_model.specs.Views.{start_at}
use Rattle.wait_graph.specs.Taken.{taken_after_got, asked_of, same_inbound_way}
use Rattle.wait_graph.proofs.taken.LastTaken.add_item.Goals as goal

pub returns : goal.returns
returns c =
    on_ok_weaker c.add_got.result
    (λ adds n own is way.
    adds way
    ∙ ap (λ s. taken_after_got (asked_of way.comm (named_tag way.tag) way.sender) c.args.number s c.args.item.now.got (lookup (same_inbound_way way) c.args.self.now))
    (c.start.ensures n own is ∙ ap (start_at own) c.listed_start-start.ensures))
    c.add_got.ensures
