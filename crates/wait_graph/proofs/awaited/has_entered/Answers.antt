use Rattle.std.proofs.Common.{◌∙◌, ap, nat_lt, sym}
use Rattle.run_model.specs.Views.{view_of}
use Rattle.wait_graph.proofs.RegisterLemmas.{entered-some}
use Rattle.wait_graph.proofs.awaited.has_entered.Goals as goal

pub returns : goal.returns
returns c = λ n events is.
    ap (nat_lt c.args.instance) (c.count_all_enters.ensures n events is) ∙ sym (entered-some n (view_of events c.args.rank) c.args.comm c.args.instance)
