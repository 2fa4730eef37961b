use Rattle.std.proofs.Common.{◌∙◌, Bool, ap}
use Rattle.wait_graph.specs.Opens.{open_send}
use Rattle.wait_graph.proofs.register.Register.open_here.Goals as goal

pub returns : goal.returns
returns c = λ n events is.
    c.open_at.ensures ∙ ap (λ (paired : Bool). open_send paired c.args.receiver (record { rank = c.args.sender; start = c.args.start }) c.args.call.now) (c.is_paired.ensures n events is)
