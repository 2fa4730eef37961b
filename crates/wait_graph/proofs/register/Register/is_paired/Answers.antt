use Rattle.std.proofs.Common.{◌∙◌}
use Rattle.wait_graph.proofs.register.Register.is_paired.Goals as goal

pub returns : goal.returns
returns c = λ n events is. c.has.ensures ∙ is.partners.each (record { rank = c.args.rank; start = c.args.start })
