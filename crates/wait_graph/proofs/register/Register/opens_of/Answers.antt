use Rattle.std.proofs.Common.{◌∙◌, ◌++◌, ap}
use Rattle.wait_graph.specs.Opens.{listed_open}
use Rattle.wait_graph.proofs.OpenLemmas.{opens_end, opens_step}
use Rattle.wait_graph.proofs.register.Register.opens_of.Goals as goal

pub loop-rest-preserved : goal.loop-rest-preserved
loop-rest-preserved c = λ n events is.
    opens_step events c.args.receiver c.loop-rest.rest.now 0 c.loop-rest.opens c.push_open.new.opens _ c.in-len1-up.len_at_least
    (c.in_ok-push_open.ensures ∙ ap (λ f. c.loop-rest.opens ++ listed_open f) (c.first_open.ensures n events is)) (c.loop-rest.invariant n events is)

pub returns : goal.returns
returns c = λ n events is. opens_end events c.args.receiver c.loop-rest.rest.now c.loop-rest.opens _ c.in_default.len_below (c.loop-rest.invariant n events is)
