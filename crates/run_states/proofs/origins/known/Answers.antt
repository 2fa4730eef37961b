use Rattle.std.proofs.Common.{◌∙◌, sym}
use Rattle.run_states.proofs.Instancing.{known_at}
use Rattle.run_states.proofs.origins.known.Goals as goal

pub returns-in-Some : goal.returns-in-Some
returns-in-Some c =
    sym (known_at c.args.comm c.args.rank c.loop-rest.rest.now c.event-item.result _ c.in-Some.members.now c.in-len1-up.len_at_least c.event-item.is c.if-event-rank.true (sym c.in-Some.ensures))
    ∙ c.loop-rest.invariant
