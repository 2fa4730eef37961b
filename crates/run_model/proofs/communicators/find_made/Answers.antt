use Rattle.std.proofs.Common.{◌∙◌, sym}
use Rattle.run_model.proofs.CommunicatorLaws.{known_after-first}
use Rattle.run_model.proofs.communicators.find_made.Goals as goal

pub returns-in-Some : goal.returns-in-Some
returns-in-Some c =
    sym (known_after-first c.args.comm c.loop-rest.rest.now c.in-Some.members.now c.seen-item.result _ c.in-len1-up.len_at_least c.seen-item.is (sym c.in-Some.ensures))
    ∙ c.loop-rest.invariant
