use Rattle.std.proofs.Common.{◌-◌, List, length, refl, take}
use Rattle.run_model.specs.declared.event.Event.{Event}
use Rattle.explore.proofs.QuietLooked.{last_answered}
use Rattle.explore.proofs.Stepping.{last_split}
use Rattle.explore.proofs.quiet.is_last_answered.Goals as goal

pub returns-in_default-reply : goal.returns-in_default-reply
returns-in_default-reply c =
    let shown : List Event = c.args.events.now in
    let whole = last_split shown shown c.event-item.result refl c.in-len1-up.len_at_least c.event-item.is in
    last_answered (take (length shown - 1) shown) c.event-item.result shown c.keeps_probe.result whole c.in_default-reply.not-NotYet c.in_default-reply.not-Stopped c.keeps_probe.ensures
