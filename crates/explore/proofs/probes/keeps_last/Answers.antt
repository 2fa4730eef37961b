use Rattle.std.proofs.Common.{◌≡◌, ◌∙◌, None, Option, Some, ap, sym}
use Rattle.mpi_call.specs.declared.call.Call.{Call}
use Rattle.mpi_call.specs.declared.reply.Reply.{Reply}
use Rattle.mpi_call.specs.declared.reply.Reply.TheVariants.{Peeked}
use Rattle.run_model.specs.declared.event.Event.{Event}
use Rattle.run_model.specs.Views.{view_of}
use Rattle.explore.specs.inside.Probes.{last_or}
use Rattle.explore.proofs.Probing.{by_bool, kept_apart, kept_by, kept_first, kept_other, not_kept}
use Rattle.explore.proofs.probes.keeps_last.Goals as goal

pub returns-in_default : goal.returns-in_default
returns-in_default c = kept_first c.args.before.now c.args.event.now (rw c.in_default.is at c.last_of.ensures)

pub returns-then-not-asks_same : goal.returns-then-not-asks_same
returns-then-not-asks_same c =
    let last : Event = c.in-Some.last.now in
    kept_apart c.args.before.now c.args.event.now last.call last.reply c.in-Some.ensures c.if-not-asks_same.ensures

pub returns-in_default-reply : goal.returns-in_default-reply
returns-in_default-reply c =
    let last : Event = c.in-Some.last.now in
    kept_other c.args.before.now c.args.event.now last.call last.reply c.in-Some.ensures c.in_default-reply.not-Peeked

pub returns-in-Peeked : goal.returns-in-Peeked
returns-in-Peeked c =
    let last : Event = c.in-Some.last.now in
    let found : Reply → Option (Call × Reply) = λ r. Some (last.call, r) in
    let seen : found (Peeked c.in-Peeked.source c.in-Peeked.start c.in-Peeked.tag c.in-Peeked.count) ≡ last_or None (view_of c.args.before.now c.args.event.now.rank) =
    sym (ap found c.in-Peeked.is) ∙ c.in-Some.ensures in
    by_bool c.is_mate.result _ _ _ _
    (kept_by c.args.before.now c.args.event.now last.call c.in-Peeked.source c.in-Peeked.start c.in-Peeked.tag c.in-Peeked.count seen)
    (not_kept c.args.before.now c.args.event.now last.call c.in-Peeked.source c.in-Peeked.start c.in-Peeked.tag c.in-Peeked.count seen c.if-not-asks_same.ensures c.requires)
    c.is_mate.ensures
