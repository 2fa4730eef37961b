use Rattle.std.proofs.Common.{◌≡◌, ◌∙◌, List, Option, Some, length, subst, ℕ}
use Rattle.mpi_call.specs.declared.reply.Reply.TheVariants.{Done}
use Rattle.run_model.specs.declared.event.Event.{Event}
use Rattle.requests.specs.Histories.{KnowsPosted}
use Rattle.mpi_machine.proofs.Growing.{event_with}
use Rattle.mpi_machine.proofs.Moving.{live_in}
use Rattle.mpi_machine.proofs.Picking.{picked_keeps, post_event, post_picks}
use Rattle.run_model.specs.Views.{moment_at}
use Rattle.mpi_machine.proofs.machine.Machine.post_from.Goals as goal

pub append-requires-clause-live : goal.append-requires-clause-live
append-requires-clause-live g c =
    let asked = rw (← c.self.view_is) at c.requires.asked in
    rw c.prepare_pick.ensures.events (
    live_in (g.P.Program.next c.self.inside.program.now) c.self.inside.course.ranks c.self.inside.picks.written c.self.inside.course.events c.self.inside.course.kept c.self.inside.requests
    c.args.rank c.args.call
    (record { ends = g.P.Program.ends_exactly c.self.inside.program.now; enters = g.P.Program.enters_in_form c.self.inside.program.now })
    c.self.invariant asked)

pub invariant_of-self-2 : goal.invariant_of-self-2
invariant_of-self-2 g c =
    let next = g.P.Program.next c.self.inside.program.now in
    let n : ℕ = c.self.inside.course.ranks in
    let events : List Event = c.self.inside.course.events in
    let asked = rw (← c.self.view_is) at c.requires.asked in
    let free = rw (← c.self.view_is) at c.requires.bound in
    let at : c.in_ok-at.at ≡ length events = c.in_ok-at.ensures.at.0 in
    let F : Option ℕ → Type 0 = λ m. KnowsPosted (moment_at n events c.args.rank) c.args.call c.args.sender m c.post_from.new.self in
    let posted : F (Some c.in-Some.mate) = subst F c.in-Some.is (c.in_ok-mate.ensures.knows n events c.self.invariant.knows at) in
    let written = c.pick_of_sender-pick.result in
    let is = rw (← c.self.view_is) at c.pick_of_sender-pick.ensures in
    let has = post_picks next n c.self.inside.picks.written events c.args.rank c.args.call c.args.sender c.in-Some.mate written c.self.invariant.made asked c.requires.kind free posted.0 is in
    rw (c.append.ensures.ranks ∙ c.prepare_pick.ensures.ranks, c.append.ensures.events, c.append.ensures.kept, c.prepare_pick.ensures.events, c.prepare_pick.ensures.kept, c.note.ensures, c.prepare_pick.ensures.picks, at) (
    picked_keeps next n c.self.inside.picks.written events c.self.inside.course.kept c.post_from.new.self
    c.args.rank c.args.call written Done (event_with c.args.rank c.args.call Done (Some c.in-Some.mate))
    (record { ends = g.P.Program.ends_exactly c.self.inside.program.now; enters = g.P.Program.enters_in_form c.self.inside.program.now })
    c.self.invariant.made c.self.invariant.kept_are has (post_event n events c.args.rank c.args.call c.args.sender c.in-Some.mate written c.requires.kind free posted.0 is) posted.1)
