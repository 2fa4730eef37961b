use Rattle.std.proofs.Common.{◌≡◌, ◌∙◌, List, None, length, ℕ}
use Rattle.run_model.specs.declared.event.Event.{Event}
use Rattle.mpi_machine.proofs.Growing.{event_with}
use Rattle.mpi_machine.proofs.Moving.{idle_with, live_in}
use Rattle.mpi_machine.proofs.Picking.{idle_picked, picked_keeps}
use Rattle.mpi_machine.proofs.machine.Machine.picked.Goals as goal

pub append-requires-clause-live : goal.append-requires-clause-live
append-requires-clause-live g c =
    let has = rw (← c.self.view_is) at c.requires.reply in
    rw c.prepare_pick.ensures.events (
    live_in (g.P.Program.next c.self.inside.program.now) c.self.inside.course.ranks c.self.inside.picks.written c.self.inside.course.events c.self.inside.course.kept c.self.inside.requests
    c.args.rank c.args.call
    (record { ends = g.P.Program.ends_exactly c.self.inside.program.now; enters = g.P.Program.enters_in_form c.self.inside.program.now })
    c.self.invariant has.asked)

pub invariant_of-self-2 : goal.invariant_of-self-2
invariant_of-self-2 g c =
    let next = g.P.Program.next c.self.inside.program.now in
    let n : ℕ = c.self.inside.course.ranks in
    let events : List Event = c.self.inside.course.events in
    let event : Event = event_with c.args.rank c.args.call c.args.reply None in
    let has = rw (← c.self.view_is) at c.requires.reply in
    let idle = idle_with c.args.rank c.args.call c.args.reply c.requires.no_start c.requires.none_taken in
    let at : c.in_ok-at.at ≡ length events = c.in_ok-at.ensures.at.0 in
    rw (c.append.ensures.ranks ∙ c.prepare_pick.ensures.ranks, c.append.ensures.events, c.append.ensures.kept, c.prepare_pick.ensures.events, c.prepare_pick.ensures.kept, c.note.ensures, c.prepare_pick.ensures.picks, at) (
    picked_keeps next n c.self.inside.picks.written events c.self.inside.course.kept c.self.inside.requests
    c.args.rank c.args.call c.args.pick c.args.reply event
    (record { ends = g.P.Program.ends_exactly c.self.inside.program.now; enters = g.P.Program.enters_in_form c.self.inside.program.now })
    c.self.invariant.made c.self.invariant.kept_are has (idle_picked next n events c.args.rank c.args.call c.args.pick c.args.reply has c.requires.no_start)
    (c.knows_on.ensures.idle n events event c.self.invariant.knows idle))
