use Rattle.std.proofs.Common.{◌≡◌, ◌∙◌, List, ap, length, subst, sym}
use Rattle.mpi_call.specs.declared.call.Halt.TheVariants.{Mismatched}
use Rattle.mpi_call.specs.declared.reply.Reply.TheVariants.{Done, Stopped}
use Rattle.run_model.specs.declared.event.Event.{Event}
use Rattle.requests.specs.declared.requests.Started.{Started}
use Rattle.requests.specs.Histories.{KnowsStart, KnowsStarted}
use Rattle.mpi_machine.proofs.Answering.{has_reply, mismatch_answered, start_answered}
use Rattle.mpi_machine.proofs.Entering.{asked_form, may_join}
use Rattle.mpi_machine.proofs.Growing.{event_with}
use Rattle.mpi_machine.proofs.Moving.{after_reply, live_in, start_event, start_keeps, turn_is}
use Rattle.run_model.specs.Views.{moment_at}
use Rattle.mpi_machine.proofs.machine.Machine.start.Goals as goal

pub start-requires-clause-position : goal.start-requires-clause-position
start-requires-clause-position g c =
    rw (c.len-at.ensures, c.history.ensures, c.reserve.ensures.events) (
    c.knows_on.ensures.above c.self.inside.course.ranks c.self.inside.course.events c.self.invariant.knows)

pub start-requires-clause-enter : goal.start-requires-clause-enter
start-requires-clause-enter g c = λ enter.
    let asked = rw (← c.self.view_is) at c.requires.asked in
    let form = asked_form (g.P.Program.next c.self.inside.program.now) c.self.inside.course.ranks c.self.inside.course.events c.args.rank c.args.call
    (record { ends = g.P.Program.ends_exactly c.self.inside.program.now; enters = g.P.Program.enters_in_form c.self.inside.program.now })
    c.self.invariant.made.run asked in
    let may = may_join (g.P.Program.next c.self.inside.program.now) c.self.inside.course.ranks c.self.inside.course.events c.args.rank c.args.call
    (record { ends = g.P.Program.ends_exactly c.self.inside.program.now; enters = g.P.Program.enters_in_form c.self.inside.program.now })
    c.self.invariant.made.run asked.below enter form in
    c.knows_on.ensures.enters c.self.inside.course.ranks c.args.rank c.self.inside.course.events c.args.call may.members c.self.invariant.knows may.known may.has_me may.form

pub append-requires-clause-live : goal.append-requires-clause-live
append-requires-clause-live g c =
    let asked = rw (← c.self.view_is) at c.requires.asked in
    rw c.reserve.ensures.events (
    live_in (g.P.Program.next c.self.inside.program.now) c.self.inside.course.ranks c.self.inside.picks.written c.self.inside.course.events c.self.inside.course.kept c.self.inside.requests
    c.args.rank c.args.call
    (record { ends = g.P.Program.ends_exactly c.self.inside.program.now; enters = g.P.Program.enters_in_form c.self.inside.program.now })
    c.self.invariant asked)

pub invariant_of-self-in-Made : goal.invariant_of-self-in-Made
invariant_of-self-in-Made g c =
    let asked = rw (← c.self.view_is) at c.requires.asked in
    let free = rw (← c.self.view_is) at c.requires.bound in
    let form = asked_form (g.P.Program.next c.self.inside.program.now) c.self.inside.course.ranks c.self.inside.course.events c.args.rank c.args.call
    (record { ends = g.P.Program.ends_exactly c.self.inside.program.now; enters = g.P.Program.enters_in_form c.self.inside.program.now })
    c.self.invariant.made.run asked in
    let at : c.len-at.result ≡ length c.self.inside.course.events =
    c.len-at.ensures ∙ ap (λ (l : List Event). length l) (c.history.ensures ∙ c.reserve.ensures.events) in
    let F : Started → Type 0 = λ s. KnowsStarted c.self.inside.course.ranks c.self.inside.course.events c.args.rank c.args.call s c.start.new.self in
    let made : KnowsStart (moment_at c.self.inside.course.ranks c.self.inside.course.events c.args.rank) c.args.call c.in-Made.start c.in-Made.mate c.start.new.self =
    subst F c.in-Made.is (c.in_ok-mate.ensures.knows c.self.inside.course.ranks c.self.inside.course.events c.self.invariant.knows at form) in
    let has = has_reply (g.P.Program.next c.self.inside.program.now) c.self.inside.course.ranks c.self.inside.course.events c.self.inside.course.kept
    c.args.rank c.args.call Done asked (start_answered c.self.inside.course.ranks c.self.inside.course.events c.args.rank c.args.call free c.requires.kind made.agrees) in
    rw (c.append.ensures.ranks ∙ c.reserve.ensures.ranks, c.append.ensures.events, c.append.ensures.kept, c.reserve.ensures.events, c.reserve.ensures.kept) (
    start_keeps (g.P.Program.next c.self.inside.program.now) c.self.inside.course.ranks c.self.inside.picks.written c.self.inside.course.events c.self.inside.course.kept c.start.new.self
    c.args.rank c.args.call c.in-Made.start c.in-Made.mate
    (record { ends = g.P.Program.ends_exactly c.self.inside.program.now; enters = g.P.Program.enters_in_form c.self.inside.program.now })
    c.self.invariant.made c.self.invariant.kept_are has c.requires.kind made)

pub returns-in-Made-clause-after : goal.returns-in-Made-clause-after
returns-in-Made-clause-after g c =
    let asked = rw (← c.self.view_is) at c.requires.asked in
    let free = rw (← c.self.view_is) at c.requires.bound in
    let form = asked_form (g.P.Program.next c.self.inside.program.now) c.self.inside.course.ranks c.self.inside.course.events c.args.rank c.args.call
    (record { ends = g.P.Program.ends_exactly c.self.inside.program.now; enters = g.P.Program.enters_in_form c.self.inside.program.now })
    c.self.invariant.made.run asked in
    let at : c.len-at.result ≡ length c.self.inside.course.events =
    c.len-at.ensures ∙ ap (λ (l : List Event). length l) (c.history.ensures ∙ c.reserve.ensures.events) in
    let F : Started → Type 0 = λ s. KnowsStarted c.self.inside.course.ranks c.self.inside.course.events c.args.rank c.args.call s c.start.new.self in
    let made : KnowsStart (moment_at c.self.inside.course.ranks c.self.inside.course.events c.args.rank) c.args.call c.in-Made.start c.in-Made.mate c.start.new.self =
    subst F c.in-Made.is (c.in_ok-mate.ensures.knows c.self.inside.course.ranks c.self.inside.course.events c.self.invariant.knows at form) in
    let is = (start_answered c.self.inside.course.ranks c.self.inside.course.events c.args.rank c.args.call free c.requires.kind made.agrees).reply_is in
    rw (← c.self.view_is, c.append.ensures.ranks ∙ c.reserve.ensures.ranks, c.append.ensures.events, c.append.ensures.kept, c.reserve.ensures.events, c.reserve.ensures.kept) (
    after_reply c.self.inside.program.now c.self.inside.course.ranks c.self.inside.course.events c.self.inside.course.kept c.args.rank c.args.call Done
    (event_with c.args.rank c.args.call Done c.in-Made.mate)
    (start_event c.self.inside.course.ranks c.self.inside.course.events c.args.rank c.args.call c.in-Made.mate is c.requires.kind made.choice_is))

pub returns-in-Made-clause-answer : goal.returns-in-Made-clause-answer
returns-in-Made-clause-answer g c =
    let asked = rw (← c.self.view_is) at c.requires.asked in
    let free = rw (← c.self.view_is) at c.requires.bound in
    let form = asked_form (g.P.Program.next c.self.inside.program.now) c.self.inside.course.ranks c.self.inside.course.events c.args.rank c.args.call
    (record { ends = g.P.Program.ends_exactly c.self.inside.program.now; enters = g.P.Program.enters_in_form c.self.inside.program.now })
    c.self.invariant.made.run asked in
    let at : c.len-at.result ≡ length c.self.inside.course.events =
    c.len-at.ensures ∙ ap (λ (l : List Event). length l) (c.history.ensures ∙ c.reserve.ensures.events) in
    let F : Started → Type 0 = λ s. KnowsStarted c.self.inside.course.ranks c.self.inside.course.events c.args.rank c.args.call s c.start.new.self in
    let made : KnowsStart (moment_at c.self.inside.course.ranks c.self.inside.course.events c.args.rank) c.args.call c.in-Made.start c.in-Made.mate c.start.new.self =
    subst F c.in-Made.is (c.in_ok-mate.ensures.knows c.self.inside.course.ranks c.self.inside.course.events c.self.invariant.knows at form) in
    let has = has_reply (g.P.Program.next c.self.inside.program.now) c.self.inside.course.ranks c.self.inside.course.events c.self.inside.course.kept
    c.args.rank c.args.call Done asked (start_answered c.self.inside.course.ranks c.self.inside.course.events c.args.rank c.args.call free c.requires.kind made.agrees) in
    rw (← c.self.view_is) (
    sym (
    turn_is (g.P.Program.next c.self.inside.program.now) c.self.inside.course.ranks c.self.inside.course.events c.self.inside.course.kept
    c.args.rank c.args.call Done has))

pub last-requires-clause-reply : goal.last-requires-clause-reply
last-requires-clause-reply g c =
    let asked = rw (← c.self.view_is) at c.requires.asked in
    let free = rw (← c.self.view_is) at c.requires.bound in
    let form = asked_form (g.P.Program.next c.self.inside.program.now) c.self.inside.course.ranks c.self.inside.course.events c.args.rank c.args.call
    (record { ends = g.P.Program.ends_exactly c.self.inside.program.now; enters = g.P.Program.enters_in_form c.self.inside.program.now })
    c.self.invariant.made.run asked in
    let at : c.len-at.result ≡ length c.self.inside.course.events =
    c.len-at.ensures ∙ ap (λ (l : List Event). length l) (c.history.ensures ∙ c.reserve.ensures.events) in
    let F : Started → Type 0 = λ s. KnowsStarted c.self.inside.course.ranks c.self.inside.course.events c.args.rank c.args.call s c.start.new.self in
    let other = subst F c.in-Disagrees.is (c.in_ok-mate.ensures.knows c.self.inside.course.ranks c.self.inside.course.events c.self.invariant.knows at form) in
    rw (c.reserve.ensures.ranks, c.reserve.ensures.events, c.reserve.ensures.kept) (
    has_reply (g.P.Program.next c.self.inside.program.now) c.self.inside.course.ranks c.self.inside.course.events c.self.inside.course.kept
    c.args.rank c.args.call (Stopped (Mismatched c.args.rank)) asked
    (mismatch_answered c.self.inside.course.ranks c.self.inside.course.events c.args.rank c.args.call free other.0 other.1))
