use Rattle.std.proofs.Common.{◌≡◌, ◌∙◌, ap, inl, refl, subst, sym}
use Rattle.mpi_call.specs.declared.call.Call.TheVariants.{Take}
use Rattle.mpi_call.specs.declared.reply.Reply.{Reply}
use Rattle.mpi_call.specs.declared.reply.Reply.TheVariants.{Took as TookReply}
use Rattle.requests.specs.declared.requests.TakeAnswer.{TakeAnswer}
use Rattle.requests.specs.declared.requests.TakeAnswer.TheVariants.{Took}
use Rattle.requests.specs.Histories.{Answers, KnowsTaken, took_event}
use Rattle.requests.specs.States.{with_rows}
use Rattle.requests.specs.Taking.{AreHandedOut, answer_in, rows_after}
use Rattle.mpi_machine.specs.declared.answer.Answer.TheVariants.{Replied}
use Rattle.mpi_machine.specs.Turns.{MachineState, after_answer}
use Rattle.mpi_machine.proofs.Completing.{long_has, no_ok, take_sure, took_has, took_sure}
use Rattle.mpi_machine.proofs.Growing.{idle_event}
use Rattle.mpi_machine.proofs.Moving.{after_reply, idle_keeps, live_in, machine_with, turn_is}
use Rattle.run_model.specs.Views.{moment_at}
use Rattle.mpi_machine.proofs.machine.Machine.take.Goals as goal

pub returns-in_err-items-clause-sure : goal.returns-in_err-items-clause-sure
returns-in_err-items-clause-sure g c = λ t.
    let free = rw (← c.self.view_is) at c.requires.bound in
    let none = rw (← c.self.view_is) at t in
    let no = no_ok c.take.result c.in_err-items.field-0.0 c.in_err-items.was
    (c.take.ensures.sure (take_sure c.self.inside.course.ranks c.self.inside.course.events c.self.inside.requests c.args.rank c.args.starts c.args.mode c.self.invariant.knows free none)) in
    absurd (cc)

pub took-requires-clause-live : goal.took-requires-clause-live
took-requires-clause-live g c =
    let asked = rw (← c.self.view_is) at c.requires.asked in
    live_in (g.P.Program.next c.self.inside.program.now) c.self.inside.course.ranks c.self.inside.picks.written c.self.inside.course.events c.self.inside.course.kept c.self.inside.requests
    c.args.rank (Take c.args.starts c.args.mode)
    (record { ends = g.P.Program.ends_exactly c.self.inside.program.now; enters = g.P.Program.enters_in_form c.self.inside.program.now })
    c.self.invariant asked

pub invariant_of-self-in_err-reply-in-Took : goal.invariant_of-self-in_err-reply-in-Took
invariant_of-self-in_err-reply-in-Took g c =
    let H : TakeAnswer → Type 0 = λ a. c.take.new.self ≡ with_rows (rows_after c.self.inside.requests.table.rows c.args.rank c.args.starts a) c.self.inside.requests in
    let after = subst H c.in-Took.is c.in_ok-items.ensures.after in
    let answer : answer_in c.self.inside.requests.table c.args.rank c.args.starts c.args.mode ≡ Took c.in-Took.items = sym c.in_ok-items.ensures.answer ∙ c.in-Took.is in
    let handed : AreHandedOut c.self.inside.requests.table c.args.rank c.args.starts c.in-Took.items = inl (c.args.mode, answer) in
    rw (c.took.ensures.ranks, c.in_err-reply-in-Took.ensures.same_events, c.in_err-reply-in-Took.ensures.same_kept, c.in_err-reply-in-Took.ensures.back c.self.inside.requests handed after) c.self.invariant

pub invariant_of-self-in-Took : goal.invariant_of-self-in-Took
invariant_of-self-in-Took g c =
    let asked = rw (← c.self.view_is) at c.requires.asked in
    let free = rw (← c.self.view_is) at c.requires.bound in
    let F : TakeAnswer → Type 0 = λ a. Answers c.self.inside.course.ranks c.self.inside.course.events c.args.rank c.args.starts c.args.mode a in
    let answers = subst F c.in-Took.is (c.in_ok-items.ensures.knows c.self.inside.course.ranks c.self.inside.course.events c.self.invariant.knows) in
    let G : TakeAnswer → Type 0 = λ a. KnowsTaken (moment_at c.self.inside.course.ranks c.self.inside.course.events c.args.rank) c.args.starts c.args.mode a c.take.new.self in
    let knows = subst G c.in-Took.is (c.in_ok-items.ensures.knows_on c.self.inside.course.ranks c.self.inside.course.events c.self.invariant.knows) in
    let has = took_has (g.P.Program.next c.self.inside.program.now) c.self.inside.course.ranks c.self.inside.course.events c.self.inside.course.kept
    c.args.rank c.args.starts c.args.mode c.in-Took.items asked free answers in
    rw (c.took.ensures.ranks, c.in_ok-reply-in-Took.ensures.events, c.in_ok-reply-in-Took.ensures.kept, c.in_ok-reply-in-Took.ensures.known) (
    idle_keeps (g.P.Program.next c.self.inside.program.now) c.self.inside.course.ranks c.self.inside.picks.written c.self.inside.course.events c.self.inside.course.kept c.take.new.self
    c.args.rank (Take c.args.starts c.args.mode) (TookReply c.in-Took.items)
    (record { ends = g.P.Program.ends_exactly c.self.inside.program.now; enters = g.P.Program.enters_in_form c.self.inside.program.now })
    c.self.invariant.made c.self.invariant.kept_are has refl knows)

pub last-requires-clause-reply : goal.last-requires-clause-reply
last-requires-clause-reply g c =
    let asked = rw (← c.self.view_is) at c.requires.asked in
    let free = rw (← c.self.view_is) at c.requires.bound in
    let F : TakeAnswer → Type 0 = λ a. Answers c.self.inside.course.ranks c.self.inside.course.events c.args.rank c.args.starts c.args.mode a in
    let answers = subst F c.in-TooLong.is (c.in_ok-items.ensures.knows c.self.inside.course.ranks c.self.inside.course.events c.self.invariant.knows) in
    long_has (g.P.Program.next c.self.inside.program.now) c.self.inside.course.ranks c.self.inside.course.events c.self.inside.course.kept
    c.args.rank c.args.starts c.args.mode c.in-TooLong.start asked free answers

pub returns-in_ok-reply-in-Took-clause-answer : goal.returns-in_ok-reply-in-Took-clause-answer
returns-in_ok-reply-in-Took-clause-answer g c =
    let asked = rw (← c.self.view_is) at c.requires.asked in
    let free = rw (← c.self.view_is) at c.requires.bound in
    let F : TakeAnswer → Type 0 = λ a. Answers c.self.inside.course.ranks c.self.inside.course.events c.args.rank c.args.starts c.args.mode a in
    let answers = subst F c.in-Took.is (c.in_ok-items.ensures.knows c.self.inside.course.ranks c.self.inside.course.events c.self.invariant.knows) in
    let has = took_has (g.P.Program.next c.self.inside.program.now) c.self.inside.course.ranks c.self.inside.course.events c.self.inside.course.kept
    c.args.rank c.args.starts c.args.mode c.in-Took.items asked free answers in
    rw (← c.self.view_is) (
    ap (λ (r : Reply). Replied r) c.in_ok-reply-in-Took.ensures.reply
    ∙ sym (turn_is (g.P.Program.next c.self.inside.program.now) c.self.inside.course.ranks c.self.inside.course.events c.self.inside.course.kept
    c.args.rank (Take c.args.starts c.args.mode) (TookReply c.in-Took.items) has))

pub returns-in_ok-reply-in-Took-clause-after : goal.returns-in_ok-reply-in-Took-clause-after
returns-in_ok-reply-in-Took-clause-after g c =
    let asked = rw (← c.self.view_is) at c.requires.asked in
    let free = rw (← c.self.view_is) at c.requires.bound in
    let F : TakeAnswer → Type 0 = λ a. Answers c.self.inside.course.ranks c.self.inside.course.events c.args.rank c.args.starts c.args.mode a in
    let answers = subst F c.in-Took.is (c.in_ok-items.ensures.knows c.self.inside.course.ranks c.self.inside.course.events c.self.invariant.knows) in
    let has = took_has (g.P.Program.next c.self.inside.program.now) c.self.inside.course.ranks c.self.inside.course.events c.self.inside.course.kept
    c.args.rank c.args.starts c.args.mode c.in-Took.items asked free answers in
    let event_is = idle_event c.self.inside.course.ranks c.self.inside.course.events c.args.rank (Take c.args.starts c.args.mode) (TookReply c.in-Took.items) has.reply_is refl in
    let G : MachineState g.row.P.Denot → Type 0 = λ m.
    machine_with c.self.inside.program.now c.took.new.course.ranks c.took.new.course.events c.took.new.course.kept ≡ after_answer m c.args.rank (Take c.args.starts c.args.mode) (Replied c.in_ok-reply-in-Took.reply) in
    subst G c.self.view_is (
    rw (c.took.ensures.ranks, c.in_ok-reply-in-Took.ensures.events, c.in_ok-reply-in-Took.ensures.kept) (
    after_reply c.self.inside.program.now c.self.inside.course.ranks c.self.inside.course.events c.self.inside.course.kept
    c.args.rank (Take c.args.starts c.args.mode) c.in_ok-reply-in-Took.reply (took_event c.args.rank c.args.starts c.args.mode c.in-Took.items) event_is))

pub returns-in_err-reply-in-Took-clause-sure : goal.returns-in_err-reply-in-Took-clause-sure
returns-in_err-reply-in-Took-clause-sure g c = λ t.
    let free = rw (← c.self.view_is) at c.requires.bound in
    let none = rw (← c.self.view_is) at t in
    let answer : answer_in c.self.inside.requests.table c.args.rank c.args.starts c.args.mode ≡ Took c.in-Took.items = sym c.in_ok-items.ensures.answer ∙ c.in-Took.is in
    let no = took_sure c.self.inside.course.ranks c.self.inside.course.events c.self.inside.requests c.args.rank c.args.starts c.args.mode c.in-Took.items
    c.self.invariant.knows free answer none in
    absurd (cc)
