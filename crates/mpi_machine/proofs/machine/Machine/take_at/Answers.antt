use Rattle.std.proofs.Common.{◌≡◌, ◌∙◌, List, None, Option, Some, ap, inr, length, refl, subst, sym, ℕ}
use Rattle.mpi_call.specs.declared.call.Call.{Call}
use Rattle.mpi_call.specs.declared.call.Call.TheVariants.{Take}
use Rattle.mpi_call.specs.declared.call.Halt.TheVariants.{Truncated}
use Rattle.mpi_call.specs.declared.reply.Reply.{Reply}
use Rattle.mpi_call.specs.declared.reply.Reply.TheVariants.{Stopped, Took as TookReply}
use Rattle.run_model.specs.declared.event.Event.{Event}
use Rattle.requests.specs.declared.requests.TakeAnswer.{TakeAnswer}
use Rattle.requests.specs.declared.requests.TakeAnswer.TheVariants.{Took, TooLong}
use Rattle.requests.specs.Histories.{AnswersAt, IsTakenAt, KnowsTakenAt, took_event}
use Rattle.requests.specs.States.{with_rows}
use Rattle.requests.specs.Taking.{AreHandedOut, answer_at, rows_at}
use Rattle.picked_runs.specs.declared.turn.Pick.{Pick}
use Rattle.picked_runs.specs.declared.turn.Pick.TheVariants.{Index}
use Rattle.mpi_machine.specs.Picking.{after_pick}
use Rattle.mpi_machine.specs.Turns.{MachineState}
use Rattle.mpi_machine.proofs.Growing.{event_with}
use Rattle.mpi_machine.proofs.Indexing.{at_offered, at_picks, at_reply, no_other}
use Rattle.mpi_machine.proofs.Moving.{last_idle, live_in, machine_with}
use Rattle.mpi_machine.proofs.Picking.{after_event, idle_picked, picked_idle, picked_is, picked_keeps}
use Rattle.mpi_machine.proofs.machine.Machine.take_at.Goals as goal

pub took-requires-clause-live : goal.took-requires-clause-live
took-requires-clause-live g c =
    let asked = rw (← c.self.view_is) at c.requires.asked in
    live_in (g.P.Program.next c.self.inside.program.now) c.self.inside.course.ranks c.self.inside.picks.written c.self.inside.course.events c.self.inside.course.kept c.self.inside.requests
    c.args.rank (Take c.args.starts c.args.mode)
    (record { ends = g.P.Program.ends_exactly c.self.inside.program.now; enters = g.P.Program.enters_in_form c.self.inside.program.now })
    c.self.invariant asked

pub append-requires-clause-live : goal.append-requires-clause-live
append-requires-clause-live g c =
    let asked = rw (← c.self.view_is) at c.requires.asked in
    live_in (g.P.Program.next c.self.inside.program.now) c.self.inside.course.ranks c.self.inside.picks.written c.self.inside.course.events c.self.inside.course.kept c.self.inside.requests
    c.args.rank (Take c.args.starts c.args.mode)
    (record { ends = g.P.Program.ends_exactly c.self.inside.program.now; enters = g.P.Program.enters_in_form c.self.inside.program.now })
    c.self.invariant asked

pub invariant_of-self-in_err-reply-in-Took : goal.invariant_of-self-in_err-reply-in-Took
invariant_of-self-in_err-reply-in-Took g c =
    let before = c.self.inside.requests in
    let is : c.in_ok-answer.field-0 ≡ Some (Took c.in-Took.items) = c.in-Some.is ∙ ap (λ (a : TakeAnswer). Some a) c.in-Took.is in
    let H : Option TakeAnswer → Type 0 = λ a. c.take_at.new.self ≡ with_rows (rows_at before.table.rows c.args.rank c.args.starts a) before in
    let after = subst H is c.in_ok-answer.ensures.after in
    let answer : answer_at before.table c.args.rank c.args.starts c.args.index ≡ Some (Took c.in-Took.items) = sym c.in_ok-answer.ensures.answer ∙ is in
    let handed : AreHandedOut before.table c.args.rank c.args.starts c.in-Took.items = inr (c.args.index, answer) in
    rw (c.took.ensures.ranks, c.in_err-reply-in-Took.ensures.same_events, c.in_err-reply-in-Took.ensures.same_kept, c.in_err-reply-in-Took.ensures.back before handed after, c.reserve.ensures.picks) c.self.invariant

pub invariant_of-self-in-Took : goal.invariant_of-self-in-Took
invariant_of-self-in-Took g c =
    let next = g.P.Program.next c.self.inside.program.now in
    let n : ℕ = c.self.inside.course.ranks in
    let events : List Event = c.self.inside.course.events in
    let call : Call = Take c.args.starts c.args.mode in
    let asked = rw (← c.self.view_is) at c.requires.asked in
    let free = rw (← c.self.view_is) at c.requires.bound in
    let is : c.in_ok-answer.field-0 ≡ Some (Took c.in-Took.items) = c.in-Some.is ∙ ap (λ (a : TakeAnswer). Some a) c.in-Took.is in
    let F : Option TakeAnswer → Type 0 = λ a. AnswersAt n events c.args.rank c.args.starts c.args.index a in
    let taken : IsTakenAt n events c.args.rank c.args.starts c.args.index (TookReply c.in-Took.items) = subst F is (c.in_ok-answer.ensures.knows n events c.self.invariant.knows) in
    let written = c.pick_of_index-pick.result in
    let picks = rw (← c.self.view_is) at c.pick_of_index-pick.ensures in
    let has = at_picks next n c.self.inside.picks.written events c.args.rank c.args.starts c.args.mode c.args.index written (TookReply c.in-Took.items) c.self.invariant.made asked free c.requires.one taken (picks c.args.mode) in
    let at : c.len-at.result ≡ length events = c.len-at.ensures ∙ ap (λ (l : List Event). length l) c.history.ensures in
    let G : Option TakeAnswer → Type 0 = λ a. KnowsTakenAt n events c.args.rank c.args.starts a c.take_at.new.self in
    let knows = subst G is (c.in_ok-answer.ensures.knows_on n events c.self.invariant.knows) c.args.mode in
    rw (c.took.ensures.ranks, c.in_ok-reply-in-Took.ensures.events, c.in_ok-reply-in-Took.ensures.kept, c.in_ok-reply-in-Took.ensures.known, c.note.ensures, c.reserve.ensures.picks, at) (
    picked_keeps next n c.self.inside.picks.written events c.self.inside.course.kept c.take_at.new.self
    c.args.rank call written (TookReply c.in-Took.items) (took_event c.args.rank c.args.starts c.args.mode c.in-Took.items)
    (record { ends = g.P.Program.ends_exactly c.self.inside.program.now; enters = g.P.Program.enters_in_form c.self.inside.program.now })
    c.self.invariant.made c.self.invariant.kept_are has (idle_picked next n events c.args.rank call written (TookReply c.in-Took.items) has refl) knows)

pub invariant_of-self-in-TooLong : goal.invariant_of-self-in-TooLong
invariant_of-self-in-TooLong g c =
    let next = g.P.Program.next c.self.inside.program.now in
    let n : ℕ = c.self.inside.course.ranks in
    let events : List Event = c.self.inside.course.events in
    let call : Call = Take c.args.starts c.args.mode in
    let asked = rw (← c.self.view_is) at c.requires.asked in
    let free = rw (← c.self.view_is) at c.requires.bound in
    let is : c.in_ok-answer.field-0 ≡ Some (TooLong c.in-TooLong.start) = c.in-Some.is ∙ ap (λ (a : TakeAnswer). Some a) c.in-TooLong.is in
    let F : Option TakeAnswer → Type 0 = λ a. AnswersAt n events c.args.rank c.args.starts c.args.index a in
    let taken : IsTakenAt n events c.args.rank c.args.starts c.args.index (Stopped (Truncated c.args.rank c.in-TooLong.start)) = subst F is (c.in_ok-answer.ensures.knows n events c.self.invariant.knows) in
    let written = c.pick_of_index-pick.result in
    let picks = rw (← c.self.view_is) at c.pick_of_index-pick.ensures in
    let has = at_picks next n c.self.inside.picks.written events c.args.rank c.args.starts c.args.mode c.args.index written (Stopped (Truncated c.args.rank c.in-TooLong.start)) c.self.invariant.made asked free c.requires.one taken (picks c.args.mode) in
    let at : c.len-at.result ≡ length events = c.len-at.ensures ∙ ap (λ (l : List Event). length l) c.history.ensures in
    let G : Option TakeAnswer → Type 0 = λ a. KnowsTakenAt n events c.args.rank c.args.starts a c.take_at.new.self in
    let knows = subst G is (c.in_ok-answer.ensures.knows_on n events c.self.invariant.knows) c.args.mode in
    let reply : Reply = Stopped (Truncated c.args.rank c.in-TooLong.start) in
    let event : Event = event_with c.args.rank call reply None in
    let longer = c.knows_on.ensures.idle n events event knows (last_idle c.args.rank call (Some (Truncated c.args.rank c.in-TooLong.start)) refl) in
    rw (c.append.ensures.ranks, c.append.ensures.events, c.append.ensures.kept, c.note-in-TooLong.ensures, c.reserve.ensures.picks, at) (
    picked_keeps next n c.self.inside.picks.written events c.self.inside.course.kept c.take_at.new.self
    c.args.rank call written reply event
    (record { ends = g.P.Program.ends_exactly c.self.inside.program.now; enters = g.P.Program.enters_in_form c.self.inside.program.now })
    c.self.invariant.made c.self.invariant.kept_are has (idle_picked next n events c.args.rank call written reply has refl) longer)

pub unreachable-requires : goal.unreachable-requires
unreachable-requires g c =
    let n : ℕ = c.self.inside.course.ranks in
    let events : List Event = c.self.inside.course.events in
    let F : Option TakeAnswer → Type 0 = λ a. AnswersAt n events c.args.rank c.args.starts c.args.index a in
    no_other n events c.args.rank c.args.starts c.args.index c.in-Some.answer
    (subst F c.in-Some.is (c.in_ok-answer.ensures.knows n events c.self.invariant.knows)) c.in_default-answer.not-Took c.in_default-answer.not-TooLong

pub returns-in_ok-reply-in-Took : goal.returns-in_ok-reply-in-Took
returns-in_ok-reply-in-Took g c =
    let n : ℕ = c.self.inside.course.ranks in
    let events : List Event = c.self.inside.course.events in
    let call : Call = Take c.args.starts c.args.mode in
    let pick : Pick = Index c.args.index in
    let free = rw (← c.self.view_is) at c.requires.bound in
    let is : c.in_ok-answer.field-0 ≡ Some (Took c.in-Took.items) = c.in-Some.is ∙ ap (λ (a : TakeAnswer). Some a) c.in-Took.is in
    let F : Option TakeAnswer → Type 0 = λ a. AnswersAt n events c.args.rank c.args.starts c.args.index a in
    let taken : IsTakenAt n events c.args.rank c.args.starts c.args.index (TookReply c.in-Took.items) = subst F is (c.in_ok-answer.ensures.knows n events c.self.invariant.knows) in
    let offered = at_offered n events c.args.rank c.args.starts c.args.mode c.args.index (TookReply c.in-Took.items) free c.requires.one taken in
    let reply_is = at_reply n events c.args.rank c.args.starts c.args.mode c.args.index (TookReply c.in-Took.items) free c.requires.one taken in
    let G : MachineState g.row.P.Denot → Type 0 = λ m.
    machine_with c.self.inside.program.now c.took.new.course.ranks c.took.new.course.events c.took.new.course.kept ≡ after_pick m c.args.rank call pick (Some c.in_ok-reply-in-Took.reply) in
    record {
      answer = rw (← c.self.view_is) (ap (λ (r : Reply). Some r) c.in_ok-reply-in-Took.ensures.reply ∙ picked_is n events c.args.rank call pick (TookReply c.in-Took.items) offered reply_is);
      after = subst G c.self.view_is (
          rw (c.took.ensures.ranks, c.in_ok-reply-in-Took.ensures.events, c.in_ok-reply-in-Took.ensures.kept) (
          after_event c.self.inside.program.now n events c.self.inside.course.kept c.args.rank call pick c.in_ok-reply-in-Took.reply
          (took_event c.args.rank c.args.starts c.args.mode c.in-Took.items) (picked_idle n events c.args.rank call pick (TookReply c.in-Took.items) reply_is refl)));
      err = tt;
    }

pub returns-in-TooLong : goal.returns-in-TooLong
returns-in-TooLong g c =
    let n : ℕ = c.self.inside.course.ranks in
    let events : List Event = c.self.inside.course.events in
    let call : Call = Take c.args.starts c.args.mode in
    let pick : Pick = Index c.args.index in
    let reply : Reply = Stopped (Truncated c.args.rank c.in-TooLong.start) in
    let free = rw (← c.self.view_is) at c.requires.bound in
    let is : c.in_ok-answer.field-0 ≡ Some (TooLong c.in-TooLong.start) = c.in-Some.is ∙ ap (λ (a : TakeAnswer). Some a) c.in-TooLong.is in
    let F : Option TakeAnswer → Type 0 = λ a. AnswersAt n events c.args.rank c.args.starts c.args.index a in
    let taken : IsTakenAt n events c.args.rank c.args.starts c.args.index reply = subst F is (c.in_ok-answer.ensures.knows n events c.self.invariant.knows) in
    let offered = at_offered n events c.args.rank c.args.starts c.args.mode c.args.index reply free c.requires.one taken in
    let reply_is = at_reply n events c.args.rank c.args.starts c.args.mode c.args.index reply free c.requires.one taken in
    let G : MachineState g.row.P.Denot → Type 0 = λ m.
    machine_with c.self.inside.program.now c.append.new.self.ranks c.append.new.self.events c.append.new.self.kept ≡ after_pick m c.args.rank call pick (Some reply) in
    record {
      answer = rw (← c.self.view_is) (picked_is n events c.args.rank call pick reply offered reply_is);
      after = subst G c.self.view_is (
          rw (c.append.ensures.ranks, c.append.ensures.events, c.append.ensures.kept) (
          after_event c.self.inside.program.now n events c.self.inside.course.kept c.args.rank call pick reply
          (event_with c.args.rank call reply None) (picked_idle n events c.args.rank call pick reply reply_is refl)));
      err = tt;
    }
