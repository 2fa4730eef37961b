use Rattle.std.proofs.Common.{◌≡◌, ◌∙◌, IfOk, Option, Some, ap, subst, sym}
use Rattle.mpi_call.specs.declared.reply.Reply.{Reply}
use Rattle.picked_runs.specs.declared.turn.Pick.TheVariants.{Sender}
use Rattle.picked_runs.specs.Picks.{picked_choice}
use Rattle.run_model.specs.Choice.{choice}
use Rattle.mpi_machine.proofs.Moving.{keeps_now}
use Rattle.mpi_machine.proofs.Picking.{peek_offered, peek_picks}
use Rattle.mpi_machine.proofs.Probing.{probe_starts}
use Rattle.mpi_machine.proofs.Written.{after_written, written_answer}
use Rattle.mpi_machine.proofs.machine.Machine.peek_from.Goals as goal

pub peeked-reply-requires : goal.peeked-reply-requires
peeked-reply-requires g c =
    let keeps = keeps_now g.P.Program.next c.self.inside.picks.written _ c.args.self.now c.self.inside.requests c.self.view_is c.self.invariant in
    let here : choice c.args.self.now.events c.args.rank c.call_from-narrowed.result ≡ Some c.in-Some.at =
    sym (c.peek.ensures.knows c.args.self.now.ranks c.args.self.now.events keeps.knows) ∙ c.in-Some.is in
    probe_starts c.args.self.now.events c.args.rank c.call_from-narrowed.result c.in-Some.at here

pub picked-requires-clause-reply : goal.picked-requires-clause-reply
picked-requires-clause-reply g c =
    let keeps = keeps_now g.P.Program.next c.self.inside.picks.written _ c.args.self.now c.self.inside.requests c.self.view_is c.self.invariant in
    let found : picked_choice c.args.self.now.events c.args.rank c.args.call (Sender c.args.sender) ≡ Some c.in-Some.at =
    ap (choice c.args.self.now.events c.args.rank) (sym c.call_from-narrowed.ensures)
    ∙ (sym (c.peek.ensures.knows c.args.self.now.ranks c.args.self.now.events keeps.knows) ∙ c.in-Some.is) in
    peek_picks (g.P.Program.next c.args.self.now.program) c.args.self.now.ranks c.self.inside.picks.written c.args.self.now.events c.args.rank c.args.call c.args.sender c.in-Some.at
    c.pick_of_sender-pick.result c.peeked-reply.result keeps.made c.requires.asked c.requires.kind c.requires.bound found c.peeked-reply.ensures c.pick_of_sender-pick.ensures

pub returns : goal.returns
returns g c =
    let n = c.args.self.now.ranks in
    let events = c.args.self.now.events in
    let keeps = keeps_now g.P.Program.next c.self.inside.picks.written _ c.args.self.now c.self.inside.requests c.self.view_is c.self.invariant in
    let found : picked_choice events c.args.rank c.args.call (Sender c.args.sender) ≡ Some c.in-Some.at =
    ap (choice events c.args.rank) (sym c.call_from-narrowed.ensures) ∙ (sym (c.peek.ensures.knows n events keeps.knows) ∙ c.in-Some.is) in
    let offered = peek_offered n events c.args.rank c.args.call c.args.sender c.in-Some.at c.requires.kind c.requires.bound found in
    let written = c.pick_of_sender-pick.ensures offered in
    let F : Option Reply → Type 0 = λ made. IfOk c.picked.result (λ answer. answer ≡ made) in
    record {
      answer = subst F (written_answer n events c.args.rank c.args.call (Sender c.args.sender) c.pick_of_sender-pick.result offered written) c.picked.ensures.answer;
      after = after_written c.args.self.now c.picked.new.self c.args.rank c.args.call (Sender c.args.sender) c.pick_of_sender-pick.result c.picked.result written c.picked.ensures.after;
      err = c.picked.ensures.err;
    }
