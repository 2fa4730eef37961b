use Rattle.std.proofs.Common.{◌≡◌, ◌∙◌, ◌++◌, ◌∷◌, [], Some, ap, refl, subst, sym}
use Rattle.mpi_call.specs.declared.call.Call.{Call}
use Rattle.run_model.specs.declared.program.Want.{Want}
use Rattle.run_model.specs.Chosen.{chosen_event, chosen_reply}
use Rattle.run_model.specs.Program.{Says}
use Rattle.mpi_machine.specs.Turns.{after_answer, is_answered}
use Rattle.srr_record.proofs.Running.{answered_with, given}
use Rattle.explore.proofs.Answering.{first_answered}
use Rattle.explore.proofs.Begun.{asked_call}
use Rattle.explore.proofs.quiet.make.Goals as goal

pub returns-in_ok-give-in-Replied-clause-run : goal.returns-in_ok-give-in-Replied-clause-run
returns-in_ok-give-in-Replied-clause-run g c =
    let machine = c.args.machine.now in
    let event = chosen_event machine.ranks machine.events c.args.rank c.in-Ask.call in
    let events_is : c.attempt.new.self.events ≡ machine.events ++ event ∷ [] = rw (c.in_ok-reply.ensures.after, c.in-Replied.is) (refl {a = machine.events ++ event ∷ []}) in
    let reply_is = answered_with (is_answered (g.P.Program.next machine.program) machine.ranks machine.events machine.kept c.args.rank c.in-Ask.call)
    (chosen_reply machine.ranks machine.events c.args.rank c.in-Ask.call) c.in-Replied.reply _ c.in_ok-reply.ensures.answer c.in-Replied.is in
    rw events_is (given machine.program machine.ranks c.args.rank machine.events event c.in-Replied.reply _ _ _ c.requires.run c.in_ok-want.ensures.ok c.in_ok-give-in-Replied.ensures.ok (refl {a = c.args.rank}) reply_is)

pub returns-in_ok-give-in-Replied-clause-made : goal.returns-in_ok-give-in-Replied-clause-made
returns-in_ok-give-in-Replied-clause-made g c =
    let machine = c.args.machine.now in
    let call : Call = c.in-Ask.call in
    let stands = g.R.RankRun.standing c.args.run.now in
    let S : Want → Type 0 = λ w. Says w (g.P.Program.next stands.program stands.ranks stands.rank stands.replies) in
    record {
      call = call;
      kind = sym c.is_quiet.ensures ∙ c.if-not-is_quiet.false;
      asked = asked_call g.P.Program.next machine.program machine.ranks c.args.rank machine.events stands (Some call) c.requires.run (subst S c.in-Ask.is c.in_ok-want.ensures.says);
      answered = first_answered (g.P.Program.next machine.program) machine c.attempt.new.self c.args.rank call c.in-Replied.reply (sym c.in-Replied.is ∙ c.in_ok-reply.ensures.answer)
          (c.in_ok-reply.ensures.after ∙ ap (after_answer machine c.args.rank call) c.in-Replied.is);
    }
