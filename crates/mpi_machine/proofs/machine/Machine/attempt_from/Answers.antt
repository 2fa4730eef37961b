use Rattle.std.proofs.Common.{◌∙◌, ap, subst}
use Rattle.picked_runs.specs.declared.turn.Pick.TheVariants.{Sender}
use Rattle.run_model.specs.Run.{IsPromptRun}
use Rattle.mpi_machine.specs.Turns.{MachineState}
use Rattle.mpi_machine.proofs.Picking.{picked_given, picked_stands, same_pick_program, sender_apart}
use Rattle.mpi_machine.proofs.machine.Machine.attempt_from.Goals as goal

pub returns-clause-shape : goal.returns-clause-shape
returns-clause-shape g c = λ reply replied.
    let F : g.row.P.Denot → Type 0 = λ p. IsPromptRun (g.P.Program.next p) c.from.new.self.ranks c.from.new.self.events in
    let later = subst F
    (ap (λ (m : MachineState g.row.P.Denot). m.program) c.in_ok-answer.ensures.after ∙ same_pick_program c.args.self.now c.args.rank c.args.call (Sender c.args.sender) c.in_ok-answer.answer)
    c.is_run-2.ensures.run in
    picked_given (g.P.Program.next c.args.self.now.program) c.args.self.now c.from.new.self c.args.rank c.args.call (Sender c.args.sender) c.in_ok-answer.answer reply
    (record { ends = g.P.Program.ends_exactly c.args.self.now.program; enters = g.P.Program.enters_in_form c.args.self.now.program })
    c.is_run.ensures.run later c.in_ok-answer.ensures.answer c.in_ok-answer.ensures.after replied

pub returns-clause-serial : goal.returns-clause-serial
returns-clause-serial g c = λ stage stands.
    picked_stands (g.P.Program.next c.args.self.now.program) c.args.self.now c.from.new.self c.args.rank c.args.call (Sender c.args.sender) c.in_ok-answer.answer stage
    (sender_apart c.args.sender) c.is_run.ensures.kept c.requires.rank c.requires.next c.in_ok-answer.ensures.answer c.in_ok-answer.ensures.after stands
