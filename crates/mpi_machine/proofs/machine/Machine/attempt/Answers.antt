use Rattle.std.proofs.Common.{◌∙◌, ap, subst}
use Rattle.run_model.specs.Run.{IsPromptRun}
use Rattle.mpi_machine.specs.Turns.{MachineState}
use Rattle.mpi_machine.proofs.Attempting.{given, goes_on_serially, same_program}
use Rattle.mpi_machine.proofs.machine.Machine.attempt.Goals as goal

pub returns-clause-shape : goal.returns-clause-shape
returns-clause-shape g c = λ reply replied.
    let F : g.row.P.Denot → Type 0 = λ p. IsPromptRun (g.P.Program.next p) c.turn.new.self.ranks c.turn.new.self.events in
    let later = subst F
    (ap (λ (m : MachineState g.row.P.Denot). m.program) c.in_ok-turn.ensures.after ∙ same_program c.args.self.now c.args.rank c.args.call c.in_ok-turn.turn)
    c.is_run-2.ensures.run in
    given (g.P.Program.next c.args.self.now.program) c.args.self.now c.turn.new.self c.args.rank c.args.call c.in_ok-turn.turn reply
    (record { ends = g.P.Program.ends_exactly c.args.self.now.program; enters = g.P.Program.enters_in_form c.args.self.now.program })
    c.is_run.ensures.run later c.in_ok-turn.ensures.answer c.in_ok-turn.ensures.after replied

pub returns-clause-serial : goal.returns-clause-serial
returns-clause-serial g c = λ stage stands.
    goes_on_serially (g.P.Program.next c.args.self.now.program) c.args.self.now c.turn.new.self c.args.rank c.args.call c.in_ok-turn.turn stage
    c.is_run.ensures.kept c.requires.rank c.requires.next c.in_ok-turn.ensures.answer c.in_ok-turn.ensures.after stands
