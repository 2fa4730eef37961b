use Rattle.run_model.proofs.RunLaws.{Lawful}
use Rattle.run_states.proofs.OutcomesMet.{every_outcome_is_met, every_patient_outcome_is_met}
use Rattle.run_states.proofs.laws.every_outcome_is_met.Goals as goal

pub returns-clause-all : goal.returns-clause-all
returns-clause-all g c =
    let lawful : Lawful (g.P.Program.next c.args.program.now) = record { ends = g.P.Program.ends_exactly c.args.program.now; enters = g.P.Program.enters_in_form c.args.program.now } in
    every_outcome_is_met (g.P.Program.next c.args.program.now) (g.P.Program.output c.args.program.now) c.args.n lawful

pub returns-clause-patient : goal.returns-clause-patient
returns-clause-patient g c =
    let lawful : Lawful (g.P.Program.next c.args.program.now) = record { ends = g.P.Program.ends_exactly c.args.program.now; enters = g.P.Program.enters_in_form c.args.program.now } in
    every_patient_outcome_is_met (g.P.Program.next c.args.program.now) (g.P.Program.output c.args.program.now) c.args.n lawful
