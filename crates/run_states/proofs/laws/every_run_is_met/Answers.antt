use Rattle.run_states.proofs.Closing.{every_patient_run_is_met, every_run_is_met}
use Rattle.run_states.proofs.laws.every_run_is_met.Goals as goal

pub returns-clause-all : goal.returns-clause-all
returns-clause-all g c = every_run_is_met (g.P.Program.next c.args.program.now) c.args.n

pub returns-clause-patient : goal.returns-clause-patient
returns-clause-patient g c = every_patient_run_is_met (g.P.Program.next c.args.program.now) c.args.n
