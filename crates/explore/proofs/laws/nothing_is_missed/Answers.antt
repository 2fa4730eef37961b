use Rattle.explore.proofs.NothingMissed.{all_listed, patient_listed}
use Rattle.explore.proofs.laws.nothing_is_missed.Goals as goal

pub returns-clause-patient : goal.returns-clause-patient
returns-clause-patient g c =
    patient_listed (g.P.Program.next c.args.program.now) (g.P.Program.output c.args.program.now) c.args.n c.every_outcome_is_met.ensures.patient

pub returns-clause-all : goal.returns-clause-all
returns-clause-all g c =
    all_listed (g.P.Program.next c.args.program.now) (g.P.Program.output c.args.program.now) c.args.n c.every_outcome_is_met.ensures.all
