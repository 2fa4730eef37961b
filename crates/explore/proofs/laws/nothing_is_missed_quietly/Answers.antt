use Rattle.explore.proofs.QuietMissed.{all_listed_quietly, patient_listed_quietly}
use Rattle.explore.proofs.laws.nothing_is_missed_quietly.Goals as goal

pub returns-clause-patient : goal.returns-clause-patient
returns-clause-patient g c =
    patient_listed_quietly (g.P.Program.next c.args.program.now) (g.P.Program.output c.args.program.now) c.args.n c.quiet_calls_miss_nothing.ensures.patient

pub returns-clause-all : goal.returns-clause-all
returns-clause-all g c =
    all_listed_quietly (g.P.Program.next c.args.program.now) (g.P.Program.output c.args.program.now) c.args.n c.quiet_calls_miss_nothing.ensures.all
