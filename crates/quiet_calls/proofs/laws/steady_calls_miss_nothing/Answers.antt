use Rattle.run_model.proofs.RunLaws.{Lawful}
use Rattle.quiet_calls.proofs.MissingNothing.{patient_steady_missed, steady_missed}
use Rattle.quiet_calls.proofs.laws.steady_calls_miss_nothing.Goals as goal

pub returns-clause-all : goal.returns-clause-all
returns-clause-all g c =
    let lawful : Lawful (g.P.Program.next c.args.program.now) = record { ends = g.P.Program.ends_exactly c.args.program.now; enters = g.P.Program.enters_in_form c.args.program.now } in
    steady_missed (g.P.Program.next c.args.program.now) (g.P.Program.output c.args.program.now) c.args.n lawful c.futures_are_same.ensures c.every_step_is_made.ensures c.halts_decide_outcomes.ensures

pub returns-clause-patient : goal.returns-clause-patient
returns-clause-patient g c =
    let lawful : Lawful (g.P.Program.next c.args.program.now) = record { ends = g.P.Program.ends_exactly c.args.program.now; enters = g.P.Program.enters_in_form c.args.program.now } in
    patient_steady_missed (g.P.Program.next c.args.program.now) (g.P.Program.output c.args.program.now) c.args.n lawful c.futures_are_same.ensures c.every_step_is_made.ensures c.halts_decide_outcomes.ensures
