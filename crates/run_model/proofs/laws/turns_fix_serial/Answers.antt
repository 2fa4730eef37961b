use Rattle.run_model.proofs.SerialLaws.{serial_ends, turns_fix_serial}
use Rattle.run_model.proofs.laws.turns_fix_serial.Goals as goal

pub returns-clause-one : goal.returns-clause-one
returns-clause-one g c = turns_fix_serial (g.P.Program.next c.args.program.now) c.args.n

pub returns-clause-ends : goal.returns-clause-ends
returns-clause-ends g c =
    serial_ends (g.P.Program.next c.args.program.now) c.args.n
    (record { ends = g.P.Program.ends_exactly c.args.program.now; enters = g.P.Program.enters_in_form c.args.program.now })
