use Rattle.run_model.proofs.SerialLaws.{order_begins_serial}
use Rattle.run_model.proofs.laws.order_begins_serial.Goals as goal

pub returns : goal.returns
returns g c = order_begins_serial (g.P.Program.next c.args.program.now) c.args.n
