use Rattle.run_model.proofs.ChosenLaws.{order_fixes_run}
use Rattle.run_model.proofs.laws.order_fixes_run.Goals as goal

pub returns : goal.returns
returns g c = order_fixes_run (g.P.Program.next c.args.program.now) c.args.n
