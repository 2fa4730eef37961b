use Rattle.run_states.proofs.StepLaws.{every_step_is_made}
use Rattle.run_states.proofs.laws.every_step_is_made.Goals as goal

pub returns : goal.returns
returns g c = every_step_is_made (g.P.Program.next c.args.program.now) c.args.n
