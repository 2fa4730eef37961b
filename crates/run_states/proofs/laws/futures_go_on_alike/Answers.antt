use Rattle.run_states.proofs.AnswerLaws.{futures_go_on_alike}
use Rattle.run_states.proofs.laws.futures_go_on_alike.Goals as goal

pub returns : goal.returns
returns g c = futures_go_on_alike (g.P.Program.next c.args.program.now) c.args.n
