use Rattle.run_drawing.proofs.ReceivedMates.{same_mates}
use Rattle.run_drawing.proofs.laws.same_mates.Goals as goal

pub returns : goal.returns
returns g c = same_mates (g.P.Program.next c.args.program.now)
