use Rattle.run_drawing.proofs.TwinDrawings.{same_drawing}
use Rattle.run_drawing.proofs.laws.same_drawing.Goals as goal

pub returns : goal.returns
returns g c = same_drawing (g.P.Program.next c.args.program.now)
