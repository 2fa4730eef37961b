use Rattle.run_drawing.proofs.LaneLemmas.{lanes_rise}
use Rattle.run_drawing.proofs.laws.lanes_rise.Goals as goal

pub returns : goal.returns
returns g c =
    lanes_rise (g.P.Program.next c.args.program.now)
    (record { ends = g.P.Program.ends_exactly c.args.program.now; enters = g.P.Program.enters_in_form c.args.program.now })
