use Rattle.run_model.proofs.GoingOn.{goes_on}
use Rattle.run_model.proofs.laws.goes_on.Goals as goal

pub returns : goal.returns
returns g c =
    goes_on (g.P.Program.next c.args.program.now) c.args.n
    (record { ends = g.P.Program.ends_exactly c.args.program.now; enters = g.P.Program.enters_in_form c.args.program.now })
