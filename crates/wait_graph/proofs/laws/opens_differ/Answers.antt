use Rattle.wait_graph.proofs.OpenLaws.{opens_differ}
use Rattle.wait_graph.proofs.laws.opens_differ.Goals as goal

pub returns : goal.returns
returns g c =
    opens_differ (g.P.Program.next c.args.program.now) c.args.n
    (record { ends = g.P.Program.ends_exactly c.args.program.now; enters = g.P.Program.enters_in_form c.args.program.now })
