use Rattle.wait_graph.proofs.Reasons.{blocked_wait, has_cause}
use Rattle.wait_graph.proofs.laws.has_cause.Goals as goal

pub returns-clause-waits : goal.returns-clause-waits
returns-clause-waits g c =
    blocked_wait (g.P.Program.next c.args.program.now) c.args.n
    (record { ends = g.P.Program.ends_exactly c.args.program.now; enters = g.P.Program.enters_in_form c.args.program.now })
    (g.P.Program.asks_in_bounds c.args.program.now)

pub returns-clause-cause : goal.returns-clause-cause
returns-clause-cause g c =
    has_cause (g.P.Program.next c.args.program.now) c.args.n
    (record { ends = g.P.Program.ends_exactly c.args.program.now; enters = g.P.Program.enters_in_form c.args.program.now })
    (g.P.Program.asks_in_bounds c.args.program.now)
