use Rattle.run_model.proofs.ProbedMessages.{probe_stays}
use Rattle.run_model.proofs.ProbedReceives.{receive_gets_probed}
use Rattle.run_model.proofs.laws.what_a_probe_binds.Goals as goal

pub returns-clause-stays : goal.returns-clause-stays
returns-clause-stays g c = probe_stays (g.P.Program.next c.args.program.now) c.args.n

pub returns-clause-gets : goal.returns-clause-gets
returns-clause-gets g c = receive_gets_probed (g.P.Program.next c.args.program.now) c.args.n
