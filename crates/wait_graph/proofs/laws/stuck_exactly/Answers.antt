use Rattle.wait_graph.proofs.Halting.{blocked_exactly, stuck_exactly}
use Rattle.wait_graph.proofs.laws.stuck_exactly.Goals as goal

pub returns-clause-stuck : goal.returns-clause-stuck
returns-clause-stuck g c = stuck_exactly (g.P.Program.next c.args.program.now) c.args.n

pub returns-clause-blocked : goal.returns-clause-blocked
returns-clause-blocked g c = blocked_exactly (g.P.Program.next c.args.program.now) c.args.n
