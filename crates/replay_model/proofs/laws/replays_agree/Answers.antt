use Rattle.replay_model.proofs.Confluence.{confluence, same_outputs, same_stands}
use Rattle.replay_model.proofs.laws.replays_agree.Goals as goal

pub returns-clause-views : goal.returns-clause-views
returns-clause-views g c = confluence _ _ _

pub returns-clause-outputs : goal.returns-clause-outputs
returns-clause-outputs g c = same_outputs (g.P.Program.next c.args.program.now) (g.P.Program.output c.args.program.now) c.args.log.now c.args.stop.now

pub returns-clause-stands : goal.returns-clause-stands
returns-clause-stands g c = same_stands (g.P.Program.next c.args.program.now) (g.P.Program.variables c.args.program.now) c.args.log.now c.args.stop.now
