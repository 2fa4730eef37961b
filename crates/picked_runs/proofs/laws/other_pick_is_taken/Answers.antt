use Rattle.picked_runs.proofs.Turning.{other_pick_is_taken}
use Rattle.picked_runs.proofs.laws.other_pick_is_taken.Goals as goal

pub returns : goal.returns
returns g c = other_pick_is_taken (g.P.Program.next c.args.program.now) c.args.n
