use Rattle.run_states.proofs.LikeRuns.{futures_are_same}
use Rattle.run_states.proofs.laws.futures_are_same.Goals as goal

pub returns : goal.returns
returns g c =
    futures_are_same (g.P.Program.next c.args.program.now) (g.P.Program.output c.args.program.now) c.args.n
    (record { ends = g.P.Program.ends_exactly c.args.program.now; enters = g.P.Program.enters_in_form c.args.program.now })
