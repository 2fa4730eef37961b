use Rattle.replay_views.proofs.CutLemmas.{replays_back}
use Rattle.replay_views.proofs.laws.replays_step_back.Goals as goal

pub returns : goal.returns
returns g c = λ run is.
    replays_back (g.P.Program.next c.args.program.now) c.args.log.now run
    (record { ends = g.P.Program.ends_exactly c.args.program.now; enters = g.P.Program.enters_in_form c.args.program.now }) is
