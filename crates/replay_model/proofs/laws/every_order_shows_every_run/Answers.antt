use Rattle.replay_model.proofs.Free.{replays_in_every_order, shows_in_every_order}
use Rattle.replay_model.proofs.laws.every_order_shows_every_run.Goals as goal

pub returns : goal.returns
returns g c = record {
  shows = λ run is.
      shows_in_every_order (g.P.Program.next c.args.program.now) (g.P.Program.output c.args.program.now) c.args.log.now run
      (record { ends = g.P.Program.ends_exactly c.args.program.now; enters = g.P.Program.enters_in_form c.args.program.now })
      (g.P.Program.prints_on c.args.program.now) is;
  replays = λ run is.
      replays_in_every_order (g.P.Program.next c.args.program.now) c.args.log.now run
      (record { ends = g.P.Program.ends_exactly c.args.program.now; enters = g.P.Program.enters_in_form c.args.program.now }) is;
}
