use Rattle.replay_model.proofs.Cut.{HasAllOf-whole, stands_done}
use Rattle.replay_model.proofs.laws.has_all_of_every_run.Goals as goal

pub returns-clause-all : goal.returns-clause-all
returns-clause-all g c = λ stopless run is.
    HasAllOf-whole (g.P.Program.next c.args.program.now) (g.P.Program.output c.args.program.now) c.args.log.now c.args.stop.now run c.args.events.now.events stopless
    (record { ends = g.P.Program.ends_exactly c.args.program.now; enters = g.P.Program.enters_in_form c.args.program.now })
    is c.requires

pub returns-clause-stands : goal.returns-clause-stands
returns-clause-stands g c = λ stopless run is.
    stands_done (g.P.Program.next c.args.program.now) (g.P.Program.variables c.args.program.now) c.args.log.now c.args.stop.now run c.args.events.now.events stopless
    (record { ends = g.P.Program.ends_exactly c.args.program.now; enters = g.P.Program.enters_in_form c.args.program.now })
    is c.requires
