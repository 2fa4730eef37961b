use Rattle.replay_model.proofs.Cut.{cut_law}
use Rattle.replay_model.proofs.Starved.{starved_law}
use Rattle.replay_model.proofs.laws.has_the_cut.Goals as goal

pub returns-clause-places : goal.returns-clause-places
returns-clause-places g c = λ run is.
    cut_law (g.P.Program.next c.args.program.now) c.args.log.now c.args.stop.now run c.args.events.now.events
    (record { ends = g.P.Program.ends_exactly c.args.program.now; enters = g.P.Program.enters_in_form c.args.program.now })
    is c.requires

pub returns-clause-stands : goal.returns-clause-stands
returns-clause-stands g c = λ run is.
    starved_law (g.P.Program.next c.args.program.now) (g.P.Program.variables c.args.program.now) c.args.log.now c.args.stop.now run c.args.events.now.events
    (record { ends = g.P.Program.ends_exactly c.args.program.now; enters = g.P.Program.enters_in_form c.args.program.now })
    is c.requires
