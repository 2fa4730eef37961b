use Rattle.replay_model.proofs.Prefix.{BeginsRun-Replays}
use Rattle.replay_model.proofs.RunAnswers.{stands_agree}
use Rattle.replay_model.proofs.laws.begins_every_run.Goals as goal

pub returns-clause-begins : goal.returns-clause-begins
returns-clause-begins g c = λ run is.
    BeginsRun-Replays (g.P.Program.next c.args.program.now) (g.P.Program.output c.args.program.now) c.args.log.now c.args.stop.now run c.args.events.now.events
    (record { ends = g.P.Program.ends_exactly c.args.program.now; enters = g.P.Program.enters_in_form c.args.program.now })
    (g.P.Program.prints_on c.args.program.now) is c.requires

pub returns-clause-stands : goal.returns-clause-stands
returns-clause-stands g c = λ run is.
    stands_agree (g.P.Program.next c.args.program.now) (g.P.Program.variables c.args.program.now) c.args.log.now c.args.stop.now run c.args.events.now.events
    (record { ends = g.P.Program.ends_exactly c.args.program.now; enters = g.P.Program.enters_in_form c.args.program.now })
    is c.requires
