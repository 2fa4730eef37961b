use Rattle.run_model.proofs.RunLaws.{Lawful}
use Rattle.quiet_calls.proofs.GoingFirst.{goes_first}
use Rattle.quiet_calls.proofs.laws.quiet_calls_go_first.Goals as goal

pub returns : goal.returns
returns g c =
    let lawful : Lawful (g.P.Program.next c.args.program.now) = record { ends = g.P.Program.ends_exactly c.args.program.now; enters = g.P.Program.enters_in_form c.args.program.now } in
    goes_first (g.P.Program.next c.args.program.now) (g.P.Program.output c.args.program.now) c.args.n lawful c.futures_are_same.ensures c.halts_decide_outcomes.ensures
