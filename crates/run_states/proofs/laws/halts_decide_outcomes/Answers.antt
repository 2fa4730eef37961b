use Rattle.run_states.proofs.OutcomesMet.{halts_decide_outcomes}
use Rattle.run_states.proofs.laws.halts_decide_outcomes.Goals as goal

pub returns : goal.returns
returns g c =
    halts_decide_outcomes (g.P.Program.next c.args.program.now) (g.P.Program.output c.args.program.now) c.args.n
    (record { ends = g.P.Program.ends_exactly c.args.program.now; enters = g.P.Program.enters_in_form c.args.program.now })
