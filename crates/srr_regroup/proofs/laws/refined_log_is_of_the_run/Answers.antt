use Rattle.srr_regroup.proofs.Groups.{refined_is}
use Rattle.srr_regroup.proofs.laws.refined_log_is_of_the_run.Goals as goal

pub returns : goal.returns
returns g c = λ run is.
    refined_is (g.P.Program.next c.args.program.now) c.args.log.now c.args.events.now.events run c.args.part.now
    (record { ends = g.P.Program.ends_exactly c.args.program.now; enters = g.P.Program.enters_in_form c.args.program.now })
    c.requires.replay c.requires.part is
