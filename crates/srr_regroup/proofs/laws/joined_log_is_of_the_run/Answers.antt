use Rattle.srr_regroup.proofs.Groups.{joined_is}
use Rattle.srr_regroup.proofs.laws.joined_log_is_of_the_run.Goals as goal

pub returns : goal.returns
returns g c = λ run with_one with_two.
    joined_is (g.P.Program.next c.args.program.now) c.args.one.now c.args.two.now c.args.first.now.events c.args.second.now.events run
    (record { ends = g.P.Program.ends_exactly c.args.program.now; enters = g.P.Program.enters_in_form c.args.program.now })
    c.requires.can_join c.requires.replay c.requires.other_replay with_one with_two
