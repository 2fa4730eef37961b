use Rattle.other_picks.proofs.Taken.{others_taken, others_turns}
use Rattle.other_picks.proofs.laws.others_are_taken.Goals as goal

pub returns-clause-taken : goal.returns-clause-taken
returns-clause-taken g c = others_taken (g.P.Program.next c.args.program.now) c.args.n c.other_pick_is_taken.ensures

pub returns-clause-turns : goal.returns-clause-turns
returns-clause-turns g c = others_turns (g.P.Program.next c.args.program.now) c.args.n c.picks_are_turns.ensures
