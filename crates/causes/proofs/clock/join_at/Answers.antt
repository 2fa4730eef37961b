use Rattle.causes.proofs.JoinLemmas.{join_found, join_past}
use Rattle.causes.proofs.clock.join_at.Goals as goal

pub returns-in-Some : goal.returns-in-Some
returns-in-Some c = join_found c.args.clock.now c.in-Some.other.now c.take_greater.new.self c.args.clocks.now c.args.at c.in-Some.ensures.lookup.0 c.in-Some.ensures.lookup.1 c.take_greater.ensures

pub returns-in-None : goal.returns-in-None
returns-in-None c = join_past c.args.clock.now c.args.clocks.now c.args.at c.in-None.ensures.lookup.3
