use Rattle.explore.proofs.Sameness.{printed_tells}
use Rattle.explore.proofs.met.is_same_printed.Goals as goal

pub returns : goal.returns
returns c = printed_tells c.args.one.now c.args.other.now c.eq.result c.eq.ensures
