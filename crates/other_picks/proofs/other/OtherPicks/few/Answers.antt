use Rattle.std.proofs.Common.{◌≤◌, ap, arith, length}
use Rattle.other_picks.specs.declared.other.TheConstants.{MOST_OTHER_PICKS}
use Rattle.other_picks.proofs.Cutting.{take_whole}
use Rattle.other_picks.proofs.other.OtherPicks.few.Goals as goal

pub returns : goal.returns
returns c =
    let same = ap length c.self.view_is in
    let short : length c.args.self.now ≤ MOST_OTHER_PICKS = omega (arith, same, c.self.invariant) in
    take_whole MOST_OTHER_PICKS c.args.self.now short
