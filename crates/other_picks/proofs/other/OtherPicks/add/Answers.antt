use Rattle.std.proofs.Common.{◌≡◌, ◌≤◌, ◌++◌, ◌∷◌, ◌∙◌, [], List, ap, arith, length, length-append, sym}
use Rattle.other_picks.specs.declared.other.OtherPick.{OtherPick}
use Rattle.other_picks.specs.declared.other.TheConstants.{MOST_OTHER_PICKS}
use Rattle.other_picks.proofs.Cutting.{take_full, take_whole}
use Rattle.other_picks.proofs.other.OtherPicks.add.Goals as goal

pub returns-then-len-ge-MOST_OTHER_PICKS : goal.returns-then-len-ge-MOST_OTHER_PICKS
returns-then-len-ge-MOST_OTHER_PICKS c =
    let same = ap length c.self.view_is in
    let long : length c.args.self.now ≡ MOST_OTHER_PICKS = omega (arith, same, c.self.invariant, c.len.ensures, c.if-len-ge-MOST_OTHER_PICKS.true) in
    sym (take_full MOST_OTHER_PICKS c.args.self.now (c.args.other ∷ []) long)

pub returns : goal.returns
returns c =
    let old : List OtherPick = c.args.self.now in
    let same = ap length c.self.view_is in
    let short : length (old ++ c.args.other ∷ []) ≤ MOST_OTHER_PICKS =
    omega (arith, same, length-append old (c.args.other ∷ []), c.len.ensures, c.if-len-ge-MOST_OTHER_PICKS.false) in
    c.in_ok-push.ensures.items ∙ (ap (λ (l : List OtherPick). l ++ c.args.other ∷ []) c.self.view_is ∙ sym (take_whole MOST_OTHER_PICKS (old ++ c.args.other ∷ []) short))
