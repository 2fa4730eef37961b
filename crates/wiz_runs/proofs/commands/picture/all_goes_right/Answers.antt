use Rattle.wiz_runs.proofs.PictureLemmas.{goes_right}
use Rattle.wiz_runs.proofs.commands.picture.all_goes_right.Goals as goal

pub returns : goal.returns
returns c =
    goes_right c.args.ready.now c.args.recording.now c.args.drawing.now c.requires.made c.requires.drawn c.columns_rise.ensures c.arrows_go_right.ensures
    c.lanes_rise.ensures c.spans_are_disjoint.ensures c.same_drawing.ensures c.same_mates.ensures
