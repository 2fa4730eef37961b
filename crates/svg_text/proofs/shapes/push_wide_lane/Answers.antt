use Rattle.std.proofs.Common.{refl}
use Rattle.svg_text.proofs.shapes.push_wide_lane.Goals as goal

pub returns : goal.returns
returns c =
    rw (
      c.in_ok-push_filled.ensures,
      c.group_of-group.ensures,
      c.y-y.ensures.y,
    )
    refl
