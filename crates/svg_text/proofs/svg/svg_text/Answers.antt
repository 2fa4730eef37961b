use Rattle.std.proofs.Common.{refl}
use Rattle.svg_text.proofs.svg.svg_text.Goals as goal

pub returns : goal.returns
returns c =
    rw (
      c.in_ok-push_picture.ensures,
      c.new-out.ensures,
      c.as_slice-2.ensures,
      c.in_ok-texts.ensures,
      c.bottom.ensures.bottom,
      c.right-right.ensures.right,
      c.columns.ensures.columns,
      c.cycles_of-cycles.ensures.cycles,
      c.blocked_of-all.ensures,
      c.of-grid.ensures,
      c.groups.ensures,
      c.marks.ensures,
      c.as_slice.ensures,
      c.lanes.ensures,
      c.lanes-2.ensures,
    )
    refl
