use Rattle.std.proofs.Common.{append_assoc, refl}
use Rattle.svg_text.proofs.marks.push_mark_of.Goals as goal

pub returns : goal.returns
returns c =
    rw (
      c.in_ok-push_text.ensures.ok,
      c.in_ok-push_below.ensures,
      c.in_ok-push_shape.ensures,
      c.in_ok-push_title.ensures,
      c.group_of-group.ensures,
      c.x-x.ensures.x,
      c.y-y.ensures.y,
    )
    (simp append_assoc refl)
