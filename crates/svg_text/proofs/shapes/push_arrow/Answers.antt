use Rattle.std.proofs.Common.{append_assoc, refl}
use Rattle.svg_text.proofs.shapes.push_arrow.Goals as goal

pub returns : goal.returns
returns c =
    rw (
      c.in_ok-push_filled-2.ensures,
      c.in_ok-push_between.ensures,
      c.in_ok-push_filled.ensures,
      c.group_of-group.ensures,
      c.if-is_wild.false,
    )
    (simp append_assoc refl)
