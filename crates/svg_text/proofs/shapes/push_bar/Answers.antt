use Rattle.std.proofs.Common.{refl}
use Rattle.svg_text.proofs.shapes.push_bar.Goals as goal

pub returns : goal.returns
returns c =
    rw (
      c.in_ok-push_filled.ensures,
      c.bar_length-length.ensures.length,
      c.x-x.ensures.x,
      c.y-y.ensures.y,
    )
    refl
