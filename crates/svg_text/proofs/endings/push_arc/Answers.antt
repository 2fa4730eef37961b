use Rattle.std.proofs.Common.{refl}
use Rattle.svg_text.proofs.endings.push_arc.Goals as goal

pub returns : goal.returns
returns c =
    rw (
      c.in_ok-push_filled.ensures,
      c.arc_out-bulge.ensures,
      c.leaves_at-begin.ensures,
      c.arrives_at-end.ensures,
      c.y.ensures.y,
      c.y-2.ensures.y,
    )
    refl
