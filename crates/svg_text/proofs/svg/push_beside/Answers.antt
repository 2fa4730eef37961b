use Rattle.std.proofs.Common.{append_assoc, refl}
use Rattle.svg_text.proofs.svg.push_beside.Goals as goal

pub returns : goal.returns
returns c =
    rw (
      c.in_ok-push_endings.ensures,
      c.in_ok-push_cycles.ensures,
      c.bottom.ensures.bottom,
    )
    (simp append_assoc refl)
