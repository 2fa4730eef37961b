use Rattle.std.proofs.Common.{append_assoc, refl}
use Rattle.svg_text.proofs.svg.push_legend.Goals as goal

pub returns : goal.returns
returns c =
    rw (
      c.in_ok-push_filled-6.ensures,
      c.in_ok-push_filled-5.ensures,
      c.in_ok-push_filled-4.ensures,
      c.in_ok-push_filled-3.ensures,
      c.in_ok-push_filled-2.ensures,
      c.in_ok-push_filled.ensures,
    )
    (simp append_assoc refl)
