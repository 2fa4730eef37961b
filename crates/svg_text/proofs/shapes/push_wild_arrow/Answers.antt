use Rattle.std.proofs.Common.{append_assoc, refl}
use Rattle.svg_text.proofs.shapes.push_wild_arrow.Goals as goal

pub returns : goal.returns
returns c =
    rw (
      c.in_ok-push_text-2.ensures.ok,
      c.in_ok-push_between.ensures,
      c.in_ok-push_text.ensures.ok,
    )
    (simp append_assoc refl)
