use Rattle.std.proofs.Common.{append_assoc, refl}
use Rattle.svg_text.specs.Shapes.{gray_text}
use Rattle.svg_text.proofs.shapes.push_gray.Goals as goal

pub returns : goal.returns
unfolding gray_text
returns c =
    rw (
      c.in_ok-push_text-2.ensures.ok,
      c.in_ok-push_between.ensures,
      c.in_ok-push_text.ensures.ok,
    )
    (simp append_assoc refl)
