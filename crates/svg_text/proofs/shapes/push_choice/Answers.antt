use Rattle.std.proofs.Common.{append_assoc, refl}
use Rattle.svg_text.specs.Shapes.{choice_text}
use Rattle.svg_text.proofs.shapes.push_choice.Goals as goal

pub returns : goal.returns
unfolding choice_text
returns c =
    rw (
      c.in_ok-push_text-2.ensures.ok,
      c.in_ok-push_between.ensures,
      c.in_ok-push_text.ensures.ok,
    )
    (simp append_assoc refl)
