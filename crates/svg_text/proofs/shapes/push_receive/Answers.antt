use Rattle.std.proofs.Common.{refl}
use Rattle.svg_text.proofs.shapes.push_receive.Goals as goal

pub returns : goal.returns
returns c =
    rw (
      c.in_ok-push_bar.ensures,
      c.receive_colour-colour.ensures,
    )
    refl
