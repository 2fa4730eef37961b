use Rattle.std.proofs.Common.{append_assoc, refl}
use Rattle.svg_text.proofs.endings.push_cycle.Goals as goal

pub returns : goal.returns
returns c =
    rw (
      c.in_ok-push_text.ensures.ok,
      c.in_ok-push_round.ensures,
      c.in_ok-push_filled.ensures,
      c.as_slice.ensures,
    )
    (simp append_assoc refl)
