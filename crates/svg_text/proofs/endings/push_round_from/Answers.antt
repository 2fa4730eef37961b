use Rattle.std.proofs.Common.{append_assoc, refl}
use Rattle.svg_text.proofs.endings.push_round_from.Goals as goal

pub returns : goal.returns
returns c =
    rw (
      c.in_ok-push_decimal-2.ensures.ok,
      c.in_ok-push_text.ensures.ok,
      c.in_ok-push_nexts.ensures,
      c.in_ok-push_decimal.ensures.ok,
    )
    (simp append_assoc refl)
