use Rattle.std.proofs.Common.{append_assoc, refl}
use Rattle.svg_text.proofs.svg.push_subtitle.Goals as goal

pub returns : goal.returns
returns c =
    rw (
      c.in_ok-push_text-4.ensures.ok,
      c.in_ok-push_decimal-2.ensures.ok,
      c.in_ok-push_text-3.ensures.ok,
      c.in_ok-push_decimal.ensures.ok,
      c.in_ok-push_text-2.ensures.ok,
      c.in_ok-push_text.ensures.ok,
      c.count_raced.ensures,
      c.count_wild.ensures,
    )
    (simp append_assoc refl)
