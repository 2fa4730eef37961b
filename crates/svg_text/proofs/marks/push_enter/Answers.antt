use Rattle.std.proofs.Common.{append_assoc, refl}
use Rattle.svg_text.proofs.marks.push_enter.Goals as goal

pub returns : goal.returns
returns c =
    rw (
      c.in_ok-push_kind_label.ensures,
      c.in_ok-push_filled.ensures,
    )
    (simp append_assoc refl)
