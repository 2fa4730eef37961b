use Rattle.std.proofs.Common.{append_assoc, refl}
use Rattle.svg_text.proofs.svg.push_heads.Goals as goal

pub returns : goal.returns
returns c =
    rw (
      c.in_ok-push_text-2.ensures.ok,
      c.in_ok-push_head-11.ensures,
      c.in_ok-push_head-10.ensures,
      c.in_ok-push_head-9.ensures,
      c.in_ok-push_head-8.ensures,
      c.in_ok-push_head-7.ensures,
      c.in_ok-push_head-6.ensures,
      c.in_ok-push_head-5.ensures,
      c.in_ok-push_head-4.ensures,
      c.in_ok-push_head-3.ensures,
      c.in_ok-push_head-2.ensures,
      c.in_ok-push_head.ensures,
      c.in_ok-push_text.ensures.ok,
    )
    (simp append_assoc refl)
