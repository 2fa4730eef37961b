use Rattle.std.proofs.Common.{append_assoc, refl}
use Rattle.run_text.proofs.call_text.push_enter.Goals as goal

pub returns : goal.returns
returns c =
    rw (
      c.in-Enter.is,
      c.in_ok-push_by_commas.ensures,
      c.as_slice.ensures,
      c.in_ok-push_text-6.ensures.ok,
      c.in_ok-push_decimal-2.ensures.ok,
      c.in_ok-push_text-5.ensures.ok,
      c.in_ok-push_op.ensures,
      c.in_ok-push_text-4.ensures.ok,
      c.in_ok-push_root.ensures,
      c.in_ok-push_text-3.ensures.ok,
      c.in_ok-push_kind.ensures,
      c.in_ok-push_text-2.ensures.ok,
      c.in_ok-push_decimal.ensures.ok,
      c.in_ok-push_text.ensures.ok,
    )
    (simp append_assoc refl)
