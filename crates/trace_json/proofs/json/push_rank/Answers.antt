use Rattle.std.proofs.Common.{append_assoc, refl}
use Rattle.trace_json.proofs.json.push_rank.Goals as goal

pub returns : goal.returns
returns c =
    rw (
      c.in_ok-push_text-4.ensures.ok,
      c.in_ok-push_decimal-3.ensures.ok,
      c.in_ok-push_text-3.ensures.ok,
      c.in_ok-push_decimal-2.ensures.ok,
      c.in_ok-push_text-2.ensures.ok,
      c.in_ok-push_decimal.ensures.ok,
      c.in_ok-push_text.ensures.ok,
      c.group_of.ensures,
    )
    (simp append_assoc refl)
