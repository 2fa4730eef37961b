use Rattle.std.proofs.Common.{append_assoc, refl}
use Rattle.trace_json.proofs.json.push_flow_of.Goals as goal

pub returns : goal.returns
returns c =
    rw (
      c.in_ok-push_text-6.ensures.ok,
      c.in_ok-push_place-2.ensures,
      c.in_ok-push_text-5.ensures.ok,
      c.in_ok-push_decimal-2.ensures.ok,
      c.in_ok-push_text-4.ensures.ok,
      c.in_ok-push_flow_name-2.ensures,
      c.in_ok-push_text-3.ensures.ok,
      c.in_ok-push_place.ensures,
      c.in_ok-push_text-2.ensures.ok,
      c.in_ok-push_decimal.ensures.ok,
      c.in_ok-push_text.ensures.ok,
      c.in_ok-push_flow_name.ensures,
      c.as_slice.ensures,
      c.as_slice-2.ensures,
    )
    (simp append_assoc refl)
