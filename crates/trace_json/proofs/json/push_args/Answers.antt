use Rattle.std.proofs.Common.{append_assoc, refl}
use Rattle.trace_json.proofs.json.push_args.Goals as goal

pub returns : goal.returns
returns c =
    rw (
      c.in_ok-push_text-4.ensures.ok,
      c.in_ok-push_reply.ensures,
      c.in_ok-push_text-3.ensures.ok,
      c.in_ok-push_call.ensures,
      c.in_ok-push_text-2.ensures.ok,
      c.in_ok-push_decimal.ensures.ok,
      c.in_ok-push_text.ensures.ok,
    )
    (simp append_assoc refl)
