use Rattle.std.proofs.Common.{append_assoc, refl}
use Rattle.trace_json.proofs.json.push_groups.Goals as goal

pub returns : goal.returns
returns c =
    rw (
      c.in_ok-push_later_groups.ensures,
      c.in_ok-push_text.ensures.ok,
      c.last_group.ensures,
    )
    (simp append_assoc refl)
