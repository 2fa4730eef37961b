use Rattle.std.proofs.Common.{append_assoc, refl}
use Rattle.run_text.proofs.call_text.push_got.Goals as goal

pub returns-in_ok-push_by_commas-in-Joined : goal.returns-in_ok-push_by_commas-in-Joined
returns-in_ok-push_by_commas-in-Joined c =
    rw (c.in-Joined.is, c.in_ok-push_by_commas-in-Joined.ensures, c.as_slice-in-Joined.ensures, c.in_ok-push_text-in-Joined.ensures.ok) (simp append_assoc refl)
