use Rattle.std.proofs.Common.{append_assoc, refl}
use Rattle.run_text.proofs.call_text.push_aborter.Goals as goal

pub returns : goal.returns
returns c = rw (c.in_ok-push_text-2.ensures.ok, c.in_ok-push_decimal.ensures.ok, c.in_ok-push_text.ensures.ok) (simp append_assoc refl)
