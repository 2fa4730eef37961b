use Rattle.std.proofs.Common.{append_assoc, refl}
use Rattle.run_text.proofs.call_text.push_halt.Goals as goal

pub returns-in_ok-push_fault-in-Trapped : goal.returns-in_ok-push_fault-in-Trapped
returns-in_ok-push_fault-in-Trapped c =
    rw (c.in-Trapped.is, c.in_ok-push_fault-in-Trapped.ensures, c.in_ok-push_text-in-Trapped-2.ensures.ok, c.in_ok-push_decimal-in-Trapped.ensures.ok, c.in_ok-push_text-in-Trapped.ensures.ok) (simp append_assoc refl)

pub returns-in_ok-push_decimal-in-Mismatched : goal.returns-in_ok-push_decimal-in-Mismatched
returns-in_ok-push_decimal-in-Mismatched c =
    rw (c.in-Mismatched.is, c.in_ok-push_decimal-in-Mismatched.ensures.ok, c.in_ok-push_text-in-Mismatched.ensures.ok) (simp append_assoc refl)
