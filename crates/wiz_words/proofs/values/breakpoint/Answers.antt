use Rattle.std.proofs.Common.{◌∙◌, arith}
use Rattle.wiz_words.proofs.BreakpointLemmas.{call_after, mark_stands, rank_before}
use Rattle.wiz_words.proofs.values.breakpoint.Goals as goal

pub returns-in_err-rank : goal.returns-in_err-rank
returns-in_err-rank c = rw c.from_residual.ensures (λ stop is.
    let none = c.in_err-rank.ensures.byte (omega arith) (λ w o h. h) in
    omega (arith, none, mark_stands 58 (λ digit. omega (arith, digit.1)) stop.0 stop.1 c.args.text.now is.spelled))

pub returns-in_err-rank-2 : goal.returns-in_err-rank-2
returns-in_err-rank-2 c = rw c.from_residual-in_err-rank-2.ensures (λ stop is.
    let parts = c.in_ok-rank.ensures.byte (omega arith) (λ w o h. h) in
    c.in_err-rank-2.ensures stop.0 is.rank (c.as_bytes.ensures.value ∙ (parts.0 ∙ rank_before 58 (λ digit. omega (arith, digit.1)) stop.0 stop.1 c.args.text.now is.spelled)))

pub returns-in_err-call : goal.returns-in_err-call
returns-in_err-call c = rw c.from_residual-in_err-call.ensures (λ stop is.
    let parts = c.in_ok-rank.ensures.byte (omega arith) (λ w o h. h) in
    c.in_err-call.ensures stop.1 is.call (c.as_bytes-2.ensures.value ∙ (parts.1 ∙ call_after 58 (λ digit. omega (arith, digit.1)) stop.0 stop.1 c.args.text.now is.spelled)))
