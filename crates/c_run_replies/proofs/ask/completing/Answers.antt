use Rattle.std.proofs.Common.{arith, ap, ◌∙◌}
use Rattle.c_run_replies.proofs.CompletionLaws.{left-none_active}
use Rattle.c_run_replies.proofs.ask.completing.Goals as goal

pub returns-clause-left : goal.returns-clause-left
returns-clause-left c =
    let same = ap (λ s. s.left) c.in_ok-none_active.ensures ∙ left-none_active c.args.call.now.requests c.args.call.now.mode c.args.call.now.answer c.args.state.now in
    omega arith
