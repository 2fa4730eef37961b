use Rattle.run_model.specs.Chosen.{order_of}
use Rattle.picked_runs.specs.Turns.{turns_of}
use Rattle.explanation_text.proofs.OrderLaws.{IsOrderText-turns}
use Rattle.explanation_text.proofs.order.order_text.Goals as goal

pub returns-clause-back : goal.returns-clause-back
returns-clause-back c = λ n below.
    rw (c.in_ok-push_order.ensures, c.new-out.ensures, c.as_slice.ensures.events, c.as_slice-2.ensures) (IsOrderText-turns n (turns_of (order_of c.args.history.now.events) c.args.picks.now.written) below)
