use Rattle.explanation_text.proofs.OrderLaws.{other_text}
use Rattle.explanation_text.proofs.order.other_order_text.Goals as goal

pub returns : goal.returns
returns c =
    rw (c.in_ok-push_turn.ensures, c.in_ok-push_order.ensures, c.new-out.ensures, c.as_slice.ensures, c.first_events.ensures)
    (other_text c.args.history.now.events c.args.picks.now.written c.args.other.now)
