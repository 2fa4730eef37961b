use Rattle.explanation_text.proofs.OrderLaws.{take_within}
use Rattle.explanation_text.proofs.order.first_events.Goals as goal

pub returns : goal.returns
returns c = rw (c.min-count.ensures, c.as_slice-events.ensures.events) (take_within c.args.count c.args.history.now.events)
