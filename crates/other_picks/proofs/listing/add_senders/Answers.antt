use Rattle.std.proofs.Common.{◌∙◌, ap, append-nil, sym, take}
use Rattle.other_picks.specs.declared.other.TheConstants.{MOST_OTHER_PICKS}
use Rattle.other_picks.specs.inside.Known.{could_take, with_sender}
use Rattle.other_picks.proofs.Reading.{sender_next}
use Rattle.other_picks.proofs.listing.add_senders.Goals as goal

pub loop-sender-init : goal.loop-sender-init
loop-sender-init c = λ before knows. sym (ap (take MOST_OTHER_PICKS) (append-nil c.args.others.now) ∙ c.few.ensures)

pub loop-sender-preserved : goal.loop-sender-preserved
loop-sender-preserved c = λ before knows.
    sender_next MOST_OTHER_PICKS (with_sender c.args.receive.now) (could_take before c.args.receive.now) c.loop-sender.sender c.loop-sender.others c.add_sender.new.others c.args.others.now
    (c.loop-sender.invariant before knows) (c.in_ok-add_sender.ensures before knows)
