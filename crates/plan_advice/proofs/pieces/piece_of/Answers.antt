use Rattle.std.proofs.Common.{ap, length, refl}
use Rattle.plan_advice.proofs.Keeping.{message_piece}
use Rattle.plan_advice.proofs.pieces.piece_of.Goals as goal

pub returns-in-Message-clause-piece : goal.returns-in-Message-clause-piece
returns-in-Message-clause-piece c = λ own is begin end has.
    rw c.in-Message.is
    (message_piece c.args.owner.now.ranks c.args.owner.now.rank own c.args.start c.in-Message.source c.in-Message.start c.in-Message.tag c.in-Message.ints begin end
    (record { least = c.in-Message.source; greatest = c.in-Message.source; ints = length c.as_slice.result.now }) refl refl (ap (λ l. length l) c.as_slice.ensures))
