use Rattle.std.proofs.Common.{ap, subst}
use Rattle.turn_lock.specs.inside.Ends.{AllStand}
use Rattle.turn_lock.proofs.Seats.{all_joined, own_stand, seen_stand}
use Rattle.turn_lock.proofs.lock.TurnLock.close.Goals as goal

pub emptied-requires-clause-all : goal.emptied-requires-clause-all
emptied-requires-clause-all g c =
    all_joined c.args.seats.items _ _ _ c.joined-token.ensures.accounts (ap (λ l. l.seats) c.self.view_is) c.requires.each

pub returns-clause-own : goal.returns-clause-own
returns-clause-own g c =
    own_stand (g.T.Ledger.entries c.emptied.result) c.args.seats.items (subst (λ (l : _). AllStand (g.T.Ledger.entries c.emptied.result) l) c.joined-token.ensures.accounts c.emptied.ensures.stand)

pub returns-clause-seen : goal.returns-clause-seen
returns-clause-seen g c =
    seen_stand (g.T.Ledger.entries c.emptied.result) c.args.seats.items (subst (λ (l : _). AllStand (g.T.Ledger.entries c.emptied.result) l) c.joined-token.ensures.accounts c.emptied.ensures.stand)
