use Rattle.std.proofs.Common.{◌≡◌, ◌++◌, ◌∷◌, [], sym, ap, ◌∙◌, append_assoc, length, arith}
use Rattle.turn_lock.specs.Rule.{account}
use Rattle.turn_lock.specs.inside.Ends.{accounts_at}
use Rattle.turn_lock.proofs.Seats.{accounts_at-append, account_moves, idle_front, idle_last}
use Rattle.turn_lock.proofs.ends.joined.Goals as goal

pub token_of-token-requires : goal.token_of-token-requires
token_of-token-requires g c = (idle_last c.args.table.now.shared.table_id c.pop.new.self.items c.args.seats.items c.in-Some.last c.in-Some.ensures.items c.requires.seats).1

pub loop-seat-init : goal.loop-seat-init
loop-seat-init g c =
    let at = c.token_of-token.ensures in let is = c.in-Some.ensures.items in record {
      token = at.table ∙ (idle_last c.args.table.now.shared.table_id c.pop.new.self.items c.args.seats.items c.in-Some.last is c.requires.seats).0;
      idle = at.idle.0;
      some = (let e = ap length at.account in omega arith);
      accounts = rw at.account (rw is (sym (accounts_at-append c.pop.new.self.items (c.in-Some.last ∷ []))));
      seats = idle_front c.args.table.now.shared.table_id c.pop.new.self.items c.args.seats.items c.in-Some.last is c.requires.seats;
    }

pub token_of-requires : goal.token_of-requires
token_of-requires g c = (idle_last c.args.table.now.shared.table_id c.pop-in-loop-seat.new.self.items c.loop-seat.seats.items c.in-Some-pop.seat c.in-Some-pop.ensures.items c.loop-seat.invariant.seats).1

pub join-requires-clause-other : goal.join-requires-clause-other
join-requires-clause-other g c = (
  c.token_of.ensures.table ∙ (idle_last c.args.table.now.shared.table_id c.pop-in-loop-seat.new.self.items c.loop-seat.seats.items c.in-Some-pop.seat c.in-Some-pop.ensures.items c.loop-seat.invariant.seats).0,
  c.token_of.ensures.idle.0,
  c.token_of.ensures.idle.1,
)

pub loop-seat-preserved : goal.loop-seat-preserved
loop-seat-preserved g c =
    let now = ap (λ m. m.0) c.join.ensures.both in let is = c.in-Some-pop.ensures.items in let inv = c.loop-seat.invariant in
    let s = c.in-Some-pop.seat in
    let accounts : c.join.new.token.me.0.accounts ≡ (account s.number s.own s.seen ∷ []) ++ c.loop-seat.token.me.0.accounts =
    ap (λ v. v.accounts) now ∙ ap (λ l. l ++ c.loop-seat.token.me.0.accounts) c.token_of.ensures.account in record {
      token = c.join.ensures.table ∙ inv.token;
      idle = ap (λ v. v.stage) now ∙ inv.idle;
      some = (let e = ap length accounts in omega arith);
      accounts = ap (λ l. accounts_at c.pop-in-loop-seat.new.self.items ++ l) accounts
          ∙ (sym (append_assoc (accounts_at c.pop-in-loop-seat.new.self.items) (account s.number s.own s.seen ∷ []) c.loop-seat.token.me.0.accounts)
          ∙ (account_moves c.pop-in-loop-seat.new.self.items c.loop-seat.seats.items s c.loop-seat.token.me.0.accounts is ∙ inv.accounts));
      seats = idle_front c.args.table.now.shared.table_id c.pop-in-loop-seat.new.self.items c.loop-seat.seats.items s is inv.seats;
    }
