use Rattle.std.proofs.Common.{◌≡◌, ◌+◌, ◌-◌, ◌<◌, ◌∷◌, [], ap, ◌∙◌, arith, length, length-append}
use Rattle.turn_lock.specs.Rule.{fresh_accounts, idle_view}
use Rattle.turn_lock.specs.Steps.{first_only, but_first, first_alone, without_first}
use Rattle.turn_lock.specs.Seat.{new_seat, lock_on}
use Rattle.turn_lock.proofs.Seats.{fresh_next, each_more}
use Rattle.turn_lock.proofs.ends.seated.Goals as goal

pub split-next-requires-clause-fresh : goal.split-next-requires-clause-fresh
split-next-requires-clause-fresh g c =
    let k = c.loop-number.number in let n = c.args.terms.now.seats in
    let e : n - k ≡ (n - k - 1) + 1 = omega arith in
    (k, n - k - 1, ap (λ m. m.0.accounts) c.loop-number.invariant.token ∙ ap (λ i. fresh_accounts k i) e)

pub seat_at-requires-clause-token : goal.seat_at-requires-clause-token
seat_at-requires-clause-token g c =
    let k = c.loop-number.number in let n = c.args.terms.now.seats in let lt : k < n = omega arith in
    c.split-next.ensures.right.1 ∙ (ap (λ m. (first_alone m.0, [])) c.loop-number.invariant.token
    ∙ ap (λ l. (idle_view (first_only l) (g.T.Ledger.frame c.args.terms.now.first.value), [])) (fresh_next _ k n lt))

pub loop-number-preserved : goal.loop-number-preserved
loop-number-preserved g c =
    let k = c.loop-number.number in let n = c.args.terms.now.seats in let lt : k < n = omega arith in let inv = c.loop-number.invariant in record {
      count = ap length c.in_ok-push.ensures.items ∙ (let e = length-append c.loop-number.all.items (c.seat_at.result ∷ []) in let f = inv.count in omega arith);
      same = c.split-next.ensures.table ∙ inv.same;
      token = c.split-next.ensures.left ∙ (ap (λ m. (without_first m.0, m.1)) inv.token
          ∙ ap (λ l. (idle_view (but_first l) (g.T.Ledger.frame c.args.terms.now.first.value), [])) (fresh_next _ k n lt));
      each = each_more (new_seat (lock_on c.args.token.table_id c.args.terms.now.seats (g.T.Ledger.frame c.args.terms.now.first.value)))
          c.loop-number.all.items c.push.new.self.items k (k + 1) c.seat_at.result c.in_ok-push.ensures.items inv.count
          (c.seat_at.ensures ∙ ap (λ t. new_seat (lock_on t c.args.terms.now.seats (g.T.Ledger.frame c.args.terms.now.first.value)) k) (c.split-next.ensures.right.0 ∙ inv.same)) (omega arith) inv.each;
    }

pub returns : goal.returns
returns g c =
    let inv = c.loop-number.invariant in let k = c.loop-number.number in let n = c.args.terms.now.seats in let e : n - 1 ≡ k = omega arith in (
      ap length c.in_ok-push-2.ensures.items ∙ (let e = length-append c.loop-number.all.items (c.seat_at-2.result ∷ []) in let f = inv.count in omega arith),
      each_more (new_seat (lock_on c.args.token.table_id c.args.terms.now.seats (g.T.Ledger.frame c.args.terms.now.first.value)))
          c.loop-number.all.items c.push-2.new.self.items k n c.seat_at-2.result c.in_ok-push-2.ensures.items inv.count
          (c.seat_at-2.ensures ∙ (ap (λ t. new_seat (lock_on t n (g.T.Ledger.frame c.args.terms.now.first.value)) (n - 1)) inv.same
          ∙ ap (λ i. new_seat (lock_on c.args.token.table_id n (g.T.Ledger.frame c.args.terms.now.first.value)) i) e)) (omega arith) inv.each,
    )
