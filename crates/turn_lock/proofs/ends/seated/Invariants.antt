use Rattle.std.proofs.Common.{◌≡◌, ℕ, ◌<◌, ◌-◌, [], Some, slice_get, length}
use Rattle.turn_lock.specs.Rule.{fresh_accounts, idle_view}
use Rattle.turn_lock.specs.Seat.{new_seat, lock_on}
use Rattle.turn_lock.proofs.ends.seated.Given as goal

abbrev pub invariant-loop-number : goal.invariant-loop-number
invariant-loop-number g l = record {
  count : length l.all.items ≡ l.number;
  same : l.token.table_id ≡ l.fn.token.table_id;
  token : l.token.me ≡ (idle_view (fresh_accounts l.number (l.terms.seats - l.number)) (g.T.Ledger.frame l.terms.first.value), []);
  each : (k : ℕ) → k < l.number → slice_get l.all.items k ≡ Some (new_seat (lock_on l.fn.token.table_id l.terms.seats (g.T.Ledger.frame l.terms.first.value)) k);
}
