use Rattle.std.proofs.Common.{◌≡◌, ◌<◌, ◌++◌, length, All, vec_len}
use Rattle.turn_lock.specs.inside.Ends.{accounts_at, IsIdleAt}
use Rattle.turn_lock.specs.declared.view.Stage.TheVariants.{Idle}
use Rattle.turn_lock.proofs.ends.joined.Given as goal

abbrev pub invariant-loop-seat : goal.invariant-loop-seat
invariant-loop-seat g l = record {
  token : l.token.table_id ≡ l.table.shared.table_id;
  idle : l.token.me.0.stage ≡ Idle;
  some : 0 < length l.token.me.0.accounts;
  accounts : accounts_at l.seats.items ++ l.token.me.0.accounts ≡ accounts_at l.fn.seats.items;
  seats : All (λ s. IsIdleAt l.table.shared.table_id s) l.seats.items;
}

abbrev pub decreases-loop-seat : goal.decreases-loop-seat
decreases-loop-seat g l = vec_len l.seats
