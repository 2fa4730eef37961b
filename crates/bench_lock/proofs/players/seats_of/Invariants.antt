use Rattle.std.proofs.Common.{◌≡◌, map, false, All}
use Rattle.bench_lock.proofs.players.seats_of.Given as goal

abbrev pub invariant-loop-player : goal.invariant-loop-player
invariant-loop-player l = record {
  seats : l.seats.items ≡ map (λ p. p.seat) l.yielded;
  ample : All (λ p. p.is_short ≡ false) l.yielded;
}
