use Rattle.std.proofs.Common.{◌≡◌, map}
use Rattle.bench_lock.specs.Players.{player_at}
use Rattle.bench_lock.proofs.players.players_of.Given as goal

abbrev pub invariant-loop-seat : goal.invariant-loop-seat
invariant-loop-seat l = l.players.items ≡ map player_at l.yielded
