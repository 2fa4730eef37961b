use Rattle.std.proofs.Common.{◌≡◌, false}
use Rattle.turn_lock.specs.Seats.{IsIdleSeat}
use Rattle.bench_lock.specs.Players.{turns_of}
use Rattle.bench_lock.proofs.players.Player.play.Given as goal

abbrev pub invariant-loop-turn : goal.invariant-loop-turn
invariant-loop-turn g l = record {
  idle : IsIdleSeat l.lock l.initial.self.seat.number l.self.seat;
  own : l.self.seat.own ≡ turns_of l.initial.self.seat.number l.turn;
  ample : l.self.is_short ≡ false;
}
