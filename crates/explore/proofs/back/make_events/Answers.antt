use Rattle.std.proofs.Common.{◌+◌, arith}
use Rattle.explore.proofs.Again.{free_take}
use Rattle.explore.proofs.back.make_events.Goals as goal

pub make_event-requires-clause-free : goal.make_event-requires-clause-free
make_event-requires-clause-free g c =
    free_take c.args.history.now.events (c.loop-at.at + 1) c.args.count (omega (arith, c.loop-at-test.true)) c.requires.free
