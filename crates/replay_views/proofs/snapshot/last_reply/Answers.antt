use Rattle.replay_views.proofs.SnapshotLemmas.{last_seen}
use Rattle.replay_views.proofs.snapshot.last_reply.Goals as goal

pub returns-in_ok-copy_of-in-Some : goal.returns-in_ok-copy_of-in-Some
returns-in_ok-copy_of-in-Some c = last_seen c.args.own.now c.in-Some.event.now c.in_ok-copy_of-in-Some.field-0 c.in-Some.ensures.value c.in_ok-copy_of-in-Some.ensures
