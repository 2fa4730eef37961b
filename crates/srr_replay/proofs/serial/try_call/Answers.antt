use Rattle.std.proofs.Common.{◌≡◌, ◌++◌, ◌∷◌, [], refl}
use Rattle.replay_model.specs.Replays.{replied_event}
use Rattle.srr_replay.proofs.RoundsLemmas.{IsAfter-given}
use Rattle.srr_replay.proofs.serial.try_call.Goals as goal

pub returns-in-Replied-clause-run : goal.returns-in-Replied-clause-run
returns-in-Replied-clause-run g c =
    let events_is : c.attempt.new.self.events ≡ c.args.replay.now.events ++ replied_event c.args.rank c.args.call.now c.in-Replied.reply ∷ [] =
    rw (c.in_ok-reply.ensures.events, c.in-Replied.is) refl in
    rw events_is (IsAfter-given _ _ _ _ _ _ _ _ c.requires.run c.in_ok-give-in-Replied.ensures.ok)
