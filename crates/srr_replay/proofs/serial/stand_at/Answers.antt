use Rattle.std.proofs.Common.{◌∙◌, refl, sym}
use Rattle.replay_model.specs.Replays.{replied_event}
use Rattle.srr_replay.proofs.serial.stand_at.Goals as goal

pub variables-requires-clause-live : goal.variables-requires-clause-live
variables-requires-clause-live g c =
    let run = c.requires.run in
    (c.args.call.now, rw (run.same_program, run.ranks, run.rank_is, run.replies_are) c.requires.next)

pub unreachable-requires : goal.unreachable-requires
unreachable-requires g c =
    c.requires.rests (replied_event c.args.rank c.args.call.now c.in-Replied.field-0) refl (record {
      member = c.requires.member;
      call = c.requires.next;
      reply = sym c.in_ok-attempt.ensures.answer ∙ c.in-Replied.is;
      mate = refl;
      alone = refl;
    })
