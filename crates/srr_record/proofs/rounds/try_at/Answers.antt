use Rattle.std.proofs.Common.{◌≡◌, ◌++◌, ◌∷◌, [], refl}
use Rattle.picked_runs.specs.declared.turn.Pick.TheVariants.{Index}
use Rattle.picked_runs.specs.Picks.{has_pick, picked_event, picked_reply}
use Rattle.srr_record.proofs.Running.{given, only_of, picked_with}
use Rattle.srr_record.proofs.rounds.try_at.Goals as goal

pub returns-in_ok-give-clause-run : goal.returns-in_ok-give-clause-run
returns-in_ok-give-clause-run g c =
    let machine = c.args.machine.now in
    let event = picked_event machine.ranks machine.events c.args.rank c.in-Ask.call (Index c.args.index) in
    let events_is : c.attempt_at.new.self.events ≡ machine.events ++ event ∷ [] = rw (c.in_ok-reply.ensures.after, c.in-Some.is) (refl {a = machine.events ++ event ∷ []}) in
    let reply_is = picked_with (has_pick machine.ranks machine.events c.args.rank c.in-Ask.call (Index c.args.index))
    (picked_reply machine.ranks machine.events c.args.rank c.in-Ask.call (Index c.args.index)) c.in-Some.reply _ c.in_ok-reply.ensures.answer c.in-Some.is in
    rw events_is (given machine.program machine.ranks c.args.rank machine.events event c.in-Some.reply _ _ _ c.requires.run c.in_ok-want.ensures.ok c.in_ok-give.ensures.ok (refl {a = c.args.rank}) reply_is)

pub returns-in_ok-give-clause-others : goal.returns-in_ok-give-clause-others
returns-in_ok-give-clause-others g c =
    let machine = c.args.machine.now in
    let event = picked_event machine.ranks machine.events c.args.rank c.in-Ask.call (Index c.args.index) in
    let events_is : c.attempt_at.new.self.events ≡ machine.events ++ event ∷ [] = rw (c.in_ok-reply.ensures.after, c.in-Some.is) (refl {a = machine.events ++ event ∷ []}) in
    rw events_is (only_of c.args.rank machine.events event (refl {a = c.args.rank}))
