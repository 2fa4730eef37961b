use Rattle.std.proofs.Common.{◌≡◌, subst, sym, true}
use Rattle.mpi_call.specs.Collectives.{is_member}
use Rattle.run_model.specs.declared.event.Event.{Event}
use Rattle.run_model.specs.Views.{view_of}
use Rattle.view_tables.specs.StartTable.{TakesMade}
use Rattle.srr_replay.proofs.LogLemmas.{below_at}
use Rattle.replay_model.specs.Replays.{replied_event}
use Rattle.srr_replay.proofs.PlaceLemmas.{ArePlaces-after, place_below}
use Rattle.srr_replay.proofs.ReplaysLemmas.{EntersKnown-Replays, Replays-after, TakesMade-Replays}
use Rattle.srr_replay.proofs.replay.Replay.append.Goals as goal

pub add-requires-clause-rank : goal.add-requires-clause-rank
add-requires-clause-rank g c =
    let member : is_member c.self.inside.log.now.group c.args.rank ≡ true = rw (← c.self.view_is) at c.requires.member in
    rw (c.in_ok-event.ensures, c.self.invariant.2) (below_at c.self.inside.log.now.ranks c.self.inside.log.now.group c.args.rank c.self.invariant.0.below member)

pub add-requires-clause-takes : goal.add-requires-clause-takes
add-requires-clause-takes g c =
    let Takes : Event → Type 0 = λ event. TakesMade (view_of c.self.inside.seen.events event.rank) event.call event.reply in
    subst Takes (sym c.in_ok-event.ensures)
    (TakesMade-Replays _ _ _ _ _ _ _ (record { enters = g.P.Program.enters_in_form c.self.inside.program.now; bounds = g.P.Program.asks_in_bounds c.self.inside.program.now })
    c.self.invariant.0 c.self.invariant.1
    (rw (← c.self.view_is) at c.requires.member)
    (rw (← c.self.view_is) at c.requires.next)
    (rw (← c.self.view_is) at c.requires.answer))

pub add-requires-clause-known : goal.add-requires-clause-known
add-requires-clause-known g c =
    let member : is_member c.self.inside.log.now.group c.args.rank ≡ true = rw (← c.self.view_is) at c.requires.member in
    rw (c.in_ok-event.ensures, c.self.invariant.2)
    (EntersKnown-Replays _ _ _ _ (record { enters = g.P.Program.enters_in_form c.self.inside.program.now; bounds = g.P.Program.asks_in_bounds c.self.inside.program.now })
    c.self.invariant.0
    (Replays-after _ _ _ _ _ _ _ c.self.invariant.1 member
    (rw (← c.self.view_is) at c.requires.next)
    (rw (← c.self.view_is) at c.requires.answer)))

pub set-requires : goal.set-requires
set-requires g c =
    let member : is_member c.self.inside.log.now.group c.args.rank ≡ true = rw (← c.self.view_is) at c.requires.member in
    place_below _ _ _ _ _ c.self.invariant.0 member c.self.invariant.3

pub invariant_of-self-2 : goal.invariant_of-self-2
invariant_of-self-2 g c =
    let member : is_member c.self.inside.log.now.group c.args.rank ≡ true = rw (← c.self.view_is) at c.requires.member in
    let below = below_at c.self.inside.log.now.ranks c.self.inside.log.now.group c.args.rank c.self.invariant.0.below member in
    rw (c.set.ensures, c.in_ok-add.ensures.ok, c.in_ok-event.ensures) (
      c.self.invariant.0,
      Replays-after _ _ _ _ _ _ _ c.self.invariant.1 member
          (rw (← c.self.view_is) at c.requires.next)
          (rw (← c.self.view_is) at c.requires.answer),
      c.self.invariant.2,
      ArePlaces-after _ _ c.self.inside.seen.events c.self.inside.places (replied_event c.args.rank c.args.call.now c.args.reply.now) below c.self.invariant.3,
    )
