use Rattle.std.proofs.Common.{◌≡◌, ◌∙◌, sym, true}
use Rattle.std.proofs.lemmas.Result.{IfOk-weaker}
use Rattle.mpi_call.specs.Collectives.{is_member}
use Rattle.mpi_call.specs.declared.reply.Reply.{Reply}
use Rattle.run_model.specs.Program.{MayGive}
use Rattle.run_model.specs.Views.{replies_in, view_of}
use Rattle.replay_model.specs.declared.step.Step.{Step}
use Rattle.replay_model.specs.declared.step.Step.TheVariants.{Replied}
use Rattle.replay_model.specs.Replays.{replay_answer}
use Rattle.srr_replay.proofs.LogLemmas.{below_at}
use Rattle.srr_replay.proofs.PlaceLemmas.{ArePlaces-set, noted_place, place_below}
use Rattle.srr_replay.proofs.ReplaysLemmas.{AreInOrder-Replays, KeepsForm, MayGive-Replays}
use Rattle.srr_replay.proofs.replay.Replay.answer.Goals as goal

pub count-number-requires : goal.count-number-requires
count-number-requires g c =
    let member : is_member c.self.inside.log.now.group c.args.rank ≡ true = rw (← c.self.view_is) at c.requires.member in
    rw c.self.invariant.2 (below_at c.self.inside.log.now.ranks c.self.inside.log.now.group c.args.rank c.self.invariant.0.below member)

pub get-place-requires : goal.get-place-requires
get-place-requires g c =
    let member : is_member c.self.inside.log.now.group c.args.rank ≡ true = rw (← c.self.view_is) at c.requires.member in
    place_below _ _ _ _ _ c.self.invariant.0 member c.self.invariant.3

pub answer-step-requires-clause-rank : goal.answer-step-requires-clause-rank
answer-step-requires-clause-rank g c =
    let member : is_member c.self.inside.log.now.group c.args.rank ≡ true = rw (← c.self.view_is) at c.requires.member in
    rw c.self.invariant.2 (below_at c.self.inside.log.now.ranks c.self.inside.log.now.group c.args.rank c.self.invariant.0.below member)

pub answer-step-requires-clause-order : goal.answer-step-requires-clause-order
answer-step-requires-clause-order g c =
    rw c.self.invariant.2
    (AreInOrder-Replays _ _ _ _ (record { enters = g.P.Program.enters_in_form c.self.inside.program.now; bounds = g.P.Program.asks_in_bounds c.self.inside.program.now })
    c.self.invariant.0 c.self.invariant.1)

pub answer-step-requires-clause-place : goal.answer-step-requires-clause-place
answer-step-requires-clause-place g c =
    noted_place _ _ _ _ _ _ _ c.self.invariant.3 (rw (← c.self.view_is) at c.requires.next) c.get-place.ensures

pub set-requires : goal.set-requires
set-requires g c =
    let member : is_member c.self.inside.log.now.group c.args.rank ≡ true = rw (← c.self.view_is) at c.requires.member in
    place_below _ _ _ _ _ c.self.invariant.0 member c.self.invariant.3

pub invariant_of-self : goal.invariant_of-self
invariant_of-self g c =
    let member : is_member c.self.inside.log.now.group c.args.rank ≡ true = rw (← c.self.view_is) at c.requires.member in
    let below = below_at c.self.inside.log.now.ranks c.self.inside.log.now.group c.args.rank c.self.invariant.0.below member in (
      c.self.invariant.0,
      c.self.invariant.1,
      c.self.invariant.2,
      rw c.set.ensures (ArePlaces-set _ _ _ _ _ _ _ below (rw (← c.self.view_is) at c.requires.next) c.answer-step.ensures.place c.self.invariant.3),
    )

pub returns-clause-shape : goal.returns-clause-shape
returns-clause-shape g c =
    let events = c.self.inside.seen.events in
    let log = c.self.inside.log.now in
    let next = g.P.Program.next c.self.inside.program.now in
    let Is : Step → Type 0 = λ step. step ≡ replay_answer log c.self.inside.stop (view_of events) c.args.rank (view_of events c.args.rank) c.args.call.now in
    let Gives : Step → Type 0 = λ step. (reply : Reply) → step ≡ Replied reply → MayGive next log.ranks c.args.rank (replies_in (view_of events c.args.rank)) reply in
    let laws : KeepsForm next = record { enters = g.P.Program.enters_in_form c.self.inside.program.now; bounds = g.P.Program.asks_in_bounds c.self.inside.program.now } in
    rw (← c.self.view_is)
    (IfOk-weaker c.answer-step.result Is Gives
    (λ step same reply is.
    MayGive-Replays _ _ _ _ _ _ _ laws c.self.invariant.0 c.self.invariant.1
    (rw (← c.self.view_is) at c.requires.member)
    (rw (← c.self.view_is) at c.requires.next)
    (sym same ∙ is))
    c.answer-step.ensures.answer)
