use Rattle.std.proofs.Common.{◌≡◌, ◌∙◌, MatchBool, List, Some, ap, subst, sym, take, ℕ}
use Rattle.mpi_call.specs.declared.call.Call.{Call}
use Rattle.run_model.specs.declared.event.Event.{Event}
use Rattle.run_model.specs.Views.{Next, replies_in, view_of}
use Rattle.picked_runs.specs.declared.turn.Pick.{Pick}
use Rattle.explore.specs.Courses.{IsAnswered, IsTurnHeldBack}
use Rattle.explore.proofs.Again.{again_asked, again_made}
use Rattle.explore.proofs.back.make_event.Goals as goal

pub answer-requires-clause-rank : goal.answer-requires-clause-rank
answer-requires-clause-rank g c =
    (again_asked (g.P.Program.next c.args.machine.now.program) c.args.machine.now.ranks c.args.history.now.events c.args.at c.get-event.result.now c.requires.picked.run c.get-event.ensures).rank

pub answer-requires-clause-next : goal.answer-requires-clause-next
answer-requires-clause-next g c =
    let next : Next = g.P.Program.next c.args.machine.now.program in
    let n : ℕ = c.args.machine.now.ranks in
    let event : Event = c.get-event.result.now in
    let step = again_asked next n c.args.history.now.events c.args.at event c.requires.picked.run c.get-event.ensures in
    let F : List Event → Type 0 = λ l. next n event.rank (replies_in (view_of l event.rank)) ≡ Some c.in_ok-call.call in
    subst F (sym c.requires.before) (step.call ∙ ap (λ x. Some x) (sym c.in_ok-call.ensures))

pub returns-clause-made : goal.returns-clause-made
returns-clause-made g c =
    let next : Next = g.P.Program.next c.args.machine.now.program in
    let n : ℕ = c.args.machine.now.ranks in
    let events : List Event = c.args.history.now.events in
    let event : Event = c.get-event.result.now in
    let after : List Event = c.answer.new.machine.events in
    let F : List Event → Call → Pick → Type 0 = λ l call pick. MatchBool c.in_ok-answer.field-0 (IsAnswered next n l after (record { rank = event.rank; pick = pick }) call) (IsTurnHeldBack n l after (record { rank = event.rank; pick = pick }) call) in
    again_made next n c.args.picks.now.written events after c.args.at event c.in_ok-answer.field-0 c.requires.picked c.get-event.ensures c.requires.free
    (subst (λ p. F (take c.args.at events) event.call p) c.pick_at.ensures
    (subst (λ x. F (take c.args.at events) x c.pick_at.result) c.in_ok-call.ensures
    (subst (λ l. F l c.in_ok-call.call c.pick_at.result) c.requires.before c.in_ok-answer.ensures.answered)))
