use Rattle.std.proofs.Common.{◌-◌, ◌∙◌, List, ap, sym}
use Rattle.mpi_machine.specs.Turns.{MachineState}
use Rattle.explore.proofs.Again.{back_course, on_ok_three}
use Rattle.explore.proofs.back.take_back.Goals as goal

pub returns : goal.returns
returns g c =
    let program = c.args.setting.now.program.now in
    let runs : List _ = c.args.course.now.runs.items in
    on_ok_three c.make_events.result _ _ _ _
    (λ programs ranks made events ahead. back_course g.R.RankRun.standing program c.args.setting.now.ranks events c.into_run-history.result.0.events c.saturating_sub-count.result c.args.course.now.machine c.in_ok-anew.anew c.make_events.new.machine runs
    (ap (λ (m : MachineState _). m.program) c.in_ok-anew.ensures) (ap (λ (m : MachineState _). m.ranks) c.in_ok-anew.ensures ∙ (c.n.ensures.ranks ∙ sym c.requires.planned))
    (programs ∙ ap (λ (m : MachineState _). m.program) c.replace-ahead.ensures.after) (ranks ∙ ap (λ (m : MachineState _). m.ranks) c.replace-ahead.ensures.after) made
    (c.saturating_sub-count.ensures ∙ ap (λ k. k - 1) c.len.ensures) (c.into_run-history.ensures.events ∙ ap (λ (m : MachineState _). m.events) c.replace-ahead.ensures.value) ahead)
    c.make_events.ensures.program c.make_events.ensures.ranks c.make_events.ensures.made
