use Rattle.std.proofs.Common.{subst, List}
use Rattle.picked_runs.specs.declared.turn.Turn.{Turn}
use Rattle.group_plan.specs.Plans.{number_of_ranks}
use Rattle.srr_record.specs.Recordings.{IsRecording, recording_with}
use Rattle.explore.proofs.Told.{comes_to}
use Rattle.explore.proofs.course.outcome_by.Goals as goal

pub returns-clause-comes : goal.returns-clause-comes
returns-clause-comes g c =
    let program = c.args.setting.now.program.now in
    let F : List Turn → Type 0 = λ turns. IsRecording (g.P.Program.next program) (g.P.Program.output program) (number_of_ranks c.args.setting.now.plan.now) (recording_with _ c.args.setting.now.plan.now turns) c.in_ok-recording.recording in
    comes_to (g.P.Program.next program) (g.P.Program.output program) c.args.setting.now.ranks (number_of_ranks c.args.setting.now.plan.now) _ c.args.setting.now.plan.now c.args.turns
    c.in_ok-recording.recording c.in_ok-outcome.outcome (record { ends = g.P.Program.ends_exactly program; enters = g.P.Program.enters_in_form program })
    c.requires.setting.ranks_are (subst F c.as_slice.ensures c.in_ok-recording.ensures) c.in_ok-outcome.ensures
