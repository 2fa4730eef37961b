use Rattle.std.proofs.Common.{List, false, subst, true, ℕ}
use Rattle.group_plan.specs.Plans.{number_of_ranks}
use Rattle.picked_runs.specs.PickLaws.{PicksAreTurns, PicksFixRun}
use Rattle.log_bounds.specs.RunBounds.{RepliesFit32, LogsAreInBounds, LogBytesAreShort}
use Rattle.run_model.specs.declared.event.Event.{Event}
use Rattle.run_model.specs.Views.{Next}
use Rattle.c_program.specs.View.{pure_program}
use Rattle.c_program.specs.Program.{next_of}
use Rattle.wiz_runs.proofs.RecordingLemmas.{made_by}
use Rattle.wiz_runs.proofs.recording.make.logs_can_be_read.Goals as goal

pub returns : goal.returns
returns c =
    let next : Next = next_of (pure_program c.args.ready.now.program) in
    let n : ℕ = number_of_ranks c.args.ready.now.plan in
    let events : List Event = c.args.recording.now.history.events in
    let F : ℕ → Type 0 = λ k. LogsAreInBounds next k in
    let B : ℕ → Type 0 = λ k. LogBytesAreShort next k in
    let T : ℕ → Type 0 = λ k. PicksAreTurns next k in
    let X : ℕ → Type 0 = λ k. PicksFixRun next k in
    let G : List Event → Type 0 = λ run. RepliesFit32 run in
    let law : LogsAreInBounds next n = subst F c.n.ensures.ranks c.run_logs_are_in_bounds.ensures in
    let brief : LogBytesAreShort next n = subst B c.n-2.ensures.ranks c.run_log_bytes_are_short.ensures in
    let turns : PicksAreTurns next n = subst T c.n-3.ensures.ranks c.picks_are_turns.ensures in
    let fix : PicksFixRun next n = subst X c.n-4.ensures.ranks c.picks_fix_run.ensures in
    let words : RepliesFit32 events = subst G c.as_slice.ensures.events c.replies_fit.ensures in
    let made = made_by c.args.ready.now c.args.recording.now c.requires.ready c.requires.recorded law brief words turns fix c.n.ensures.plan in
    record { threads = made true (λ no. absurd (cc)); serial = λ serial. made false (λ same. serial) }
