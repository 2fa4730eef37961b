-- Telling a recording.
use Rattle.std.proofs.Common.{◌≡◌, List, ℕ, []}
use Rattle.run_text.specs.RecordTexts.{record_text}
use Rattle.srr_record.specs.declared.recording.Recording.{Recording}
use Rattle.wiz_tool.specs.declared.report.Done.{Done}
use Rattle.wiz_tool.specs.declared.status.Status.{Status}
use Rattle.wiz_runs.specs.Runs.{record_outcome}
use Rattle.wiz_tool.specs.Outcomes.{run_outcome}
use Rattle.wiz_runs.specs.RecordFiles.{recording_files}
use Rattle.wiz_tool.specs.Statuses.{of_ending}
use Rattle.wiz_tool.specs.inside.Told.{outcome_written}
use Rattle.wiz_tool.proofs.FinishLemmas.{with_files}

-- a run's text and status make its outcome
pub recording_is_told : (prefix : List ℕ) (recording : Recording) (done : Done) (text : List ℕ) (status : Status)
    → outcome_written [] done ≡ run_outcome status text recording [] → text ≡ record_text recording.outputs recording.ending
    → status ≡ of_ending recording.ending → outcome_written (recording_files prefix recording) done ≡ record_outcome prefix recording
recording_is_told prefix recording done text status same text_is status_is =
    let whole = with_files (recording_files prefix recording) done (run_outcome status text recording []) same in rw (text_is, status_is) at whole
