-- The picture of a recording.
use Rattle.std.proofs.Common.{◌≡◌, refl, ℕ, List, [], ◌∷◌, Err, IfOk, Ok, OnErr, Result, None, Some, true}
use Rattle.std.specs.declared.alloc.AllocError.{AllocError}
use Rattle.c_program.specs.View.{pure_program}
use Rattle.c_program.specs.Program.{next_of}
use Rattle.group_plan.specs.Plans.{number_of_ranks}
use Rattle.run_drawing.specs.Drawings.{IsDrawing}
use Rattle.run_drawing.specs.Drawn.{Drawn}
use Rattle.run_drawing.specs.Laws.{ArrowsGoRight, ColumnsRise, LanesRise, SameDrawing, SameMates}
use Rattle.srr_record.specs.declared.recording.Recording.{Recording}
use Rattle.trace_json.specs.Laws.{SpansAreDisjoint}
use Rattle.wiz_io.specs.Files.{ObservedFiles}
use Rattle.wiz_io.specs.Output.{ObservedOutput}
use Rattle.wiz_tool.specs.declared.report.Done.{Done}
use Rattle.wiz_tool.specs.declared.report.Report.{Report}
use Rattle.wiz_tool.specs.declared.status.Status.{Status}
use Rattle.wiz_tool.specs.declared.status.Status.TheVariants.{TooMany}
use Rattle.wiz_tool.specs.Environment.{around_of, environment}
use Rattle.wiz_tool.specs.Files.{NamedFile}
use Rattle.wiz_tool.specs.Outcomes.{IsPut, TaskOutcome, run_outcome}
use Rattle.wiz_tool.specs.Output.{GrewByPart}
use Rattle.wiz_tool.specs.Statuses.{of_ending}
use Rattle.wiz_tool.specs.inside.Told.{IsReportedBy, outcome_written}
use Rattle.wiz_tool.proofs.FinishLemmas.{with_files}
use Rattle.wiz_task.specs.declared.ready.Ready.{Ready}
use Rattle.wiz_runs.specs.Pictures.{IsDrawingOf, basis_in, picture_outcome, picture_over_text}
use Rattle.wiz_task.specs.inside.Recording.{IsMadeRecording}
use Rattle.wiz_runs.proofs.RecordingLemmas.{recorded_run}
use Rattle.wiz_task.proofs.EndLemmas.{put_same, put_short, put_told, told_text}

-- in the drawing of a recording all goes right
pub goes_right : (ready : Ready) (recording : Recording) (drawing : Drawn) → IsMadeRecording true ready recording
    → IsDrawing ready.plan recording.history.events drawing → ColumnsRise → ArrowsGoRight → LanesRise (next_of (pure_program ready.program))
    → SpansAreDisjoint (next_of (pure_program ready.program)) → SameDrawing (next_of (pure_program ready.program)) → SameMates (next_of (pure_program ready.program))
    → IsDrawingOf (pure_program ready.program) ready.plan recording.history.events drawing
goes_right ready recording drawing made is columns arrows lanes spans same mates =
    let run = recorded_run true ready recording made in
    record {
      is_drawing = is;
      columns = λ t u event. columns (basis_in ready.plan recording.history.events drawing is) t u event is.are_depths;
      arrows = arrows ready.plan recording.history.events drawing is;
      lanes = λ one other. lanes ready.plan recording.history.events drawing one other run is;
      spans = λ one other. spans ready.plan recording.history.events drawing one other run is;
      same = λ other another is_run views pairs drawn. same ready.plan recording.history.events other drawing another run is_run views pairs is drawn;
      mates = λ other is_run views all. mates (number_of_ranks ready.plan) recording.history.events other run is_run views all;
    }

-- what is told when the file is written
pub picture_is_told : (file text none : List ℕ) (recording : Recording) (done : Done) (status : Status) → outcome_written [] done ≡ run_outcome status none recording []
    → none ≡ [] → status ≡ of_ending recording.ending
    → outcome_written ((record { name = file; bytes = text }) ∷ []) done ≡ picture_outcome file recording (Some text)
picture_is_told file text none recording done status same none_is status_is =
    let whole = with_files ((record { name = file; bytes = text }) ∷ []) done (run_outcome status none recording []) same in
    rw (none_is, status_is) at whole

-- what is told when there is none
pub over_is_told : (file text : List ℕ) (recording : Recording) (done : Done) (store : ObservedFiles) (before after : ObservedOutput) (result : Result Report AllocError)
    → outcome_written [] done ≡ run_outcome TooMany text recording [] → text ≡ picture_over_text
    → IfOk result (λ report. (files : List NamedFile) → IsPut (outcome_written files done) before after report)
    → OnErr result (GrewByPart before.bytes after.bytes done.text)
    → IsReportedBy (picture_outcome file recording None) (around_of (environment store before) (environment store after)) result
over_is_told file text recording done store before after (Ok report) is text_is put part =
    let outcome : TaskOutcome = picture_outcome file recording None in
    let same : outcome_written [] done ≡ outcome = rw text_is at is in
    put_told outcome (environment store before) (environment store after) report refl refl (put_same (outcome_written [] done) outcome before after report same (put []))
over_is_told file text recording done store before after (Err error) is text_is put part =
    let outcome : TaskOutcome = picture_outcome file recording None in
    let same : outcome_written [] done ≡ outcome = rw text_is at is in
    put_short outcome (environment store before) (environment store after) error refl refl (rw (told_text done outcome same) at part)
