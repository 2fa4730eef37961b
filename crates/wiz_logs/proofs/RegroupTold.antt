-- Telling a regrouping.
use Rattle.std.proofs.Common.{◌≡◌, ◌∙◌, ◌++◌, ap, inl, inr, refl, subst, sym, append-nil, ℕ, List, [], ◌∷◌, None, Ok, Err, IfErr, IfOk, OnErr, OnOk, Result}
use Rattle.std.specs.declared.alloc.AllocError.{AllocError}
use Rattle.std.specs.String.{string_bytes}
use Rattle.replay_model.specs.declared.replayed.Replayed.{Replayed}
use Rattle.replay_model.specs.declared.replayed.Stand.{Stand}
use Rattle.wiz_io.specs.Files.{ObservedFiles}
use Rattle.wiz_io.specs.Output.{ObservedOutput}
use Rattle.srr_entry.specs.declared.log.Log.{Log}
use Rattle.srr_log2.specs.LogBytes.{log_bytes}
use Rattle.wiz_trace.specs.RegroupTexts.{joined_text}
use Rattle.wiz_trace.specs.TraceTexts.{traces_text}
use Rattle.wiz_tool.specs.declared.report.Report.{Report}
use Rattle.wiz_tool.specs.declared.status.Status.{Status}
use Rattle.wiz_tool.specs.declared.status.Status.TheVariants as s
use Rattle.wiz_tool.specs.declared.writing.Unwritten.{Unwritten}
use Rattle.wiz_tool.specs.declared.writing.Unwritten.TheVariants.{Failed, OutOfMemory}
use Rattle.wiz_tool.specs.Files.{AreWritten, NamedFile}
use Rattle.wiz_tool.specs.Outcomes.{IsPut, TaskOutcome}
use Rattle.wiz_tool.specs.Output.{GrewByPart}
use Rattle.wiz_logs.specs.Regroupings.{done_outcome, log_file, outcome_by, stands_of, traces_outcome}
use Rattle.wiz_tool.specs.Statuses.{of_stands}
use Rattle.wiz_tool.specs.inside.Told.{IsStopped, IsReportedBy}
use Rattle.wiz_tool.specs.Environment.{Environment, around_of, environment}
use Rattle.wiz_task.proofs.EndLemmas.{put_short, put_told}

-- where not all is done
not_done : (status : Status) (files : List NamedFile) (text : List ℕ) (replays : List Replayed) → (status ≡ s.Done → ⊥)
    → outcome_by status files text replays ≡ traces_outcome status replays
not_done s.Done files text replays apart = absurd (apart refl)
not_done s.Words files text replays apart = refl
not_done s.NoFile files text replays apart = refl
not_done s.Unread files text replays apart = refl
not_done s.Unwritten files text replays apart = refl
not_done s.Program files text replays apart = refl
not_done s.Plan files text replays apart = refl
not_done s.Halted files text replays apart = refl
not_done s.Log files text replays apart = refl
not_done s.Diverged files text replays apart = refl
not_done s.Starved files text replays apart = refl
not_done s.OutOfMemory files text replays apart = refl
not_done s.TooLong files text replays apart = refl
not_done s.Groups files text replays apart = refl
not_done s.TooMany files text replays apart = refl
not_done s.Parted files text replays apart = refl
not_done s.Incomplete files text replays apart = refl

pub traces_told : (status : Status) (files : List NamedFile) (text : List ℕ) (replays : List Replayed) (before after : Environment) (result : Result Report AllocError)
    → (status ≡ s.Done → ⊥) → after.store.files ≡ before.store.files → IfOk result (IsPut (traces_outcome status replays) before.out after.out)
    → OnErr result (GrewByPart before.out.bytes after.out.bytes (traces_text replays)) → IsReportedBy (outcome_by status files text replays) (around_of before after) result
traces_told status files text replays before after (Ok report) apart same put short =
    rw (not_done status files text replays apart) (put_told (traces_outcome status replays) before after report refl same put)
traces_told status files text replays before after (Err error) apart same put short =
    rw (not_done status files text replays apart) (put_short (traces_outcome status replays) before after error refl same short)

-- memory was out when the files were written, or some of them
pub cut_told : (outcome : TaskOutcome) (before : Environment) (store : ObservedFiles) (written : Result (Unit {0}) Unwritten) (error : AllocError)
    → OnOk written (AreWritten before.store.files store.files outcome.files [])
    → IfErr written (IsStopped before.store store outcome.files)
    → IsReportedBy outcome (around_of before (environment store before.out)) (Err error)
cut_told outcome before store (Ok unit) error ok stopped =
    inl (inl (record { front = outcome.files; behind = []; are = sym (append-nil outcome.files); up_to = ok }), refl)
cut_told outcome before store (Err (Failed name)) error ok stopped = inl (inr (string_bytes name, stopped.1), refl)
cut_told outcome before store (Err OutOfMemory) error ok stopped = inl (stopped, refl)

-- what is put out makes the outcome
pub put_traces : (status : Status) (replays : List Replayed) (text : List ℕ) (before after : ObservedOutput) (report : Report) → text ≡ traces_text replays
    → IsPut (record { files = []; text = text; status = status; run = None; replays = replays }) before after report
    → IsPut (traces_outcome status replays) before after report
put_traces status replays text before after report text_is put = rw (← text_is) put

-- ---- by the stands

pub one_status : (replayed : Replayed) (ends : List Stand) (status : Status) → ends ≡ replayed.ends → status ≡ of_stands ends
    → of_stands (stands_of (replayed ∷ [])) ≡ status
one_status replayed ends status same is = ap of_stands (append-nil replayed.ends ∙ sym same) ∙ sym is

pub two_status : (first second : Replayed) (ends others : List Stand) (status : Status) → ends ≡ first.ends → others ≡ second.ends
    → status ≡ of_stands (ends ++ others) → of_stands (stands_of (first ∷ second ∷ [])) ≡ status
two_status first second ends others status same too is =
    ap of_stands (ap (λ (stands : List Stand). first.ends ++ stands) (append-nil second.ends ∙ sym too) ∙ ap (λ (stands : List Stand). stands ++ others) (sym same)) ∙ sym is

pub by_stands : (status : Status) (stands : List Stand) (files : List NamedFile) (text : List ℕ) (replays : List Replayed) (before after : Environment) (result : Result Report AllocError)
    → of_stands stands ≡ status → IsReportedBy (outcome_by status files text replays) (around_of before after) result
    → IsReportedBy (outcome_by (of_stands stands) files text replays) (around_of before after) result
by_stands status stands files text replays before after result is told =
    subst (λ (s : Status). IsReportedBy (outcome_by s files text replays) (around_of before after) result) (sym is) told

pub refined_is_told : (files : List NamedFile) (text words : List ℕ) (replays others : List Replayed) → text ≡ words → replays ≡ others
    → done_outcome files text replays ≡ done_outcome files words others
refined_is_told files text words replays others same too = rw (same, too) refl

pub joined_is_told : (file bytes text : List ℕ) (whole : Log) (replays others : List Replayed) → bytes ≡ log_bytes whole → text ≡ joined_text whole.group
    → replays ≡ others
    → done_outcome ((record { name = file; bytes = bytes }) ∷ []) text replays ≡ done_outcome (log_file file whole) (joined_text whole.group) others
joined_is_told file bytes text whole replays others are says same = rw (are, says, same) refl

-- told of a list of replays, it is told of an equal one
pub traces_of : (status : Status) (files : List NamedFile) (text : List ℕ) (replays made : List Replayed) (before after : Environment) (result : Result Report AllocError)
    → (status ≡ s.Done → ⊥) → after.store.files ≡ before.store.files → made ≡ replays → IfOk result (IsPut (traces_outcome status made) before.out after.out)
    → OnErr result (GrewByPart before.out.bytes after.out.bytes (traces_text made)) → IsReportedBy (outcome_by status files text replays) (around_of before after) result
traces_of status files text replays made before after result apart same are put short =
    traces_told status files text replays before after result apart same
    (subst (λ (r : List Replayed). IfOk result (IsPut (traces_outcome status r) before.out after.out)) are put)
    (subst (λ (r : List Replayed). OnErr result (GrewByPart before.out.bytes after.out.bytes (traces_text r))) are short)
