-- What a replay does, and how it is told.
use Rattle.std.proofs.Common.{◌≡◌, refl, ℕ, List, [], ◌∷◌, None}
use Rattle.replay_model.specs.declared.replayed.Replayed.{Replayed}
use Rattle.wiz_words.specs.declared.command.ReplayWords.{ReplayWords}
use Rattle.wiz_logs.specs.declared.replaying.subject.Subject.{Subject}
use Rattle.wiz_tool.specs.declared.status.Status.{Status}
use Rattle.wiz_task.specs.Tasks.{IsDoneFor}
use Rattle.wiz_logs.specs.Logs.{replay_inputs, replay_outcome, TellsReplay, replay_task}
use Rattle.wiz_tool.specs.Outcomes.{IsPut}
use Rattle.wiz_tool.specs.Inputs.{AreHeld}
use Rattle.wiz_task.specs.Replayings.{IsReplayOf}
use Rattle.wiz_tool.specs.Statuses.{of_stands}
use Rattle.wiz_logs.specs.inside.Replaying.{IsSubjectOf, used_text}
use Rattle.wiz_tool.specs.Environment.{Environment}
use Rattle.wiz_io.specs.Output.{ObservedOutput}
use Rattle.wiz_trace.specs.TraceTexts.{trace_text}
use Rattle.wiz_tool.specs.declared.report.Report.{Report}

-- a replay's trace and status make its outcome
pub put_replay : (replayed : Replayed) (text : List ℕ) (status : Status) (replays : List Replayed) (before after : ObservedOutput) (report : Report)
    → text ≡ trace_text replayed → status ≡ of_stands replayed.ends → replays ≡ replayed ∷ []
    → IsPut (record { files = []; text = text; status = status; run = None; replays = replays }) before after report
    → IsPut (replay_outcome replayed) before after report
put_replay replayed text status replays before after report text_is status_is one put = rw (← text_is, ← status_is, ← one) put

pub replay_done : (replay : ReplayWords (List ℕ)) (before : Environment) (texts : List (List ℕ)) (subject : Subject) (replayed : Replayed)
    → AreHeld before.store.files (replay_inputs replay) texts → IsSubjectOf texts subject
    → IsReplayOf (used_text subject.log subject.text) subject.log replay.stop replayed → IsDoneFor (replay_task replay TellsReplay) before (replay_outcome replayed)
replay_done replay before texts subject replayed held is of =
    (texts, held, (subject.log, is.is_log, (replayed, rw is.is_text at of, refl)))
