-- The replay of each group's log of a recording.
use Rattle.std.proofs.Common.{◌≡◌, Bool, ℕ, List, [], ◌∷◌, ◌++◌, ◌<◌, ◌≤◌, ◌+◌, None, refl, map, take, length, get_or}
use Rattle.std.specs.List.{AllByRecursion, AllZip}
use Rattle.std.proofs.lemmas.List.{take_all, take_more}
use Rattle.c_program.specs.View.{pure_program}
use Rattle.c_program.specs.Tree.{Program}
use Rattle.c_program.specs.Program.{next_of}
use Rattle.c_types.specs.Checks.{IsProgramOf}
use Rattle.replay_model.specs.Laws.{IsRunWith}
use Rattle.run_model.specs.declared.event.Event.{Event}
use Rattle.run_model.specs.Run.{IsRun}
use Rattle.srr_entry.specs.declared.log.Log.{Log}
use Rattle.srr_entry.specs.Entries.{log_of}
use Rattle.wiz_task.specs.Recordings.{IsReadable}
use Rattle.wiz_task.specs.Replayings.{AreChecksOf, IsReplayOf}
use Rattle.replay_model.specs.declared.replayed.Replayed.{Replayed}
use Rattle.srr_record.specs.declared.recording.Recording.{Recording}
use Rattle.group_plan.specs.Plans.{number_of_ranks}
use Rattle.wiz_task.specs.declared.ready.Ready.{Ready}
use Rattle.wiz_task.specs.inside.Recording.{CanRun, IsMadeRecording}
use Rattle.wiz_runs.specs.inside.Recording.{IsKeptLog}
use Rattle.wiz_runs.proofs.RecordingLemmas.{recorded_run}

-- the logs of a recording are kept
pub kept_logs : (program : Program) (text : List ℕ) (n : ℕ) (events : List Event) (groups : List (List ℕ)) → IsProgramOf text program
    → AllByRecursion IsReadable (map (log_of text n events) groups)
    → AllByRecursion (IsKeptLog program) (map (log_of text n events) groups)
kept_logs program text n events [] is readable = tt
kept_logs program text n events (group ∷ groups) is readable = (
  record { readable = readable.0; is_program = is },
  kept_logs program text n events groups is readable.1,
)

zip_push : (R : Log → Replayed → Type 0) (logs : List Log) (replays : List Replayed) (log : Log) (replayed : Replayed) → AllZip R logs replays → R log replayed
    → AllZip R (logs ++ log ∷ []) (replays ++ replayed ∷ [])
zip_push R [] [] log replayed all one = (one, tt)
zip_push R [] (other ∷ replays) log replayed all one = absurd all
zip_push R (other ∷ logs) [] log replayed all one = absurd all
zip_push R (first ∷ logs) (second ∷ replays) log replayed all one = (all.0, zip_push R logs replays log replayed all.1 one)

-- one log more
pub replays_more : (logs : List Log) (replays : List Replayed) (k : ℕ) (log : Log) (replayed : Replayed) → k < length logs → log ≡ get_or logs k log
    → AllZip (λ (log : Log). IsReplayOf log.program log None) (take k logs) replays → IsReplayOf log.program log None replayed
    → AllZip (λ (log : Log). IsReplayOf log.program log None) (take (k + 1) logs) (replays ++ replayed ∷ [])
replays_more logs replays k log replayed below is all one =
    rw (take_more logs k log below, ← is) (zip_push (λ (log : Log). IsReplayOf log.program log None) (take k logs) replays log replayed all one)

-- all of them
pub replays_all : (logs : List Log) (replays : List Replayed) (k : ℕ) → length logs ≤ k
    → AllZip (λ (log : Log). IsReplayOf log.program log None) (take k logs) replays → AllZip (λ (log : Log). IsReplayOf log.program log None) logs replays
replays_all logs replays k over all = rw (take_all k logs over) at all

-- each replay has what the run has
pub checks_of : (program : Program) (text : List ℕ) (n : ℕ) (events : List Event) (groups : List (List ℕ)) (replays : List Replayed) → IsProgramOf text program
    → IsRun (next_of program) n events → AllZip (λ (log : Log). IsReplayOf log.program log None) (map (log_of text n events) groups) replays
    → AreChecksOf program events (map (log_of text n events) groups) replays
checks_of program text n events [] [] is run all = tt
checks_of program text n events [] (replayed ∷ replays) is run all = absurd all
checks_of program text n events (group ∷ groups) [] is run all = absurd all
checks_of program text n events (group ∷ groups) (replayed ∷ replays) is run all =
    let log : Log = log_of text n events group in
    let with : IsRunWith (next_of program) log events = record { is_run = run; same_log = refl } in
    let of = (all.0.shows program is).runs events with in
    (record { replay = all.0; views = of.views refl; outputs = of.outputs refl }, checks_of program text n events groups replays is run all.1)

-- what is run is a program of its text
text_is : (ready : Ready) → CanRun ready → IsProgramOf ready.text (pure_program ready.program)
text_is ready can = rw can.1.text can.1.prepared.is_program

pub logs_kept : (ready : Ready) (is_threaded : Bool) (recording : Recording) → CanRun ready → IsMadeRecording is_threaded ready recording
    → AllByRecursion (IsKeptLog (pure_program ready.program)) recording.logs
logs_kept ready is_threaded recording can made =
    let recorded = made.is_recording.recorded in
    rw recorded.logs
    (kept_logs (pure_program ready.program) ready.text (number_of_ranks ready.plan) recording.history.events ready.plan (text_is ready can)
    (rw recorded.logs at made.is_recording.readable))

pub logs_checked : (ready : Ready) (is_threaded : Bool) (recording : Recording) (replays : List Replayed) → CanRun ready → IsMadeRecording is_threaded ready recording
    → AllZip (λ (log : Log). IsReplayOf log.program log None) recording.logs replays → AreChecksOf (pure_program ready.program) recording.history.events recording.logs replays
logs_checked ready is_threaded recording replays can made all =
    let recorded = made.is_recording.recorded in
    rw recorded.logs
    (checks_of (pure_program ready.program) ready.text (number_of_ranks ready.plan) recording.history.events ready.plan replays (text_is ready can)
    (recorded_run is_threaded ready recording made)
    (rw recorded.logs at all))
