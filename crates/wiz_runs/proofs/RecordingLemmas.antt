-- A recording of what is run.
use Rattle.std.proofs.Common.{◌≡◌, Bool, ℕ, List, [], ◌∷◌, false, map, refl, subst, sym, true}
use Rattle.std.specs.List.{AllByRecursion}
use Rattle.std.proofs.lemmas.List.{length-map}
use Rattle.c_program.specs.View.{pure_program}
use Rattle.c_program.specs.Program.{next_of, output_of}
use Rattle.c_program.specs.laws.ProgramLaws.{asks_in_bounds, ends_exactly, enters_in_form}
use Rattle.causes.specs.Clocks.{AreOfRanks}
use Rattle.explanation_text.proofs.OrderLaws.{IsOrderText-turns}
use Rattle.group_plan.specs.Plans.{IsPlan, number_of_ranks}
use Rattle.log_bounds.specs.RunBounds.{RepliesFit32, LogsAreInBounds, LogBytesAreShort}
use Rattle.msg_races.proofs.Ranks.{run_ranks}
use Rattle.picked_runs.specs.declared.turn.Turn.{Turn}
use Rattle.picked_runs.specs.PickLaws.{EveryRunIsRecorded, PicksAreTurns, PicksFixRun, TurnsFixRun}
use Rattle.picked_runs.specs.Picked.{IsPicked}
use Rattle.picked_runs.specs.Turns.{IsRunByTurns, turns_of}
use Rattle.plan_advice.specs.Costs.{IsRunOfAProgram}
use Rattle.replay_model.specs.Laws.{IsRunWith}
use Rattle.run_model.specs.declared.event.Event.{Event}
use Rattle.run_model.specs.Chosen.{order_of}
use Rattle.run_model.specs.Run.{IsRun}
use Rattle.run_model.specs.Views.{Next}
use Rattle.run_model.proofs.Prompt.{prompt_is_run}
use Rattle.srr_entry.specs.declared.log.Log.{Log}
use Rattle.srr_entry.specs.Entries.{log_of}
use Rattle.srr_entry.specs.Outputs.{Output}
use Rattle.srr_record.specs.declared.recording.Recording.{Recording}
use Rattle.srr_record.specs.Recordings.{IsRecorded, IsRecording, recording_with}
use Rattle.wiz_task.specs.declared.ready.Ready.{Ready}
use Rattle.wiz_task.specs.Recordings.{IsInTurns, IsOrderOf, IsReadable}
use Rattle.wiz_task.specs.inside.Recording.{CanRun, IsMadeRecording}
use Rattle.wiz_runs.proofs.ReadableLogs.{in_bounds_of, readable_logs}

-- each log of a run is one of it
logs_of_run : (next : Next) (text : List ℕ) (n : ℕ) (events : List Event) (groups : List (List ℕ)) → IsRun next n events
    → AllByRecursion (λ (log : Log). IsRunWith next log events) (map (log_of text n events) groups)
logs_of_run next text n events [] run = tt
logs_of_run next text n events (group ∷ groups) run = (record { is_run = run; same_log = refl }, logs_of_run next text n events groups run)

-- the order of a run is read back
order_of_run : (next : Next) (n : ℕ) (recording : Recording) → PicksAreTurns next n → IsPicked next n recording.picks.written recording.history.events → IsOrderOf n recording
order_of_run next n recording law picked =
    IsOrderText-turns n (turns_of (order_of recording.history.events) recording.picks.written) (law recording.picks.written recording.history.events picked)

-- the run of the turns is the only one, and begins with each run whose order and picks they are
pub in_turns : (next : Next) (output : Output) (n : ℕ) (text : List ℕ) (groups : List (List ℕ)) (turns : List Turn) (recording : Recording) → EveryRunIsRecorded next n
    → TurnsFixRun next n → IsRecording next output n (recording_with text groups turns) recording → IsInTurns next n turns recording.history.events
in_turns next output n text groups turns recording every fix is = record {
  run = is.in_turns;
  only = λ others taken. fix turns others recording.history.events taken is.in_turns.taken;
  allowed = λ run is_run numbered free same.
      let F : List Turn → Type 0 = λ order. IsRunByTurns next n order recording.history.events in
      every run recording.history.events is_run numbered free (subst F (sym same) is.in_turns.taken);
}

pub made_by : (ready : Ready) (recording : Recording) → CanRun ready
    → IsRecorded (next_of (pure_program ready.program)) (output_of (pure_program ready.program)) (number_of_ranks ready.plan) ready.text ready.plan recording
    → LogsAreInBounds (next_of (pure_program ready.program)) (number_of_ranks ready.plan) → LogBytesAreShort (next_of (pure_program ready.program)) (number_of_ranks ready.plan) → RepliesFit32 recording.history.events → PicksAreTurns (next_of (pure_program ready.program)) (number_of_ranks ready.plan)
    → PicksFixRun (next_of (pure_program ready.program)) (number_of_ranks ready.plan) → IsPlan ready.plan
    → (is_threaded : Bool)
    → (is_threaded ≡ false → IsInTurns (next_of (pure_program ready.program)) (number_of_ranks ready.plan) ready.turns recording.history.events)
    → IsMadeRecording is_threaded ready recording
made_by ready recording is recorded law brief words turns fix plan is_threaded in_turns =
    let readable : AllByRecursion IsReadable recording.logs =
    rw recorded.logs
    (readable_logs (next_of (pure_program ready.program)) ready.text recording.picks.written recording.history.events ready.plan law brief recorded.picked words (rw is.1.text is.1.short) plan) in
    record {
      is_recording = record {
        recorded = recorded;
        in_turns = in_turns;
        alone = λ other picked same. fix recording.picks.written other recording.history.events picked recorded.picked same;
        order = order_of_run (next_of (pure_program ready.program)) (number_of_ranks ready.plan) recording turns recorded.picked;
        readable = readable;
        of_the_run =
            rw recorded.logs
            (logs_of_run (next_of (pure_program ready.program)) ready.text (number_of_ranks ready.plan) recording.history.events ready.plan
            (prompt_is_run (next_of (pure_program ready.program)) (number_of_ranks ready.plan) recording.history.events recorded.picked.run));
      };
      in_bounds = in_bounds_of recording.logs readable;
      few = rw (recorded.logs, length-map ready.plan (log_of ready.text (number_of_ranks ready.plan) recording.history.events)) plan.few_groups;
    }

-- what is said of a recording on one thread is more than what is said of one on threads
pub made_on_threads : (is_threaded : Bool) (ready : Ready) (recording : Recording) → IsMadeRecording is_threaded ready recording → IsMadeRecording true ready recording
made_on_threads is_threaded ready recording made =
    let is = made.is_recording in
    record {
      is_recording = record { recorded = is.recorded; in_turns = λ no. absurd (cc); alone = is.alone; order = is.order; readable = is.readable; of_the_run = is.of_the_run };
      in_bounds = made.in_bounds;
      few = made.few;
    }

-- the events of a recording are a run
pub recorded_run : (is_threaded : Bool) (ready : Ready) (recording : Recording) → IsMadeRecording is_threaded ready recording
    → IsRun (next_of (pure_program ready.program)) (number_of_ranks ready.plan) recording.history.events
recorded_run is_threaded ready recording made =
    prompt_is_run (next_of (pure_program ready.program)) (number_of_ranks ready.plan) recording.history.events made.is_recording.recorded.picked.run

-- the run of what is run
pub run_made : (is_threaded : Bool) (ready : Ready) (recording : Recording) → IsMadeRecording is_threaded ready recording
    → IsRunOfAProgram (number_of_ranks ready.plan) recording.history.events
run_made is_threaded ready recording made = record {
  next = next_of (pure_program ready.program);
  ends = ends_exactly (pure_program ready.program);
  asks = asks_in_bounds (pure_program ready.program);
  enters = enters_in_form (pure_program ready.program);
  run = recorded_run is_threaded ready recording made;
}

-- its events are of its ranks
pub ranks_below : (is_threaded : Bool) (ready : Ready) (recording : Recording) → IsMadeRecording is_threaded ready recording
    → AreOfRanks (number_of_ranks ready.plan) recording.history.events
ranks_below is_threaded ready recording made =
    run_ranks (next_of (pure_program ready.program)) (number_of_ranks ready.plan) recording.history.events (recorded_run is_threaded ready recording made)
