-- What each command does.
use Rattle.c_program.specs.View.{pure_program}
use Rattle.std.proofs.Common.{◌≡◌, refl, ℕ, List, [], Option, Bool, true, false, inr, min}
use Rattle.c_program.specs.Tree.{Program}
use Rattle.c_program.specs.Program.{next_of}
use Rattle.explanation_text.specs.AdviceTexts.{advice_text}
use Rattle.explanation_text.specs.WaitsTexts.{waits_text}
use Rattle.group_plan.specs.Plans.{number_of_ranks}
use Rattle.mpi_call.specs.Lists.{IsIn}
use Rattle.other_picks.specs.declared.other.OtherPick.{OtherPick}
use Rattle.other_picks.specs.Others.{others_of}
use Rattle.plan_advice.specs.declared.advice.Advice.{Advice}
use Rattle.plan_advice.specs.Advices.{IsAdvice, RunsHaveOneAdvice}
use Rattle.plan_advice.specs.Costs.{block_cost, plan_cost}
use Rattle.plan_advice.specs.Cuttings.{CertificatesBound}
use Rattle.run_model.specs.declared.event.Event.{Event}
use Rattle.run_model.specs.Views.{Next}
use Rattle.srr_record.specs.declared.recording.Recording.{Recording}
use Rattle.wait_graph.specs.declared.graph.Graph.{Graph}
use Rattle.wait_graph.specs.Graph.{graph_of}
use Rattle.wait_graph.specs.Laws.{BlockedExactly, BlockedWait, HasCause, IsEndedRun, OpensDiffer, StuckExactly}
use Rattle.wait_graph.specs.Opens.{NoneFits}
use Rattle.wiz_trace.specs.CheckTexts.{check_text}
use Rattle.wiz_trace.specs.DemoTexts.{demo_text}
use Rattle.wiz_words.specs.declared.command.RunWords.{RunWords}
use Rattle.wiz_words.specs.Words.{is_threaded_run}
use Rattle.wiz_runs.specs.declared.commands.check.CheckedRun.{CheckedRun}
use Rattle.wiz_runs.specs.declared.commands.races.RacesText.{RacesText}
use Rattle.wiz_tool.specs.declared.failure.Failure.{Failure}
use Rattle.wiz_task.specs.declared.ready.Ready.{Ready}
use Rattle.wiz_tool.specs.declared.status.Status.{Status}
use Rattle.wiz_task.specs.Tasks.{IsDoneFor, IsRefusedFor}
use Rattle.wiz_runs.specs.Runs.{check_outcome, checked, demo_texts, demonstrated, races_outcome, record_outcome, run_inputs, run_requirements, run_texts, TellsAdvice, TellsCheck, TellsRaces, TellsRecord, TellsWaits, demo_task, run_task}
use Rattle.wiz_tool.specs.Outcomes.{run_outcome, TaskOutcome}
use Rattle.wiz_tool.specs.Inputs.{AreHeld}
use Rattle.wiz_runs.specs.Pictures.{IsPictureOf, TellsPicture, picture_outcome}
use Rattle.wiz_runs.specs.RaceOrders.{IsOtherOrder}
use Rattle.wiz_task.specs.Recordings.{Records, RunTexts}
use Rattle.wiz_tool.specs.Statuses.{of_ending}
use Rattle.wiz_runs.specs.inside.Races.{AreRacesOf}
use Rattle.wiz_runs.specs.inside.Recording.{IsCheckedRun}
use Rattle.wiz_runs.proofs.RecordingLemmas.{recorded_run}
use Rattle.wiz_task.specs.inside.Recording.{IsMadeRecording, IsReadyToRecord}
use Rattle.wiz_task.specs.inside.Refusals.{IsUnmetIn}
use Rattle.wiz_tool.specs.inside.Told.{IsFailureBy}
use Rattle.wiz_tool.specs.Environment.{Environment}
use Rattle.wiz_task.proofs.InputLemmas.{weaken}

-- a recording of what texts hold
records : (is_threaded : Bool) (texts : RunTexts) (ready : Ready) (recording : Recording) (Tells : Program → List (List ℕ) → Recording → TaskOutcome → Type 0) (outcome : TaskOutcome)
    → IsReadyToRecord texts ready → IsMadeRecording is_threaded ready recording → Tells (pure_program ready.program) ready.plan recording outcome → Records is_threaded texts Tells outcome
records is_threaded texts ready recording Tells outcome is made tells = record {
  program = (pure_program ready.program);
  groups = ready.plan;
  turns = ready.turns;
  recording = recording;
  prepared = is.prepared;
  is_recording = rw is.text at made.is_recording;
  tells = tells;
}

pub record_done : (run : RunWords (List ℕ)) (prefix : List ℕ) (before : Environment) (texts : List (List ℕ)) (ready : Ready) (recording : Recording)
    → AreHeld before.store.files (run_inputs run) texts → IsReadyToRecord (run_texts texts) ready → IsMadeRecording (is_threaded_run run) ready recording
    → IsDoneFor (run_task run (TellsRecord prefix)) before (record_outcome prefix recording)
record_done run prefix before texts ready recording held is made =
    (texts, held, records (is_threaded_run run) (run_texts texts) ready recording (TellsRecord prefix) (record_outcome prefix recording) is made refl)

pub check_done : (run : RunWords (List ℕ)) (before : Environment) (texts : List (List ℕ)) (ready : Ready) (of : CheckedRun)
    → AreHeld before.store.files (run_inputs run) texts → IsReadyToRecord (run_texts texts) ready → IsCheckedRun (is_threaded_run run) ready of
    → IsDoneFor (run_task run (TellsCheck checked)) before (check_outcome (check_text ready.plan of.replays of.recording.ending) of.recording of.replays)
check_done run before texts ready of held is made = (
  texts,
  held,
  records (is_threaded_run run) (run_texts texts) ready of.recording (TellsCheck checked)
      (check_outcome (check_text ready.plan of.replays of.recording.ending) of.recording of.replays) is made.made (of.replays, made.checks, refl),
)

-- the text of an advice is told
pub advice_told : (most n block given : ℕ) (program : Program) (groups : List (List ℕ)) (recording : Recording) (advice : Advice) (text : List ℕ) (status : Status) (outcome : TaskOutcome)
    → n ≡ number_of_ranks groups → block ≡ min most n → IsAdvice n recording.history.events block advice
    → given ≡ plan_cost (number_of_ranks groups) recording.history.events groups → text ≡ advice_text advice given recording.ending
    → status ≡ of_ending recording.ending → outcome ≡ run_outcome status text recording [] → RunsHaveOneAdvice → CertificatesBound
    → TellsAdvice most program groups recording outcome
advice_told most n block given program groups recording advice text status outcome n_is block_is is given_is text_is status_is outcome_is one bound =
    let ranks : ℕ = number_of_ranks groups in
    let events : List Event = recording.history.events in
    let is' : IsAdvice ranks events (min most ranks) advice = rw (block_is, n_is) at is in (
      advice,
      is',
      λ other is_other. one ranks events (min most ranks) other advice is_other is',
      λ ends cutting.
          rw is'.certified.last
          (bound (block_cost ranks events) ranks (min most ranks) advice.bounds ends is'.certified.bounds cutting),
      rw (outcome_is, status_is, text_is, given_is) refl,
    )

pub races_done : (run : RunWords (List ℕ)) (orders : Option (List ℕ)) (before : Environment) (texts : List (List ℕ)) (ready : Ready) (recording : Recording) (told : RacesText)
    → AreHeld before.store.files (run_inputs run) texts → IsReadyToRecord (run_texts texts) ready → IsMadeRecording (is_threaded_run run) ready recording
    → (of : AreRacesOf ready recording told)
    → ((other : OtherPick) → IsIn other (others_of (number_of_ranks ready.plan) recording.history.events)
    → IsOtherOrder (next_of (pure_program ready.program)) (number_of_ranks ready.plan) recording other)
    → IsDoneFor (run_task run (TellsRaces orders)) before (races_outcome orders (number_of_ranks ready.plan) of.0 recording)
races_done run orders before texts ready recording told held is made of others = (
  texts,
  held,
  records (is_threaded_run run) (run_texts texts) ready recording (TellsRaces orders) (races_outcome orders (number_of_ranks ready.plan) of.0 recording) is made
      (record { receives = of.0; are_races = of.1; only = of.2; is_outcome = refl; others = others }),
)

-- the text of who waits for whom is told
pub waits_told : (n : ℕ) (ready : Ready) (recording : Recording) (graph : Graph) (text : List ℕ) (status : Status) (outcome : TaskOutcome)
    → n ≡ number_of_ranks ready.plan → IsMadeRecording true ready recording → graph ≡ graph_of n recording.history.events
    → text ≡ waits_text n recording.history.events graph recording.ending → status ≡ of_ending recording.ending
    → outcome ≡ run_outcome status text recording [] → StuckExactly (next_of (pure_program ready.program)) n → BlockedExactly (next_of (pure_program ready.program)) n
    → BlockedWait (next_of (pure_program ready.program)) n → HasCause (next_of (pure_program ready.program)) n → ((events : List Event) → NoneFits events)
    → OpensDiffer (next_of (pure_program ready.program)) n
    → TellsWaits (pure_program ready.program) ready.plan recording outcome
waits_told n ready recording graph text status outcome n_is made graph_is text_is status_is outcome_is stuck blocked waits cause none opens =
    let ranks : ℕ = number_of_ranks ready.plan in
    let next : Next = next_of (pure_program ready.program) in
    let events : List Event = recording.history.events in
    let ended : IsEndedRun next ranks events = record { is_run = recorded_run true ready recording made; ended = made.is_recording.recorded.ended } in
    let stuck' : StuckExactly next ranks = rw n_is at stuck in
    let blocked' : BlockedExactly next ranks = rw n_is at blocked in
    let waits' : BlockedWait next ranks = rw n_is at waits in
    let cause' : HasCause next ranks = rw n_is at cause in
    let opens' : OpensDiffer next ranks = rw n_is at opens in
    record {
      is_outcome = rw (outcome_is, status_is, text_is, graph_is, n_is) refl;
      stuck = stuck' events ended;
      reason = λ halted. record {
        blocked = blocked' events ended halted;
        waits = waits' events ended halted;
        opens = opens' events ended halted;
        cause = cause' events ended halted;
      };
      none_fits = none events;
    }

pub waits_done : (run : RunWords (List ℕ)) (before : Environment) (texts : List (List ℕ)) (ready : Ready) (recording : Recording) (outcome : TaskOutcome)
    → AreHeld before.store.files (run_inputs run) texts → IsReadyToRecord (run_texts texts) ready → IsMadeRecording (is_threaded_run run) ready recording
    → TellsWaits (pure_program ready.program) ready.plan recording outcome → IsDoneFor (run_task run TellsWaits) before outcome
waits_done run before texts ready recording outcome held is made tells =
    (texts, held, records (is_threaded_run run) (run_texts texts) ready recording TellsWaits outcome is made tells)

pub picture_done : (run : RunWords (List ℕ)) (file : List ℕ) (is_trace : Bool) (before : Environment) (texts : List (List ℕ)) (ready : Ready) (recording : Recording)
    (picture : Option (List ℕ)) → AreHeld before.store.files (run_inputs run) texts → IsReadyToRecord (run_texts texts) ready
    → IsMadeRecording (is_threaded_run run) ready recording → IsPictureOf is_trace (pure_program ready.program) ready.plan recording picture
    → IsDoneFor (run_task run (TellsPicture file is_trace)) before (picture_outcome file recording picture)
picture_done run file is_trace before texts ready recording picture held is made of = (
  texts,
  held,
  records (is_threaded_run run) (run_texts texts) ready recording (TellsPicture file is_trace) (picture_outcome file recording picture) is made
      (record { picture = picture; is_picture = of; is_outcome = refl }),
)

pub advise_done : (run : RunWords (List ℕ)) (most : ℕ) (before : Environment) (texts : List (List ℕ)) (ready : Ready) (recording : Recording) (outcome : TaskOutcome)
    → AreHeld before.store.files (run_inputs run) texts → IsReadyToRecord (run_texts texts) ready → IsMadeRecording (is_threaded_run run) ready recording
    → TellsAdvice most (pure_program ready.program) ready.plan recording outcome → IsDoneFor (run_task run (TellsAdvice most)) before outcome
advise_done run most before texts ready recording outcome held is made tells =
    (texts, held, records (is_threaded_run run) (run_texts texts) ready recording (TellsAdvice most) outcome is made tells)

pub demo_done : (seed rounds : ℕ) (before : Environment) (ready : Ready) (of : CheckedRun) → IsReadyToRecord (run_texts (demo_texts seed rounds)) ready → IsCheckedRun false ready of
    → IsDoneFor (demo_task seed rounds) before
    (check_outcome (demo_text seed rounds of.recording.history.events ready.plan of.replays of.recording.ending) of.recording of.replays)
demo_done seed rounds before ready of is made = (
  [],
  tt,
  records false (run_texts (demo_texts seed rounds)) ready of.recording (TellsCheck (demonstrated seed rounds))
      (check_outcome (demo_text seed rounds of.recording.history.events ready.plan of.replays of.recording.ending) of.recording of.replays) is made.made (of.replays, made.checks, refl),
)

pub demo_unmet : (seed rounds : ℕ) (before after : Environment) (failure : Failure) → IsFailureBy (IsUnmetIn (run_requirements (demo_texts seed rounds))) failure
    → IsFailureBy (IsRefusedFor (demo_task seed rounds) before after) failure
demo_unmet seed rounds before after failure is =
    weaken (IsUnmetIn (run_requirements (demo_texts seed rounds))) (IsRefusedFor (demo_task seed rounds) before after) (λ refused first. inr ([], tt, first.0, first.1)) failure is
