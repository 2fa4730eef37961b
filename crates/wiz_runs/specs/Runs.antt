-- Commands that run a program: their input files, what is required of these, and how a recording is told.
use Rattle.c_program.specs.Program.{next_of}
use Rattle.c_program.specs.Tree.{Program}
use Rattle.clap.specs.Words.{Text}
use Rattle.explanation_text.specs.AdviceTexts.{advice_text}
use Rattle.explanation_text.specs.RacesTexts.{races_text}
use Rattle.explanation_text.specs.WaitsTexts.{waits_text}
use Rattle.group_plan.specs.Plans.{number_of_ranks}
use Rattle.mpi_call.specs.Lists.{IsIn}
use Rattle.mpi_call.specs.declared.call.Halt.TheVariants.{Stuck}
use Rattle.msg_races.specs.Names.{count_racing, most_racing}
use Rattle.msg_races.specs.Races.{AreRaces}
use Rattle.msg_races.specs.declared.receives.WildcardReceive.{WildcardReceive}
use Rattle.other_picks.specs.Others.{others_of}
use Rattle.other_picks.specs.declared.other.OtherPick.{OtherPick}
use Rattle.plan_advice.specs.Advices.{IsAdvice}
use Rattle.plan_advice.specs.Costs.{block_cost, plan_cost}
use Rattle.plan_advice.specs.Cuttings.{IsCutting, cutting_cost}
use Rattle.plan_advice.specs.declared.advice.Advice.{Advice}
use Rattle.replay_model.specs.declared.replayed.Replayed.{Replayed}
use Rattle.run_model.specs.Due.{halted}
use Rattle.run_text.specs.RecordTexts.{record_text}
use Rattle.srr_record.specs.declared.recording.Recording.{Recording}
use Rattle.std.specs.Prelude.{List, None, Option, Some, [], codes, false, if◌then◌else◌, min, nat_le, ℕ, ◌++◌, ◌∷◌, ◌≡◌, ◌≤◌}
use Rattle.wait_graph.specs.Graph.{graph_of}
use Rattle.wait_graph.specs.Opens.{NoneFits}
use Rattle.wiz_base.specs.Decimals.{decimal_text}
use Rattle.wiz_runs.specs.Demos.{demo_plan}
use Rattle.wiz_runs.specs.RaceOrders.{IsOtherOrder, order_files}
use Rattle.wiz_runs.specs.RecordFiles.{recording_files}
use Rattle.wiz_task.specs.Recordings.{Records, RunTexts}
use Rattle.wiz_task.specs.Replayings.{AreChecksOf}
use Rattle.wiz_task.specs.Requirements.{Requirement, a_plan, a_program, an_order}
use Rattle.wiz_runs.specs.StuckRuns.{HasReason, IsStuckExactly}
use Rattle.wiz_task.specs.Names.{Plan}
use Rattle.wiz_task.specs.Tasks.{Task}
use Rattle.wiz_tool.specs.Inputs.{Input, input, option_input, order_limit, text_limit}
use Rattle.wiz_tool.specs.Outcomes.{TaskOutcome, run_outcome}
use Rattle.wiz_tool.specs.Statuses.{of_ending}
use Rattle.wiz_tool.specs.declared.status.Status.TheVariants.{TooMany}
use Rattle.wiz_trace.specs.CheckTexts.{check_text}
use Rattle.wiz_trace.specs.DemoProgram.{demo_program}
use Rattle.wiz_trace.specs.DemoTexts.{demo_text}
use Rattle.wiz_words.specs.Words.{is_threaded_run}
use Rattle.wiz_words.specs.declared.command.RunWords.{RunWords}

-- the input files of a run: a program, a plan, and an order where one is named
abbrev pub run_inputs : RunWords Text → List Input
run_inputs run = input text_limit run.program ∷ input text_limit run.plan ∷ option_input order_limit run.order

-- what is required of the input files of a run
abbrev pub run_requirements : List Text → List Requirement
run_requirements (text ∷ plan ∷ []) = a_program text ∷ a_plan plan ∷ []
run_requirements (text ∷ plan ∷ order ∷ more) = a_program text ∷ a_plan plan ∷ an_order plan order ∷ []
run_requirements texts = []

-- a demo has no input files: its program and its plan are its own
abbrev pub demo_texts : ℕ → ℕ → List Text
demo_texts seed rounds = demo_program seed rounds ∷ demo_plan ∷ []

-- the texts of the input files of a run, by what they are
abbrev pub run_texts : List Text → RunTexts
run_texts (text ∷ plan ∷ []) = record { program = text; plan = plan; order = None }
run_texts (text ∷ plan ∷ order ∷ more) = record { program = text; plan = plan; order = Some order }
run_texts texts = record { program = []; plan = []; order = None }

-- the logs and the order of a run are written, and the record text is put out
abbrev pub record_outcome : Text → Recording → TaskOutcome
record_outcome prefix recording = record {
  files = recording_files prefix recording;
  text = record_text recording.outputs recording.ending;
  status = of_ending recording.ending;
  run = Some recording.history;
  replays = [];
}

-- how a recording is told whose logs were replayed
abbrev pub check_outcome : Text → Recording → List Replayed → TaskOutcome
check_outcome text recording replays = run_outcome (of_ending recording.ending) text recording replays

-- the message of a run with too many races
abbrev pub races_over_text : List ℕ
races_over_text = codes "races over " ++ decimal_text most_racing ++ codes "\n"

-- the receives of a run are listed; a message is put out where they have too many others, also where the run was halted
abbrev pub reported_races : List WildcardReceive → Recording → TaskOutcome
reported_races receives recording =
    if nat_le (count_racing receives) most_racing then check_outcome (races_text receives recording.ending) recording []
    else run_outcome TooMany races_over_text recording []

-- and the order files of its other picks are written, where a prefix is given
abbrev pub races_outcome : Option Text → ℕ → List WildcardReceive → Recording → TaskOutcome
races_outcome orders n receives recording = record (reported_races receives recording) { files = order_files orders n recording }

-- who waits for whom in a run is told
abbrev pub waits_outcome : ℕ → Recording → TaskOutcome
waits_outcome n recording =
    let events = recording.history.events in
    check_outcome (waits_text n events (graph_of n events) recording.ending) recording []

-- how a recording is told as it is
abbrev pub TellsRecord : Text → Program → Plan → Recording → TaskOutcome → Type 0
TellsRecord prefix program groups recording outcome = outcome ≡ record_outcome prefix recording

-- how a recording is told when the log of each group is replayed
abbrev pub TellsCheck : (Plan → Recording → List Replayed → Text) → Program → Plan → Recording → TaskOutcome → Type 0
TellsCheck text program groups recording outcome =
    (replays : List Replayed) × AreChecksOf program recording.history.events recording.logs replays
    × (outcome ≡ check_outcome (text groups recording replays) recording replays)

-- what `check` tells
abbrev pub checked : Plan → Recording → List Replayed → Text
checked groups recording replays = check_text groups replays recording.ending

-- what `demo` tells
abbrev pub demonstrated : ℕ → ℕ → Plan → Recording → List Replayed → Text
demonstrated seed rounds groups recording replays = demo_text seed rounds recording.history.events groups replays recording.ending

-- its message races are told: the one list of them that the run has. The order of each other pick of it, of which the first are written,
-- is recorded into a run in which the receive has another mate
pub record TellsRaces (orders : Option Text) (program : Program) (groups : Plan) (recording : Recording) (outcome : TaskOutcome) : Type 0 where
  pub receives : List WildcardReceive
  pub are_races : AreRaces (number_of_ranks groups) recording.history.events receives
  pub only : (others : List WildcardReceive) → AreRaces (number_of_ranks groups) recording.history.events others → others ≡ receives
  pub is_outcome : outcome ≡ races_outcome orders (number_of_ranks groups) receives recording
  pub others : (other : OtherPick) → IsIn other (others_of (number_of_ranks groups) recording.history.events)
      → IsOtherOrder (next_of program) (number_of_ranks groups) recording other

-- the advice on its groups is told, with blocks of at most so many ranks, or of all where these are fewer: the one advice that the run
-- has, and no cutting into such blocks costs less
abbrev pub TellsAdvice : ℕ → Program → Plan → Recording → TaskOutcome → Type 0
TellsAdvice most program groups recording outcome =
    let n = number_of_ranks groups in
    let events = recording.history.events in
    (advice : Advice) × IsAdvice n events (min most n) advice
    × ((other : Advice) → IsAdvice n events (min most n) other → other ≡ advice)
    × ((ends : List ℕ) → IsCutting n (min most n) ends → advice.cost ≤ cutting_cost (block_cost n events) ends)
    × (outcome ≡ check_outcome (advice_text advice (plan_cost n events groups) recording.ending) recording [])

-- who waits for whom is told, by the definition of it; a run that is stuck has a reason that is told, and no message that nobody has received
-- fits a receive that waits
pub record TellsWaits (program : Program) (groups : Plan) (recording : Recording) (outcome : TaskOutcome) : Type 0 where
  pub is_outcome : outcome ≡ waits_outcome (number_of_ranks groups) recording
  pub stuck : IsStuckExactly (next_of program) (number_of_ranks groups) recording.history.events
  pub reason : halted recording.history.events ≡ Some Stuck → HasReason (next_of program) (number_of_ranks groups) recording.history.events
  pub none_fits : NoneFits recording.history.events

-- ---- the tasks

-- a run is recorded, and told
abbrev pub run_task : RunWords Text → (Program → Plan → Recording → TaskOutcome → Type 0) → Task
run_task run Tells =
    record { inputs = run_inputs run; requirements = run_requirements; Does = λ texts. Records (is_threaded_run run) (run_texts texts) Tells }

-- a program of the tool's own is checked on one thread
abbrev pub demo_task : ℕ → ℕ → Task
demo_task seed rounds =
    let texts = demo_texts seed rounds in
    record { inputs = []; requirements = λ none. run_requirements texts; Does = λ none. Records false (run_texts texts) (TellsCheck (demonstrated seed rounds)) }
