-- Telling the races of a recording.
use Rattle.std.proofs.Common.{◌≡◌, ℕ, List, [], Option, subst, sym, true}
use Rattle.c_program.specs.View.{pure_program}
use Rattle.c_program.specs.Program.{next_of}
use Rattle.explanation_text.proofs.OrderLaws.{IsOrderText-turns}
use Rattle.group_plan.specs.Plans.{number_of_ranks}
use Rattle.msg_races.specs.declared.receives.WildcardReceive.{WildcardReceive}
use Rattle.mpi_call.specs.Lists.{IsIn}
use Rattle.other_picks.specs.declared.other.OtherPick.{OtherPick}
use Rattle.other_picks.specs.OtherLaws.{OthersAreTaken, OthersAreTurns, turns_to}
use Rattle.other_picks.specs.Others.{others_of}
use Rattle.picked_runs.specs.declared.turn.Pick.{Pick}
use Rattle.picked_runs.specs.Picked.{ArePicked}
use Rattle.run_model.specs.Views.{Next}
use Rattle.srr_record.specs.declared.recording.Recording.{Recording}
use Rattle.wiz_task.specs.declared.ready.Ready.{Ready}
use Rattle.wiz_runs.specs.Runs.{races_outcome, reported_races}
use Rattle.wiz_runs.specs.RaceOrders.{IsOtherOrder, order_files}
use Rattle.wiz_task.specs.inside.Recording.{IsMadeRecording}
use Rattle.wiz_tool.specs.declared.report.Done.{Done}
use Rattle.wiz_tool.specs.inside.Told.{outcome_written}
use Rattle.wiz_tool.proofs.FinishLemmas.{with_files}

-- the picks of a recording
pub picks_made : (ready : Ready) (recording : Recording) (n : ℕ) → IsMadeRecording true ready recording → n ≡ number_of_ranks ready.plan
    → (picks : List Pick) × ArePicked n [] picks recording.history.events
picks_made ready recording n made same =
    let F : ℕ → Type 0 = λ m. ArePicked m [] recording.picks.written recording.history.events in
    (recording.picks.written, subst F (sym same) made.is_recording.recorded.picked.along)

-- each other pick of a recording has an order, which is recorded
pub others_made : (ready : Ready) (recording : Recording) (n : ℕ) → IsMadeRecording true ready recording → n ≡ number_of_ranks ready.plan
    → OthersAreTaken (next_of (pure_program ready.program)) n → OthersAreTurns (next_of (pure_program ready.program)) n
    → (other : OtherPick) → IsIn other (others_of (number_of_ranks ready.plan) recording.history.events)
    → IsOtherOrder (next_of (pure_program ready.program)) (number_of_ranks ready.plan) recording other
others_made ready recording n made same taken turns other among =
    let ranks : ℕ = number_of_ranks ready.plan in
    let next : Next = next_of (pure_program ready.program) in
    let events = recording.history.events in
    let picks : List Pick = recording.picks.written in
    let picked = made.is_recording.recorded.picked in
    let taken' : OthersAreTaken next ranks = rw same at taken in
    let turns' : OthersAreTurns next ranks = rw same at turns in
    record {
      order = IsOrderText-turns ranks (turns_to events picks other) (turns' picks events picked other among);
      taken = taken' picks events picked other among;
    }

-- what is told when the order files are written
pub races_are_told : (orders : Option (List ℕ)) (n : ℕ) (receives : List WildcardReceive) (recording : Recording) (done : Done) → outcome_written [] done ≡ reported_races receives recording
    → outcome_written (order_files orders n recording) done ≡ races_outcome orders n receives recording
races_are_told orders n receives recording done same = with_files (order_files orders n recording) done (reported_races receives recording) same
