-- The races of a recording, before they are told.
use Rattle.std.specs.Prelude.{◌≡◌, List, []}
use Rattle.group_plan.specs.Plans.{number_of_ranks}
use Rattle.msg_races.specs.declared.receives.WildcardReceive.{WildcardReceive}
use Rattle.msg_races.specs.Races.{AreRaces}
use Rattle.srr_record.specs.declared.recording.Recording.{Recording}
use Rattle.wiz_runs.specs.declared.commands.races.RacesText.{RacesText}
use Rattle.wiz_task.specs.declared.ready.Ready.{Ready}
use Rattle.wiz_runs.specs.Runs.{reported_races}
use Rattle.wiz_tool.specs.Outcomes.{run_outcome}

-- the text and the status of the one list of races that a run has
abbrev pub AreRacesOf : Ready → Recording → RacesText → Type 0
AreRacesOf ready recording told =
    let n = number_of_ranks ready.plan in
    let events = recording.history.events in
    (receives : List WildcardReceive) × AreRaces n events receives × ((others : List WildcardReceive) → AreRaces n events others → others ≡ receives)
    × (run_outcome told.status told.text recording [] ≡ reported_races receives recording)
