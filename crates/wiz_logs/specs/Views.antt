-- The commands that tell what stands in a replay: the changes of a variable, where each rank stands, where a message went.
use Rattle.std.specs.Prelude.{◌≡◌, ℕ, List, [], ◌∷◌, None, if◌then◌else◌}
use Rattle.std.specs.Borrow.{Bor}
use Rattle.clap.specs.Words.{Text}
use Rattle.c_program.specs.Tree.{Program}
use Rattle.c_program.specs.Program.{next_of, variables_of}
use Rattle.c_types.specs.Checks.{IsProgramOf}
use Rattle.mpi_call.specs.Members.{is_member}
use Rattle.replay_model.specs.declared.replayed.Replayed.{Replayed}
use Rattle.replay_model.specs.declared.replayed.Stand.{Stand}
use Rattle.replay_model.specs.Laws.{IsRunWith}
use Rattle.replay_model.specs.Replays.{Breakpoint}
use Rattle.replay_views.specs.declared.changes.Change.{Change}
use Rattle.replay_views.specs.Cuts.{IsStepBack, ReplaysStepBack}
use Rattle.replay_views.specs.Places.{places_of}
use Rattle.replay_views.specs.Snapshots.{snapshots_of}
use Rattle.replay_views.specs.Watching.{changes_of, values_after}
use Rattle.run_model.specs.declared.event.Event.{Event}
use Rattle.run_model.specs.Views.{View as Seen, view_of}
use Rattle.srr_entry.specs.declared.log.Log.{Log}
use Rattle.wiz_logs.specs.declared.viewing.ask.ReplayView.{ReplayView}
use Rattle.wiz_logs.specs.declared.viewing.ask.ReplayView.TheVariants.{Changes, Snapshots, Places}
use Rattle.wiz_task.specs.Replayings.{IsReplayOf}
use Rattle.wiz_tool.specs.declared.status.Status.{Status}
use Rattle.wiz_tool.specs.declared.status.Status.TheVariants.{Done}
use Rattle.wiz_tool.specs.Outcomes.{TaskOutcome}
use Rattle.wiz_tool.specs.Statuses.{of_stands}
use Rattle.wiz_trace.specs.AtTexts.{snapshots_text}
use Rattle.wiz_trace.specs.TraceTexts.{trace_text}
use Rattle.wiz_trace.specs.WatchTexts.{watch_text}
use Rattle.wiz_trace.specs.WhereTexts.{where_text}

-- what is asked, with its texts in place of what borrows them
abbrev pub view_with_texts : ReplayView (Bor Text) → ReplayView Text
view_with_texts (Changes rank name) = Changes rank name.now
view_with_texts Snapshots = Snapshots
view_with_texts (Places name) = Places name

-- ---- what is told

-- the changes of a variable of a rank that has seen this; of a rank outside the group there are none
abbrev pub changes_in : Program → Log → ℕ → Text → Seen → List Change
changes_in program log rank name seen =
    if is_member log.group rank then changes_of (values_after (next_of program) (variables_of program) log.ranks rank name) seen else []

-- what is asked, after some events and by the stand of each rank of the group
abbrev pub reported_text : Program → Log → ReplayView Text → List Event → List Stand → Text
reported_text program log (Changes rank name) events ends = watch_text rank name (changes_in program log rank name (view_of events rank))
reported_text program log Snapshots events ends =
    snapshots_text (snapshots_of (next_of program) (variables_of program) log.ranks events log.group ends)
reported_text program log (Places name) events ends = where_text name log.group (places_of name events log.group)

-- a text of a replay that is done
abbrev pub done_view_outcome : Text → Replayed → TaskOutcome
done_view_outcome text replayed = record { files = []; text = text; status = Done; run = None; replays = replayed ∷ [] }

-- a text of a replay, or its trace where it is not done
abbrev pub view_outcome_by : Status → Text → Replayed → TaskOutcome
view_outcome_by Done text replayed = done_view_outcome text replayed
view_outcome_by status text replayed = record { files = []; text = trace_text replayed; status = status; run = None; replays = replayed ∷ [] }

-- how a replay is told of which something is asked
abbrev pub view_outcome : Text → Replayed → TaskOutcome
view_outcome text replayed = view_outcome_by (of_stands replayed.ends) text replayed

-- ---- what is done

-- a log is replayed with the program of a text, up to the breakpoint if there is one, and what is asked of the replay is told, by each program of
-- that text. Without a breakpoint it is what each run with the log tells. The cut of an earlier place of a rank is within that of a later one,
-- and so is a replay up to it
pub record TellsView (text : Text) (log : Log) (stop : Breakpoint) (view : ReplayView Text) (outcome : TaskOutcome) : Type 0 where
  pub replayed : Replayed
  pub replay : IsReplayOf text log stop replayed
  pub is_outcome : (program : Program) → IsProgramOf text program
      → outcome ≡ view_outcome (reported_text program log view replayed.events.events replayed.ends) replayed
  pub of_runs : stop ≡ None → (program : Program) (run : List Event) → IsProgramOf text program → IsRunWith (next_of program) log run
      → outcome ≡ done_view_outcome (reported_text program log view run replayed.ends) replayed
  pub back : (run : List Event) → IsStepBack log.ranks log.group (view_of run)
  pub steps : (program : Program) (run : List Event) → IsProgramOf text program → IsRunWith (next_of program) log run
      → ReplaysStepBack (next_of program) log run
