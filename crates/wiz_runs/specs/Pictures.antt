-- The picture of a run, and the file that it is written to.
use Rattle.std.specs.Prelude.{◌≡◌, ◌<◌, ◌≤◌, ◌||◌, ℕ, List, [], ◌∷◌, ◌++◌, Option, Some, None, Bool, true, false, codes, length, nat_le, slice_get}
use Rattle.clap.specs.Words.{Text}
use Rattle.c_program.specs.Tree.{Program}
use Rattle.c_program.specs.Program.{next_of}
use Rattle.causes.specs.Before.{IsBefore}
use Rattle.group_plan.specs.Plans.{number_of_ranks}
use Rattle.mpi_call.specs.Lists.{IsIn}
use Rattle.run_drawing.specs.declared.drawing.DrawnMark.{DrawnMark}
use Rattle.run_drawing.specs.Basis.{Basis}
use Rattle.run_drawing.specs.Columns.{column}
use Rattle.run_drawing.specs.Drawings.{IsDrawing}
use Rattle.run_drawing.specs.Drawn.{Drawn}
use Rattle.run_drawing.specs.Laws.{GoesRight, HasAllReceived, HaveSameMates, HaveSameViews}
use Rattle.run_model.specs.declared.event.Event.{Event}
use Rattle.run_model.specs.Run.{IsRun}
use Rattle.srr_record.specs.declared.recording.Recording.{Recording}
use Rattle.svg_text.specs.SvgTexts.{svg_text}
use Rattle.trace_json.specs.JsonTexts.{trace_json}
use Rattle.trace_json.specs.Laws.{begin_of, mark_end}
use Rattle.wait_graph.specs.Graph.{graph_of}
use Rattle.wiz_base.specs.Decimals.{decimal_text}
use Rattle.run_model.specs.Due.{stops}
use Rattle.wiz_tool.specs.declared.status.Status.TheVariants.{TooMany}
use Rattle.wiz_tool.specs.Outcomes.{TaskOutcome, run_outcome}
use Rattle.wiz_tool.specs.Statuses.{of_ending}
use Rattle.wiz_runs.specs.declared.commands.picture.TheConstants.{MOST_DRAWN}
use Rattle.wiz_task.specs.Names.{Plan}

-- the text of a drawing of a run of n ranks: trace events, or SVG
abbrev pub drawing_text : Bool → ℕ → Recording → Drawn → Text
drawing_text true n recording drawing = trace_json recording.history.events drawing
drawing_text false n recording drawing =
    svg_text recording.history.events drawing (graph_of n recording.history.events) recording.ending recording.outputs

-- trace events are made of every run, SVG of one of at most so many events
abbrev pub is_drawn : Bool → Recording → Bool
is_drawn is_trace recording = is_trace || nat_le (length recording.history.events) MOST_DRAWN

-- what a drawing of these events is made from
abbrev pub basis_in : (groups : Plan) (events : List Event) (drawing : Drawn) → IsDrawing groups events drawing → Basis
basis_in groups events drawing is =
    record { ranks = number_of_ranks groups; events = events; depths = is.depths; before = is.before }

-- a drawing of these events, in which all goes right: what was before a call stands to its left, unless it stops its rank; so do the message of
-- each receive and each probe, and who entered a collective last; each call of a rank stands to the right of its earlier ones, and in trace
-- events begins when these have ended. Each run of the program with the same views has this drawing, in whatever order its ranks ran, if the
-- synchronous sends that were completed have the same mates; so they have where the message of each was received
pub record IsDrawingOf (program : Program) (groups : Plan) (events : List Event) (drawing : Drawn) : Type 0 where
  pub is_drawing : IsDrawing groups events drawing
  pub columns : (t u : ℕ) (event : Event) → slice_get events t ≡ Some event → stops event.reply ≡ false → IsBefore (number_of_ranks groups) events t u
      → column (basis_in groups events drawing is_drawing) t < column (basis_in groups events drawing is_drawing) u
  pub arrows : GoesRight drawing
  pub lanes : (one other : DrawnMark) → IsIn one drawing.marks → IsIn other drawing.marks → one.rank ≡ other.rank → one.number < other.number
      → one.column < other.column
  pub spans : (one other : DrawnMark) → IsIn one drawing.marks → IsIn other drawing.marks → one.rank ≡ other.rank → one.number < other.number
      → mark_end one ≤ begin_of other
  pub same : (other : List Event) (another : Drawn) → IsRun (next_of program) (number_of_ranks groups) other → HaveSameViews events other
      → HaveSameMates events other → IsDrawing groups other another → drawing ≡ another
  pub mates : (other : List Event) → IsRun (next_of program) (number_of_ranks groups) other → HaveSameViews events other
      → HasAllReceived events → HaveSameMates events other

-- the picture of a run: the text of its drawing, or none where it has too many events
abbrev pub IsPictureOf : Bool → Program → Plan → Recording → Option Text → Type 0
IsPictureOf is_trace program groups recording None = is_drawn is_trace recording ≡ false
IsPictureOf is_trace program groups recording (Some text) =
    (is_drawn is_trace recording ≡ true)
    × ((drawing : Drawn) × IsDrawingOf program groups recording.history.events drawing × (text ≡ drawing_text is_trace (number_of_ranks groups) recording drawing))

-- the message of a run with too many events
abbrev pub picture_over_text : Text
picture_over_text = codes "picture over " ++ decimal_text MOST_DRAWN ++ codes "\n"

-- one file is written, and nothing is put out; without a picture no file is written, and a message is put out, also where the run was halted
abbrev pub picture_outcome : Text → Recording → Option Text → TaskOutcome
picture_outcome file recording None = run_outcome TooMany picture_over_text recording []
picture_outcome file recording (Some text) =
    record (run_outcome (of_ending recording.ending) [] recording []) { files = (record { name = file; bytes = text }) ∷ [] }

-- the picture of a run is written, where it has one
pub record TellsPicture (file : Text) (is_trace : Bool) (program : Program) (groups : Plan) (recording : Recording) (outcome : TaskOutcome) : Type 0 where
  pub picture : Option Text
  pub is_picture : IsPictureOf is_trace program groups recording picture
  pub is_outcome : outcome ≡ picture_outcome file recording picture
