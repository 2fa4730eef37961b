-- The drawing of a run as SVG.
use Rattle.std.specs.Prelude.{◌+◌, ◌-◌, ◌*◌, ◌==◌, ℕ, suc, List, [], ◌∷◌, ◌++◌, Option, Some, None, codes, flat_map, if◌then◌else◌, length, max}
use Rattle.msg_races.specs.Listing.{lists_below as for_ranks}
use Rattle.run_model.specs.declared.ending.Ending.{Ending}
use Rattle.run_model.specs.declared.ending.Ending.TheVariants.{Finished, Halted}
use Rattle.run_model.specs.declared.event.Event.{Event}
use Rattle.run_model.specs.Views.{view_of}
use Rattle.run_drawing.specs.declared.drawing.DrawnMessage.{DrawnMessage}
use Rattle.run_drawing.specs.declared.drawing.Point.{Point}
use Rattle.run_drawing.specs.declared.drawing.DrawnReceive.{DrawnReceive}
use Rattle.run_drawing.specs.Drawn.{Drawn}
use Rattle.run_text.specs.CallTexts.{halt_text}
use Rattle.wait_graph.specs.declared.graph.Blocked.{Blocked}
use Rattle.wait_graph.specs.declared.graph.Graph.{Graph}
use Rattle.wiz_base.specs.Decimals.{decimal_text}
use Rattle.svg_text.specs.declared.filling.Filler.TheVariants.{Number}
use Rattle.svg_text.specs.declared.grid.Grid.{Grid}
use Rattle.svg_text.specs.declared.grid.Grid.TheVariants.{Dense, Wide}
use Rattle.svg_text.specs.Endings.{arc_text, arcs_of, beside, beside_texts, blocked_of, cycles_of, cycles_text, endings_text, farthest, longest}
use Rattle.svg_text.specs.Filling.{filled_text}
use Rattle.svg_text.specs.Grids.{bottom_of, grid_by, right_of}
use Rattle.svg_text.specs.Marks.{drawn_mark_text}
use Rattle.svg_text.specs.Shapes.{choices_text, collective_text, lane_text, received_message_text, drawn_probe_text, drawn_receive_text, unreceived_text}

-- the frame of the picture, of its size
abbrev pub frame_text : ℕ → ℕ → List ℕ
frame_text wide high =
    filled_text (codes "<svg xmlns=\"http://www.w3.org/2000/svg\" width=\"%\" height=\"%\" viewBox=\"0 0 % %\">\n") (Number wide ∷ Number high ∷ Number wide ∷ Number high ∷ [])

-- how texts and lines look, by their class
abbrev pub style_text : List ℕ
style_text =
    codes "<style>text{font-family:DejaVu Sans,Verdana,sans-serif;fill:#23272e}.h{font-size:15px;font-weight:bold}.t{font-size:12px}.s{font-size:10px;fill:#666c75}"
    ++ codes ".w{font-size:10px;fill:#b8007a;font-weight:bold;paint-order:stroke;stroke:#ffffff;stroke-width:3px;stroke-opacity:0.8}"
    ++ codes ".b{font-size:11px;fill:#d21f1f;font-weight:bold}"
    ++ codes ".n{font-size:10px;fill:#4b515b;paint-order:stroke;stroke:#ffffff;stroke-width:3px;stroke-opacity:0.8}"
    ++ codes ".l{stroke:#c3c8d0;stroke-width:1}.m{stroke-width:2;fill:none}.o{stroke-width:1;fill:none;stroke-dasharray:5 4}"
    ++ codes ".d{stroke:#9aa0aa;stroke-width:1;stroke-opacity:0.3}.j{stroke:#9aa0aa;stroke-width:1;fill:none}</style>\n"

-- the head of an arrow, of a colour
abbrev pub arrow_head_text : List ℕ → List ℕ → List ℕ
arrow_head_text name colour =
    codes "<marker id=\"" ++ name ++ codes "\" markerUnits=\"userSpaceOnUse\" markerWidth=\"10\" markerHeight=\"8\" refX=\"9\" refY=\"4\" orient=\"auto\"><path d=\"M0 0L10 4L0 8z\" fill=\""
    ++ colour ++ codes "\"/></marker>\n"

-- the heads of arrows: from any source, of what waits, gray, and of each colour of groups
abbrev pub heads_text : List ℕ
heads_text =
    codes "<defs>\n"
    ++ arrow_head_text (codes "w") (codes "#b8007a") ++ arrow_head_text (codes "r") (codes "#d21f1f") ++ arrow_head_text (codes "g") (codes "#9aa0aa")
    ++ arrow_head_text (codes "a0") (codes "#2f6db5") ++ arrow_head_text (codes "a1") (codes "#c06a12") ++ arrow_head_text (codes "a2") (codes "#2f8a4a")
    ++ arrow_head_text (codes "a3") (codes "#8a3f93") ++ arrow_head_text (codes "a4") (codes "#b23b3b") ++ arrow_head_text (codes "a5") (codes "#1f8690")
    ++ arrow_head_text (codes "a6") (codes "#85741c") ++ arrow_head_text (codes "a7") (codes "#5a5a86")
    ++ codes "</defs>\n"

-- the ground of the picture
abbrev pub ground_text : ℕ → ℕ → List ℕ
ground_text wide high = filled_text (codes "<rect width=\"%\" height=\"%\" fill=\"#ffffff\"/>\n") (Number wide ∷ Number high ∷ [])

-- how the run ended
abbrev pub end_text : Ending → List ℕ
end_text Finished = codes "finished"
end_text (Halted halt) = codes "halted " ++ halt_text halt

-- what a word has behind it where there is not one
abbrev pub plural_text : ℕ → List ℕ
plural_text count = if count == 1 then [] else codes "s"

-- how many groups there are: one more than the greatest number
abbrev pub groups_in : List ℕ → ℕ
groups_in [] = 0
groups_in (group ∷ groups) = max (suc group) (groups_in groups)

-- the heading: how many ranks and groups there are, how many calls, and how the run ended
abbrev pub heading_text : List ℕ → ℕ → Ending → List ℕ
heading_text groups calls ending =
    codes "<text class=\"h\" x=\"14\" y=\"26\">" ++ decimal_text (length groups) ++ codes " ranks in " ++ decimal_text (groups_in groups) ++ codes " group"
    ++ plural_text (groups_in groups) ++ codes ", " ++ decimal_text calls ++ codes " events, " ++ end_text ending ++ codes "</text>\n"

-- 1 where a message was taken
abbrev pub took_any : Option DrawnMessage → ℕ
took_any None = 0
took_any (Some message) = 1

-- 1 where there is a message that could have come instead
abbrev pub some_choice : List Point → ℕ
some_choice [] = 0
some_choice (point ∷ points) = 1

-- 1 for a message instead of which another could have come
abbrev pub had_choice : Option DrawnMessage → ℕ
had_choice None = 0
had_choice (Some message) = some_choice message.choices

-- how many receives from any source took a message
abbrev pub count_wild : List DrawnReceive → ℕ
count_wild [] = 0
count_wild (receive ∷ receives) = (if receive.is_wild then took_any receive.message else 0) + count_wild receives

-- how many of these could have taken another one
abbrev pub count_raced : List DrawnReceive → ℕ
count_raced [] = 0
count_raced (receive ∷ receives) = (if receive.is_wild then had_choice receive.message else 0) + count_raced receives

-- how the picture is read, and how many receives raced
abbrev pub subtitle_text : List DrawnReceive → List ℕ
subtitle_text receives =
    codes "<text class=\"s\" x=\"14\" y=\"44\">A call stands to the right of all that it needed; calls in one column have no order. "
    ++ codes "Point at a mark for its call; the number is the C of --break R:C. " ++ decimal_text (count_raced receives) ++ codes " of "
    ++ decimal_text (count_wild receives) ++ codes " receives from any source raced.</text>\n"

-- what the shapes mean
abbrev pub legend_text : ℕ → List ℕ
legend_text y =
    filled_text (codes "<circle cx=\"22\" cy=\"%\" r=\"5\" fill=\"#555b66\"/>\n<text class=\"s\" x=\"36\" y=\"%\">send</text>\n") (Number y ∷ Number (y + 4) ∷ [])
    ++ filled_text (codes "<circle cx=\"84\" cy=\"%\" r=\"4\" fill=\"#ffffff\" stroke=\"#555b66\" stroke-width=\"2\"/>\n<text class=\"s\" x=\"98\" y=\"%\">receive posted</text>\n") (Number y ∷ Number (y + 4) ∷ [])
    ++ filled_text (codes "<path d=\"M202 %m-7 0l7 -7l7 7l-7 7z\" fill=\"#555b66\"/>\n<text class=\"s\" x=\"216\" y=\"%\">completed</text>\n") (Number y ∷ Number (y + 4) ∷ [])
    ++ filled_text (codes "<rect x=\"291\" y=\"%\" width=\"10\" height=\"10\" fill=\"#555b66\"/>\n<text class=\"s\" x=\"310\" y=\"%\">collective</text>\n") (Number (y - 5) ∷ Number (y + 4) ∷ [])
    ++ filled_text (codes "<rect x=\"386\" y=\"%\" width=\"4\" height=\"18\" fill=\"#555b66\"/>\n<text class=\"s\" x=\"402\" y=\"%\">end</text>\n") (Number (y - 9) ∷ Number (y + 4) ∷ [])
    ++ filled_text (codes "<circle cx=\"446\" cy=\"%\" r=\"5\" fill=\"#b8007a\"/>\n<text class=\"s\" x=\"460\" y=\"%\">from any source</text>\n") (Number y ∷ Number (y + 4) ∷ [])

-- what the broken arrows mean; not in a dense grid, which has none
abbrev pub choices_legend : Grid → ℕ → List ℕ
choices_legend Dense y = []
choices_legend Wide y =
    filled_text (codes "<path class=\"o\" stroke=\"#b8007a\" d=\"M574 %m-14 0h24\"/>\n<text class=\"s\" x=\"588\" y=\"%\">could have come here instead</text>\n") (Number y ∷ Number (y + 4) ∷ [])

-- the height: lanes, cycles and legend
abbrev pub high_of : Grid → ℕ → ℕ → ℕ
high_of grid ranks cycles = bottom_of grid ranks + 64 + 14 * cycles

-- the width: lanes and the texts beside them, at least 1070
abbrev pub wide_of : ℕ → ℕ → ℕ
wide_of x characters = max (x + 8 * characters + 16) 1070

-- what is drawn over the lanes
abbrev pub shapes_text : Grid → List Event → Drawn → List ℕ
shapes_text grid events drawing =
    flat_map (drawn_receive_text grid drawing.groups) drawing.receives
    ++ flat_map (collective_text grid) drawing.collectives
    ++ flat_map (choices_text grid) drawing.receives
    ++ flat_map (received_message_text grid drawing.groups) drawing.receives
    ++ flat_map (drawn_probe_text grid) drawing.probes
    ++ flat_map (unreceived_text grid) drawing.unreceived
    ++ flat_map (drawn_mark_text grid drawing.groups (view_of events)) drawing.marks

-- the frame, and what stands above the lanes
unfoldable pub top_text : ℕ → ℕ → Drawn → Ending → List ℕ
top_text wide high drawing ending =
    frame_text wide high ++ style_text ++ heads_text ++ ground_text wide high ++ heading_text drawing.groups (length drawing.marks) ending ++ subtitle_text drawing.receives

-- the lanes of the ranks
abbrev pub lanes_text : Grid → ℕ → List ℕ → List ℕ
lanes_text grid right groups = for_ranks (lane_text grid right groups) (length groups)

-- what a picture is drawn on: the grid, where the lanes end, and the height
pub record Sheet : Type 0 where
  pub grid : Grid
  pub right : ℕ
  pub high : ℕ

-- the sheet with these parts
abbrev pub sheet_of : Grid → ℕ → ℕ → Sheet
sheet_of grid right high = record { grid = grid; right = right; high = high }

-- what is told beside the lanes: the ranks that wait, their cycles, and the texts of the ranks
pub record Remarks : Type 0 where
  pub blocked : List Blocked
  pub cycles : List (List ℕ)
  pub texts : List (List ℕ)

-- the remarks with these parts
abbrev pub remarks_of : List Blocked → List (List ℕ) → List (List ℕ) → Remarks
remarks_of blocked cycles texts = record { blocked = blocked; cycles = cycles; texts = texts }

-- where the texts beside the lanes begin: behind the arcs
abbrev pub texts_from : Sheet → Remarks → ℕ
texts_from sheet remarks = beside sheet.right (farthest (arcs_of remarks.blocked))

-- what stands beside and below the lanes
abbrev pub sides_text : Sheet → Remarks → ℕ → List ℕ
sides_text sheet remarks ranks =
    flat_map (arc_text sheet.grid sheet.right) (arcs_of remarks.blocked)
    ++ cycles_text (bottom_of sheet.grid ranks + 16) remarks.cycles
    ++ endings_text sheet.grid remarks.blocked (texts_from sheet remarks) remarks.texts ranks
    ++ legend_text (sheet.high - 30) ++ choices_legend sheet.grid (sheet.high - 30) ++ codes "</svg>\n"

-- the whole picture
unfoldable pub picture_text : Sheet → List Event → Drawn → Ending → Remarks → List ℕ
picture_text sheet events drawing ending remarks =
    top_text (wide_of (texts_from sheet remarks) (longest remarks.texts)) sheet.high drawing ending
    ++ lanes_text sheet.grid sheet.right drawing.groups
    ++ shapes_text sheet.grid events drawing
    ++ sides_text sheet remarks (length drawing.groups)

-- the sheet that a drawing needs
abbrev pub sheet_by : Grid → Drawn → ℕ → Sheet
sheet_by grid drawing cycles = sheet_of grid (right_of grid drawing.columns) (high_of grid (length drawing.groups) cycles)

-- the drawing of a run: its events, who waits for whom where it is stuck, how it ended, and what its ranks printed
abbrev pub svg_text : List Event → Drawn → Graph → Ending → List (List ℕ) → List ℕ
svg_text events drawing graph ending outputs =
    picture_text (sheet_by (grid_by (length drawing.groups) (length drawing.marks)) drawing (length (cycles_of ending graph))) events drawing ending
    (remarks_of (blocked_of ending graph) (cycles_of ending graph) (beside_texts (blocked_of ending graph) outputs (length drawing.groups)))
