-- The shapes of a drawing: lanes, bars and arrows.
use Rattle.std.specs.Prelude.{◌+◌, ◌-◌, ◌%◌, ℕ, List, [], ◌∷◌, ◌++◌, Option, Some, None, Bool, codes, flat_map, if◌then◌else◌, nat_lt, slice_index}
use Rattle.run_drawing.specs.declared.drawing.Arrow.{Arrow}
use Rattle.run_drawing.specs.declared.drawing.DrawnCollective.{DrawnCollective}
use Rattle.run_drawing.specs.declared.drawing.DrawnMessage.{DrawnMessage}
use Rattle.run_drawing.specs.declared.drawing.Point.{Point}
use Rattle.run_drawing.specs.declared.drawing.DrawnReceive.{DrawnReceive}
use Rattle.run_drawing.specs.declared.drawing.Unreceived.{Unreceived}
use Rattle.svg_text.specs.declared.filling.Filler.{Filler}
use Rattle.svg_text.specs.declared.filling.Filler.TheVariants.{Bad, Deep, Gray, Number, Pale, Wild}
use Rattle.svg_text.specs.declared.grid.Grid.{Grid}
use Rattle.svg_text.specs.declared.grid.Grid.TheVariants.{Dense, Wide}
use Rattle.svg_text.specs.Filling.{filled_text}
use Rattle.svg_text.specs.Grids.{long_side, short_of, x_of, y_of}

-- a rank's lane: its ground, its name, its group, its line
abbrev pub wide_lane : ℕ → ℕ → ℕ → ℕ → List ℕ
wide_lane right group rank y =
    filled_text (codes "<rect x=\"8\" y=\"%\" width=\"%\" height=\"56\" fill=\"%\"/>\n<text class=\"t\" x=\"16\" y=\"%\" style=\"font-weight:bold;fill:%\">rank %</text>\n<text class=\"s\" x=\"16\" y=\"%\">group %</text>\n<line class=\"l\" x1=\"92\" y1=\"%\" x2=\"%\" y2=\"%\"/>\n")
    (Number (y - 28) ∷ Number (right - 8) ∷ Pale group ∷ Number y ∷ Deep group ∷ Number rank ∷ Number (y + 14) ∷ Number group ∷ Number y ∷ Number right ∷ Number y ∷ [])

-- the same in a dense grid, without its group
abbrev pub dense_lane : ℕ → ℕ → ℕ → ℕ → List ℕ
dense_lane right group rank y =
    filled_text (codes "<rect x=\"8\" y=\"%\" width=\"%\" height=\"20\" fill=\"%\"/>\n<text class=\"t\" x=\"16\" y=\"%\" style=\"font-weight:bold;fill:%\">rank %</text>\n<line class=\"l\" x1=\"92\" y1=\"%\" x2=\"%\" y2=\"%\"/>\n")
    (Number (y - 10) ∷ Number (right - 8) ∷ Pale group ∷ Number (y + 4) ∷ Deep group ∷ Number rank ∷ Number y ∷ Number right ∷ Number y ∷ [])

-- a rank's lane
abbrev pub lane_text : Grid → ℕ → List ℕ → ℕ → List ℕ
lane_text Wide right groups rank = wide_lane right (slice_index groups rank) rank (y_of Wide rank)
lane_text Dense right groups rank = dense_lane right (slice_index groups rank) rank (y_of Dense rank)

-- a bar from one column to another
abbrev pub bar_text : Grid → ℕ → ℕ → ℕ → Filler → List ℕ
bar_text grid rank from to colour =
    filled_text (codes "<rect x=\"%\" y=\"%\" width=\"%\" height=\"10\" rx=\"5\" fill=\"%\" fill-opacity=\"0.28\"/>\n")
    (Number (x_of grid from - 5) ∷ Number (y_of grid rank - 5) ∷ Number (x_of grid to - x_of grid from + 10) ∷ colour ∷ [])

-- the colour of a receive that took a message: one from any source, or another
abbrev pub taken_colour : List ℕ → ℕ → Bool → Filler
taken_colour groups rank is_wild = if is_wild then Wild else Deep (slice_index groups rank)

-- the colour of a receive; one that no message came to is red
abbrev pub receive_colour : List ℕ → ℕ → Bool → Option DrawnMessage → Filler
receive_colour groups rank is_wild None = Bad
receive_colour groups rank is_wild (Some message) = taken_colour groups rank is_wild

-- a receive, from where it was posted to where it was completed
abbrev pub drawn_receive_text : Grid → List ℕ → DrawnReceive → List ℕ
drawn_receive_text grid groups receive = bar_text grid receive.rank receive.from receive.to (receive_colour groups receive.rank receive.is_wild receive.message)

-- the ends of a line, the second short of its mark
abbrev pub ends_text : ℕ → ℕ → ℕ → ℕ → List ℕ
ends_text x1 y1 x2 y2 =
    filled_text (codes " x1=\"%\" y1=\"%\" x2=\"%\" y2=\"%\"")
    (Number x1 ∷ Number y1 ∷ Number (short_of x1 x2 (long_side x1 y1 x2 y2)) ∷ Number (short_of y1 y2 (long_side x1 y1 x2 y2)) ∷ [])

-- from one point to another
abbrev pub line_ends_text : Grid → Point → ℕ → ℕ → List ℕ
line_ends_text grid from rank column = ends_text (x_of grid from.column) (y_of grid from.rank) (x_of grid column) (y_of grid rank)

-- a gray arrow
unfoldable pub gray_text : Grid → Point → ℕ → ℕ → List ℕ
gray_text grid from rank column =
    codes "<line class=\"j\" stroke=\"#9aa0aa\"" ++ line_ends_text grid from rank column ++ codes " marker-end=\"url(#g)\"/>\n"

-- the last Enter that a collective had to wait for; in a dense grid a thin line without a head
abbrev pub latest_text : Grid → Option Point → ℕ → ℕ → List ℕ
latest_text grid None rank column = []
latest_text Wide (Some from) rank column = gray_text Wide from rank column
latest_text Dense (Some from) rank column =
    filled_text (codes "<line class=\"d\" stroke=\"#9aa0aa\" x1=\"%\" y1=\"%\" x2=\"%\" y2=\"%\"/>\n")
    (Number (x_of Dense from.column) ∷ Number (y_of Dense from.rank) ∷ Number (x_of Dense column) ∷ Number (y_of Dense rank) ∷ [])

-- a collective call, from where it was entered to where it was completed
abbrev pub collective_text : Grid → DrawnCollective → List ℕ
collective_text grid collective =
    bar_text grid collective.rank collective.from collective.to Gray ++ latest_text grid collective.latest collective.rank collective.to

-- a message that could have come instead
unfoldable pub choice_text : Grid → ℕ → ℕ → Point → List ℕ
choice_text grid rank column choice =
    codes "<line class=\"o\" stroke=\"#b8007a\"" ++ line_ends_text grid choice rank column ++ codes " marker-end=\"url(#w)\"/>\n"

-- those of a receive; none in a dense grid
abbrev pub message_choices_text : Grid → ℕ → ℕ → Option DrawnMessage → List ℕ
message_choices_text grid rank column None = []
message_choices_text Wide rank column (Some message) = flat_map (choice_text Wide rank column) message.choices
message_choices_text Dense rank column (Some message) = []

-- the messages that could have come instead to a receive
abbrev pub choices_text : Grid → DrawnReceive → List ℕ
choices_text grid receive = message_choices_text grid receive.rank receive.to receive.message

-- the arrow of a message to a receive from any source
abbrev pub wild_arrow : Grid → Point → ℕ → ℕ → List ℕ
wild_arrow grid sender rank column =
    codes "<line class=\"m\" stroke=\"#b8007a\"" ++ line_ends_text grid sender rank column ++ codes " marker-end=\"url(#w)\"/>\n"

-- the arrow of a message, of the colour of its sender's group, or of that of receives from any source
abbrev pub arrow_text : Grid → List ℕ → Bool → Point → ℕ → ℕ → List ℕ
arrow_text grid groups is_wild sender rank column =
    if is_wild then wild_arrow grid sender rank column else
    filled_text (codes "<line class=\"m\" stroke=\"%\"") (Deep (slice_index groups sender.rank) ∷ [])
    ++ line_ends_text grid sender rank column
    ++ filled_text (codes " marker-end=\"url(#a%)\"/>\n") (Number (slice_index groups sender.rank % 8) ∷ [])

-- the arrow of a message that may have come
abbrev pub message_arrow_text : Grid → List ℕ → Bool → ℕ → ℕ → Option DrawnMessage → List ℕ
message_arrow_text grid groups is_wild rank column None = []
message_arrow_text grid groups is_wild rank column (Some message) = arrow_text grid groups is_wild message.sender rank column

-- the arrow of the message that a receive took
abbrev pub received_message_text : Grid → List ℕ → DrawnReceive → List ℕ
received_message_text grid groups receive = message_arrow_text grid groups receive.is_wild receive.rank receive.to receive.message

-- a message that a probe found
abbrev pub drawn_probe_text : Grid → Arrow → List ℕ
drawn_probe_text grid probe = gray_text grid probe.from probe.to.rank probe.to.column

-- a message that nobody took, down toward its receiver
abbrev pub stub_down : ℕ → ℕ → ℕ → List ℕ
stub_down x y receiver =
    filled_text (codes "<line class=\"o\" stroke=\"#8a8f98\" x1=\"%\" y1=\"%\" x2=\"%\" y2=\"%\"/>\n<circle cx=\"%\" cy=\"%\" r=\"3\" fill=\"#ffffff\" stroke=\"#8a8f98\"/>\n<text class=\"n\" x=\"%\" y=\"%\" text-anchor=\"start\">to %</text>\n")
    (Number x ∷ Number y ∷ Number (x + 18) ∷ Number (y + 24) ∷ Number (x + 18) ∷ Number (y + 24) ∷ Number (x + 24) ∷ Number (y + 28) ∷ Number receiver ∷ [])

-- a message that nobody took, up toward its receiver
abbrev pub stub_up : ℕ → ℕ → ℕ → List ℕ
stub_up x y receiver =
    filled_text (codes "<line class=\"o\" stroke=\"#8a8f98\" x1=\"%\" y1=\"%\" x2=\"%\" y2=\"%\"/>\n<circle cx=\"%\" cy=\"%\" r=\"3\" fill=\"#ffffff\" stroke=\"#8a8f98\"/>\n<text class=\"n\" x=\"%\" y=\"%\" text-anchor=\"end\">to %</text>\n")
    (Number x ∷ Number y ∷ Number (x - 16) ∷ Number (y - 24) ∷ Number (x - 16) ∷ Number (y - 24) ∷ Number (x - 22) ∷ Number (y - 20) ∷ Number receiver ∷ [])

-- a message that nobody took, toward its receiver
abbrev pub stub_text : Bool → ℕ → ℕ → ℕ → List ℕ
stub_text is_down x y receiver = if is_down then stub_down x y receiver else stub_up x y receiver

-- a message that nobody took; none in a dense grid
abbrev pub unreceived_text : Grid → Unreceived → List ℕ
unreceived_text Dense unreceived = []
unreceived_text Wide unreceived =
    stub_text (nat_lt unreceived.rank unreceived.receiver) (x_of Wide unreceived.column) (y_of Wide unreceived.rank) unreceived.receiver
