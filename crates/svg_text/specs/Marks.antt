-- The marks of calls: a shape, its labels, and the line of the trace as its title.
use Rattle.std.specs.Prelude.{◌+◌, ◌-◌, ℕ, List, [], ◌∷◌, ◌++◌, Option, Some, None, Bool, codes, if◌then◌else◌, slice_get, slice_index}
use Rattle.mpi_call.specs.declared.call.Call.{Call}
use Rattle.mpi_call.specs.declared.call.Call.TheVariants.{Send, Post, Enter, Take, Peek}
use Rattle.mpi_call.specs.declared.call.Source.{Source}
use Rattle.mpi_call.specs.declared.call.Source.TheVariants.{Any}
use Rattle.mpi_call.specs.declared.reply.Got.{Got}
use Rattle.mpi_call.specs.declared.reply.Got.TheVariants.{Message}
use Rattle.mpi_call.specs.declared.reply.Item.{Item}
use Rattle.mpi_call.specs.declared.reply.Reply.{Reply}
use Rattle.mpi_call.specs.declared.reply.Reply.TheVariants.{NotYet, Stopped, Took}
use Rattle.run_model.specs.Views.{View}
use Rattle.run_drawing.specs.declared.drawing.DrawnMark.{DrawnMark}
use Rattle.run_text.specs.CallTexts.{call_text, kind_text, numbers_text, reply_text}
use Rattle.wiz_base.specs.Decimals.{decimal_text}
use Rattle.svg_text.specs.declared.filling.Filler.{Filler}
use Rattle.svg_text.specs.declared.filling.Filler.TheVariants.{Deep, Number, Wild}
use Rattle.svg_text.specs.declared.grid.Grid.{Grid}
use Rattle.svg_text.specs.declared.grid.Grid.TheVariants.{Dense, Wide}
use Rattle.svg_text.specs.Filling.{filled_text}
use Rattle.svg_text.specs.Grids.{x_of, y_of}

-- the line of the trace; its `>` is escaped, and calls and replies have no character that needs it
abbrev pub title_text : DrawnMark → Call → Reply → List ℕ
title_text mark call reply =
    codes "<g><title>rank " ++ decimal_text mark.rank ++ codes " call " ++ decimal_text mark.number ++ codes ": " ++ call_text call
    ++ codes " -&gt; " ++ reply_text reply ++ codes "</title>\n"

-- the beginning of a label above a mark, in its middle
abbrev pub label_begin : ℕ → ℕ → List ℕ
label_begin x y = filled_text (codes "<text class=\"n\" x=\"%\" y=\"%\" text-anchor=\"middle\">") (Number x ∷ Number (y - 12) ∷ [])

-- a label above a mark; none in a dense grid
abbrev pub label_text : Grid → ℕ → ℕ → List ℕ → List ℕ
label_text Dense x y text = []
label_text Wide x y text = label_begin x y ++ text ++ codes "</text>\n"

-- the number of a call, below its mark
abbrev pub below_text : Grid → ℕ → ℕ → ℕ → List ℕ
below_text Dense x y number = []
below_text Wide x y number =
    filled_text (codes "<text class=\"n\" x=\"%\" y=\"%\" text-anchor=\"middle\">%</text>\n") (Number x ∷ Number (y + 20) ∷ Number number ∷ [])

-- a reply that stops its rank
abbrev pub cross_text : ℕ → ℕ → List ℕ
cross_text x y =
    filled_text (codes "<path d=\"M% %L% %M% %L% %\" stroke=\"#d21f1f\" stroke-width=\"3\"/>\n")
    (Number (x - 6) ∷ Number (y - 6) ∷ Number (x + 6) ∷ Number (y + 6) ∷ Number (x - 6) ∷ Number (y + 6) ∷ Number (x + 6) ∷ Number (y - 6) ∷ [])

-- a send
abbrev pub drawn_send_text : Grid → ℕ → ℕ → ℕ → ℕ → List ℕ
drawn_send_text grid x y group tag =
    filled_text (codes "<circle cx=\"%\" cy=\"%\" r=\"5\" fill=\"%\"/>\n") (Number x ∷ Number y ∷ Deep group ∷ [])
    ++ label_text grid x y (codes "tag " ++ decimal_text tag)

-- a receive that is posted, of a colour
abbrev pub post_by : ℕ → ℕ → Filler → List ℕ
post_by x y colour =
    filled_text (codes "<circle cx=\"%\" cy=\"%\" r=\"4\" fill=\"#ffffff\" stroke=\"%\" stroke-width=\"2\"/>\n") (Number x ∷ Number y ∷ colour ∷ [])

-- what says that a receive takes from any source; not in a dense grid
abbrev pub any_label_text : Grid → ℕ → ℕ → List ℕ
any_label_text Dense x y = []
any_label_text Wide x y = filled_text (codes "<text class=\"w\" x=\"%\" y=\"%\">any</text>\n") (Number (x - 10) ∷ Number (y - 10) ∷ [])

-- a receive that is posted, by its source
abbrev pub post_text : Grid → ℕ → ℕ → ℕ → Source → List ℕ
post_text grid x y group Any = post_by x y Wild ++ any_label_text grid x y
post_text grid x y group source = post_by x y (Deep group)

-- a collective that is entered
abbrev pub enter_text : Grid → ℕ → ℕ → ℕ → List ℕ → List ℕ
enter_text grid x y group kind =
    filled_text (codes "<rect x=\"%\" y=\"%\" width=\"10\" height=\"10\" fill=\"%\"/>\n") (Number (x - 5) ∷ Number (y - 5) ∷ Deep group ∷ [])
    ++ label_text grid x y kind

-- a completion or a probe that waits no longer
abbrev pub diamond_text : ℕ → ℕ → Filler → List ℕ
diamond_text x y colour =
    filled_text (codes "<path d=\"M% %L% %L% %L% %z\" fill=\"%\"/>\n")
    (Number (x - 7) ∷ Number y ∷ Number x ∷ Number (y - 7) ∷ Number (x + 7) ∷ Number y ∷ Number x ∷ Number (y + 7) ∷ colour ∷ [])

-- whom a message is from
abbrev pub message_sources : Got → List ℕ
message_sources (Message source start tag ints) = source ∷ []
message_sources got = []

-- whom the messages of items are from
abbrev pub sources_in : List Item → List ℕ
sources_in [] = []
sources_in (item ∷ items) = message_sources item.got ++ sources_in items

-- whom the messages of a reply are from
abbrev pub sources_of : Reply → List ℕ
sources_of (Took items) = sources_in items
sources_of reply = []

-- what says whom the messages are from; not in a dense grid
abbrev pub sources_label_text : Grid → ℕ → ℕ → Reply → List ℕ
sources_label_text Dense x y reply = []
sources_label_text Wide x y reply =
    filled_text (codes "<text class=\"w\" x=\"%\" y=\"%\">from ") (Number (x - 16) ∷ Number (y - 12) ∷ []) ++ numbers_text (sources_of reply) ++ codes "</text>\n"

-- a completion of a receive from any source
abbrev pub wild_text : Grid → ℕ → ℕ → Reply → List ℕ
wild_text grid x y reply = diamond_text x y Wild ++ sources_label_text grid x y reply

-- a completion, whether of a receive from any source or not
abbrev pub done_text : Grid → ℕ → ℕ → ℕ → Bool → Reply → List ℕ
done_text grid x y group is_wild reply = if is_wild then wild_text grid x y reply else diamond_text x y (Deep group)

-- a completion, or a test that found nothing complete
abbrev pub take_text : Grid → ℕ → ℕ → ℕ → Bool → Reply → List ℕ
take_text grid x y group is_wild NotYet =
    filled_text (codes "<circle cx=\"%\" cy=\"%\" r=\"3\" fill=\"#ffffff\" stroke=\"#8a8f98\"/>\n") (Number x ∷ Number y ∷ [])
take_text grid x y group is_wild reply = done_text grid x y group is_wild reply

-- the end of a rank, or a call that stops the run
abbrev pub end_text : ℕ → ℕ → ℕ → List ℕ
end_text x y group =
    filled_text (codes "<rect x=\"%\" y=\"%\" width=\"4\" height=\"18\" fill=\"%\"/>\n") (Number (x - 2) ∷ Number (y - 9) ∷ Deep group ∷ [])

-- where a mark stands: the grid, how far right and down, and the group of its rank, which gives its colour
pub record Spot : Type 0 where
  pub grid : Grid
  pub x : ℕ
  pub y : ℕ
  pub group : ℕ

-- the spot with these parts
abbrev pub spot_of : Grid → ℕ → ℕ → ℕ → Spot
spot_of grid x y group = record { grid = grid; x = x; y = y; group = group }

-- the spot of a mark of a drawing
abbrev pub mark_spot : Grid → List ℕ → DrawnMark → Spot
mark_spot grid groups mark = spot_of grid (x_of grid mark.column) (y_of grid mark.rank) (slice_index groups mark.rank)

-- the shape of a call
abbrev pub call_shape : Spot → Bool → Call → Reply → List ℕ
call_shape spot is_wild (Send comm dest tag ints sync) reply = drawn_send_text spot.grid spot.x spot.y spot.group tag
call_shape spot is_wild (Post comm source tag room) reply = post_text spot.grid spot.x spot.y spot.group source
call_shape spot is_wild (Enter comm kind root op count ints) reply = enter_text spot.grid spot.x spot.y spot.group (kind_text kind)
call_shape spot is_wild (Take starts mode) reply = take_text spot.grid spot.x spot.y spot.group is_wild reply
call_shape spot is_wild (Peek comm source tag wait) reply = take_text spot.grid spot.x spot.y spot.group is_wild reply
call_shape spot is_wild call reply = end_text spot.x spot.y spot.group

-- the same, unless the reply stops the rank
abbrev pub shape_text : Spot → Bool → Call → Reply → List ℕ
shape_text spot is_wild call (Stopped halt) = cross_text spot.x spot.y
shape_text spot is_wild call reply = call_shape spot is_wild call reply

-- a mark with its title
abbrev pub titled_mark_text : Grid → List ℕ → DrawnMark → Call → Reply → List ℕ
titled_mark_text grid groups mark call reply =
    title_text mark call reply
    ++ shape_text (mark_spot grid groups mark) mark.is_wild call reply
    ++ below_text grid (x_of grid mark.column) (y_of grid mark.rank) mark.number
    ++ codes "</g>\n"

-- the same, where the rank has seen such a call
abbrev pub seen_mark_text : Grid → List ℕ → DrawnMark → Option (Call × Reply) → List ℕ
seen_mark_text grid groups mark None = []
seen_mark_text grid groups mark (Some (call, reply)) = titled_mark_text grid groups mark call reply

-- the mark of a call that a rank has made
abbrev pub drawn_mark_text : Grid → List ℕ → (ℕ → View) → DrawnMark → List ℕ
drawn_mark_text grid groups views mark = seen_mark_text grid groups mark (slice_get (views mark.rank) mark.number)
