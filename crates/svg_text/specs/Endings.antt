-- Beside the lanes: who waits for whom, and how each rank ended.
use Rattle.std.specs.Prelude.{◌+◌, ◌-◌, ◌*◌, ◌==◌, ◌&&◌, ℕ, List, [], ◌∷◌, ◌++◌, Option, Some, None, Bool, not, codes, drop, find, flat_map, if◌then◌else◌, length, max, min, nat_lt, nat_le, slice_index_or, take}
use Rattle.std.specs.List.{list_any}
use Rattle.mpi_call.specs.declared.call.Call.{Call}
use Rattle.mpi_call.specs.declared.call.Call.TheVariants.{Send, Post, Enter, Peek}
use Rattle.mpi_call.specs.declared.call.Halt.TheVariants.{Stuck}
use Rattle.mpi_call.specs.declared.call.Source.{Source}
use Rattle.mpi_call.specs.declared.call.Source.TheVariants.{Any, From, Null}
use Rattle.mpi_call.specs.declared.call.Tag.{Tag}
use Rattle.mpi_call.specs.declared.call.Tag.TheVariants.{Any as AnyTag, Is}
use Rattle.msg_races.specs.Listing.{lists_below as for_ranks}
use Rattle.run_model.specs.declared.ending.Ending.{Ending}
use Rattle.run_model.specs.declared.ending.Ending.TheVariants.{Halted}
use Rattle.run_text.specs.CallTexts.{joined, numbers_text}
use Rattle.wait_graph.specs.declared.graph.Blocked.{Blocked}
use Rattle.wait_graph.specs.declared.graph.Graph.{Graph}
use Rattle.wait_graph.specs.declared.wait.Wait.{Wait}
use Rattle.wiz_base.specs.Decimals.{decimal_text}
use Rattle.svg_text.specs.declared.endings.TheConstants.{MOST_CHARACTERS, MOST_CYCLES}
use Rattle.svg_text.specs.declared.endings.Arc.{Arc}
use Rattle.svg_text.specs.declared.filling.Filler.TheVariants.{Number}
use Rattle.svg_text.specs.declared.grid.Grid.{Grid}
use Rattle.svg_text.specs.Filling.{filled_text}
use Rattle.svg_text.specs.Grids.{distance, y_of}

-- the ranks that are stuck, where a run is halted as stuck
abbrev pub blocked_of : Ending → Graph → List Blocked
blocked_of (Halted Stuck) graph = graph.blocked
blocked_of ending graph = []

-- the cycles that are told, where a run is halted as stuck
abbrev pub cycles_of : Ending → Graph → List (List ℕ)
cycles_of (Halted Stuck) graph = take MOST_CYCLES graph.cycles
cycles_of ending graph = []

-- a rank is among those that are stuck
abbrev pub is_blocked : List Blocked → ℕ → Bool
is_blocked all rank = list_any (λ (blocked : Blocked). blocked.rank == rank) all

-- an arc from a rank to each other one that it waits for and that is stuck too
abbrev pub arc_to : List Blocked → ℕ → ℕ → List Arc
arc_to all rank awaited =
    if is_blocked all awaited && not (rank == awaited) then (record { from = rank; to = awaited }) ∷ [] else []

-- the arcs of one of the calls that a rank waits in
abbrev pub arcs_of_wait : List Blocked → ℕ → Wait → List Arc
arcs_of_wait all rank wait = flat_map (arc_to all rank) wait.awaited

-- the arcs from a rank
abbrev pub arcs_of_rank : List Blocked → Blocked → List Arc
arcs_of_rank all blocked = flat_map (arcs_of_wait all blocked.rank) blocked.waits

-- the arcs of all ranks that are stuck
abbrev pub arcs_of : List Blocked → List Arc
arcs_of all = flat_map (arcs_of_rank all) all

-- how far the farthest arc goes
abbrev pub farthest : List Arc → ℕ
farthest [] = 0
farthest (arc ∷ arcs) = max (distance arc.from arc.to) (farthest arcs)

-- where the texts beside the lanes stand
abbrev pub beside : ℕ → ℕ → ℕ
beside right far = if far == 0 then right + 8 else right + 26 * far + 20

-- an arc bulges out as far as it goes
abbrev pub arc_out : ℕ → ℕ → ℕ → ℕ
arc_out x from to = if nat_lt from to then x + 18 + 34 * distance from to else x + 6 + 30 * distance from to

-- how far down an arc leaves the lane that waits
abbrev pub leaves_at : ℕ → ℕ → ℕ → ℕ
leaves_at y from to = if nat_lt from to then y + 7 else y - 7

-- how far down an arc arrives at the lane that is waited for
abbrev pub arrives_at : ℕ → ℕ → ℕ → ℕ
arrives_at y from to = if nat_lt from to then y - 7 else y + 7

-- an arc, with a head at the lane that is waited for
abbrev pub arc_text : Grid → ℕ → Arc → List ℕ
arc_text grid right arc =
    filled_text (codes "<path class=\"m\" stroke=\"#d21f1f\" d=\"M% %C% % % % % %\" marker-end=\"url(#r)\"/>\n")
    (Number (right - 10) ∷ Number (leaves_at (y_of grid arc.from) arc.from arc.to)
    ∷ Number (arc_out (right - 10) arc.from arc.to) ∷ Number (leaves_at (y_of grid arc.from) arc.from arc.to)
    ∷ Number (arc_out (right - 10) arc.from arc.to) ∷ Number (arrives_at (y_of grid arc.to) arc.from arc.to)
    ∷ Number (right - 8) ∷ Number (arrives_at (y_of grid arc.to) arc.from arc.to) ∷ [])

-- a cycle: each rank waits for the next, and the last for the first
abbrev pub round_text : List ℕ → List ℕ
round_text [] = []
round_text (rank ∷ ranks) = joined (codes " waits for ") decimal_text (rank ∷ ranks) ++ codes " waits for " ++ decimal_text rank

-- a cycle, on a line of its own
abbrev pub drawn_cycle_text : ℕ → List ℕ → List ℕ
drawn_cycle_text y ranks =
    filled_text (codes "<text class=\"b\" x=\"16\" y=\"%\">cycle: ") (Number y ∷ []) ++ round_text ranks ++ codes "</text>\n"

-- the cycles, one below the other
abbrev pub cycles_text : ℕ → List (List ℕ) → List ℕ
cycles_text y [] = []
cycles_text y (ranks ∷ cycles) = drawn_cycle_text y ranks ++ cycles_text (y + 14) cycles

-- the rank from which a message is awaited
abbrev pub awaited_source_text : Source → List ℕ
awaited_source_text Any = codes "any rank"
awaited_source_text (From rank) = codes "rank " ++ decimal_text rank
awaited_source_text Null = codes "no rank"

-- the tag that a rank waits for
abbrev pub awaited_tag_text : Tag → List ℕ
awaited_tag_text AnyTag = codes "any tag"
awaited_tag_text (Is tag) = codes "tag " ++ decimal_text tag

-- a rank that waits for a message
abbrev pub awaited_message_text : Source → Tag → List ℕ
awaited_message_text source tag = codes "waits for " ++ awaited_source_text source ++ codes ", " ++ awaited_tag_text tag

-- a rank that waits for its message to be received
abbrev pub receiver_text : ℕ → List ℕ
receiver_text receiver = codes "waits for rank " ++ decimal_text receiver ++ codes " to receive"

-- a rank that waits for others to enter a collective
abbrev pub entering_text : List ℕ → List ℕ
entering_text awaited = codes "waits for " ++ numbers_text awaited ++ codes " to enter"

-- what a rank waits for, by the call that it waits in
abbrev pub drawn_wait_text : Call → List ℕ → List ℕ
drawn_wait_text (Send comm dest tag ints sync) awaited = receiver_text dest
drawn_wait_text (Post comm source tag room) awaited = awaited_message_text source tag
drawn_wait_text (Enter comm kind root op count ints) awaited = entering_text awaited
drawn_wait_text (Peek comm source tag wait) awaited = awaited_message_text source tag
drawn_wait_text call awaited = []

-- nobody for whom it waits is there still
abbrev pub has_ended_text : Bool → List ℕ
has_ended_text is_there = if is_there then [] else codes ", which has ended"

-- the first thing that a rank waits for
abbrev pub drawn_waiting_text : List Blocked → List Wait → List ℕ
drawn_waiting_text all [] = []
drawn_waiting_text all (wait ∷ waits) = drawn_wait_text wait.call wait.awaited ++ has_ended_text (list_any (is_blocked all) wait.awaited)

-- a byte that is plain, or a point
abbrev pub plain_text : ℕ → List ℕ
plain_text byte = if nat_le 32 byte && nat_lt byte 127 then byte ∷ [] else codes "."

-- a byte of an output: escaped where XML needs it; a newline is \n, and what is not plain a point
abbrev pub byte_text : ℕ → List ℕ
byte_text byte =
    if byte == 38 then codes "&amp;" else if byte == 60 then codes "&lt;" else if byte == 62 then codes "&gt;"
    else if byte == 34 then codes "&quot;" else if byte == 39 then codes "&apos;" else if byte == 10 then codes "\\n"
    else plain_text byte

-- two points before the last 30 bytes of a longer output
abbrev pub dots_text : ℕ → List ℕ
dots_text count = if nat_lt 30 count then codes ".." else []

-- the last 30 bytes of an output, after two points if there are more
abbrev pub drawn_output_text : List ℕ → List ℕ
drawn_output_text output = dots_text (length output) ++ flat_map byte_text (drop (length output - 30) output)

-- what stands beside a lane: what the rank waits for, else what it printed
abbrev pub beside_by : List Blocked → Option Blocked → List ℕ → List ℕ
beside_by all None output = drawn_output_text output
beside_by all (Some blocked) output = drawn_waiting_text all blocked.waits

-- what a rank waits for, if it is stuck
abbrev pub blocked_rank : List Blocked → ℕ → Option Blocked
blocked_rank all rank = find (λ (blocked : Blocked). blocked.rank == rank) all

-- what stands beside the lane of a rank
abbrev pub beside_text : List Blocked → ℕ → List ℕ → List ℕ
beside_text all rank output = beside_by all (blocked_rank all rank) output

-- the texts of the ranks below a number, which printed these outputs
abbrev pub beside_texts : List Blocked → List (List ℕ) → ℕ → List (List ℕ)
beside_texts all outputs ranks = for_ranks (λ rank. beside_text all rank (slice_index_or outputs rank []) ∷ []) ranks

-- how many characters the longest has, of which at most `MOST_CHARACTERS` count
abbrev pub longest : List (List ℕ) → ℕ
longest [] = 0
longest (text ∷ texts) = max (min (length text) MOST_CHARACTERS) (longest texts)

-- the style of a text beside a lane, of a rank that is stuck or not
abbrev pub style_text : Bool → List ℕ
style_text stuck = if stuck then codes "<text class=\"b\"" else codes "<text class=\"t\""

-- a text beside its lane, in the style of a rank that is stuck or of one that is not
abbrev pub drawn_ending_text : Grid → List Blocked → ℕ → ℕ → List ℕ → List ℕ
drawn_ending_text grid all x rank text =
    style_text (is_blocked all rank) ++ filled_text (codes " x=\"%\" y=\"%\">") (Number x ∷ Number (y_of grid rank + 4) ∷ []) ++ text ++ codes "</text>\n"

-- those of the ranks below a number
abbrev pub endings_text : Grid → List Blocked → ℕ → List (List ℕ) → ℕ → List ℕ
endings_text grid all x texts ranks = for_ranks (λ rank. drawn_ending_text grid all x rank (slice_index_or texts rank [])) ranks
