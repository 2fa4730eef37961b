-- The text of a log's entries, format 1. Numbers are plain decimals.
use Rattle.std.specs.Prelude.{ℕ, List, [], ◌∷◌, ◌++◌, map, codes, ℤ}
use Rattle.mpi_call.specs.declared.call.Halt.{Halt}
use Rattle.mpi_call.specs.declared.call.Halt.TheVariants.{Aborted, Trapped, Truncated, Mismatched, BadRequest, Limit, Stuck}
use Rattle.mpi_call.specs.Halts.{fault_number}
use Rattle.srr_entry.specs.declared.entry.Mark.{Mark}
use Rattle.srr_entry.specs.declared.entry.Mark.TheVariants.{Sent as MarkSent, Nothing, Inside, Outside, Inner, Outer, Made, MadeOutside}
use Rattle.srr_entry.specs.declared.entry.Marked.{Marked}
use Rattle.srr_entry.specs.declared.entry.Entry.{Entry}
use Rattle.srr_entry.specs.declared.entry.Entry.TheVariants.{Sent, Posted, Entered, Ended, Took, NotYet, PeekedInside, PeekedOutside, Stopped}
use Rattle.wiz_base.specs.Decimals.{decimal_text, number_text}

-- the pieces, a mark before each
abbrev pub each_after : ℕ → List (List ℕ) → List ℕ
each_after mark [] = []
each_after mark (piece ∷ pieces) = mark ∷ (piece ++ each_after mark pieces)

-- the pieces, a comma between each two
abbrev pub by_commas : List (List ℕ) → List ℕ
by_commas [] = []
by_commas (piece ∷ pieces) = piece ++ each_after 44 pieces

-- ints, a comma between each two
abbrev pub ints_text : List ℤ → List ℕ
ints_text ints = by_commas (map number_text ints)

-- a message's name: its sender and the number of its Send among that rank's starts
abbrev pub name_text : ℕ → ℕ → List ℕ
name_text source start = decimal_text source ++ (46 ∷ decimal_text start)

-- what is kept of a completed start: contents come after a colon
abbrev pub mark_text : Mark → List ℕ
mark_text MarkSent = codes "s"
mark_text Nothing = codes "n"
mark_text (Inside source start) = name_text source start
mark_text (Outside source start tag ints) =
    name_text source start ++ (46 ∷ decimal_text tag) ++ (58 ∷ ints_text ints)
mark_text Inner = codes "c"
mark_text (Outer ints) = codes "c:" ++ ints_text ints
mark_text (Made comm) = codes "m." ++ decimal_text comm
mark_text (MadeOutside comm members) =
    codes "m." ++ decimal_text comm ++ (58 ∷ by_commas (map decimal_text members))

-- a completed start: its index in the list of the call, and its mark
abbrev pub item_text : Marked → List ℕ
item_text item = decimal_text item.index ++ (61 ∷ mark_text item.mark)

-- halts are numbered from 1 in the order of their list
abbrev pub halt_number : Halt → ℕ
halt_number (Aborted rank code) = 1
halt_number (Trapped rank fault) = 2
halt_number (Truncated rank start) = 3
halt_number (Mismatched rank) = 4
halt_number (BadRequest rank start) = 5
halt_number Limit = 6
halt_number Stuck = 7

-- what a halt names, a blank before each
abbrev pub halt_details : Halt → List ℕ
halt_details (Aborted rank code) = (32 ∷ decimal_text rank) ++ (32 ∷ number_text code)
halt_details (Trapped rank fault) = (32 ∷ decimal_text rank) ++ (32 ∷ decimal_text (fault_number fault))
halt_details (Truncated rank start) = (32 ∷ decimal_text rank) ++ (32 ∷ decimal_text start)
halt_details (Mismatched rank) = 32 ∷ decimal_text rank
halt_details (BadRequest rank start) = (32 ∷ decimal_text rank) ++ (32 ∷ decimal_text start)
halt_details Limit = []
halt_details Stuck = []

-- an entry's line, without its newline
abbrev pub entry_line : Entry → List ℕ
entry_line Sent = codes "s"
entry_line Posted = codes "p"
entry_line Entered = codes "e"
entry_line Ended = codes "z"
entry_line (Took items) = codes "t" ++ each_after 32 (map item_text items)
entry_line NotYet = codes "n"
entry_line (PeekedInside source start) = codes "k " ++ name_text source start
entry_line (PeekedOutside source start tag count) =
    codes "k " ++ name_text source start ++ (46 ∷ decimal_text tag) ++ (58 ∷ decimal_text count)
entry_line (Stopped halt) = codes "x " ++ decimal_text (halt_number halt) ++ halt_details halt
