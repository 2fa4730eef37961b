-- The bytes of a log's entries, format 2. Numbers are of one byte, or of four, the highest first.
use Rattle.std.specs.Prelude.{ℕ, ◌+◌, ℤ, List, [], ◌∷◌, ◌++◌, length, Bool, true, false, if◌then◌else◌}
use mir.Syntax.{w32}
use Rattle.std.specs.Int.{cast_unsigned}
use Rattle.byteorder.specs.Endian.{big_bytes}
use Rattle.mpi_call.specs.declared.call.Halt.{Halt}
use Rattle.mpi_call.specs.declared.call.Halt.TheVariants.{Aborted, Trapped, Truncated, Mismatched, BadRequest, Limit, Stuck}
use Rattle.mpi_call.specs.Halts.{fault_number}
use Rattle.srr_entry.specs.declared.entry.Mark.{Mark}
use Rattle.srr_entry.specs.declared.entry.Mark.TheVariants.{Sent as MarkSent, Nothing, Inside, Outside, Inner, Outer, Made, MadeOutside}
use Rattle.srr_entry.specs.declared.entry.Marked.{Marked}
use Rattle.srr_entry.specs.declared.entry.Entry.{Entry}
use Rattle.srr_entry.specs.declared.entry.Entry.TheVariants.{Sent, Posted, Entered, Ended, Took, NotYet, PeekedInside, PeekedOutside, Stopped}

-- a number of four bytes
unfoldable pub word_bytes : ℕ → List ℕ
word_bytes number = big_bytes 4 number

-- an int of 32 bits, in two's complement
abbrev pub int_bytes : ℤ → List ℕ
int_bytes int = word_bytes (cast_unsigned w32 int)

-- ints, each of four bytes
abbrev pub ints_bytes : List ℤ → List ℕ
ints_bytes [] = []
ints_bytes (int ∷ ints) = int_bytes int ++ ints_bytes ints

-- how many ints, and then these
abbrev pub counted_bytes : List ℤ → List ℕ
counted_bytes ints = word_bytes (length ints) ++ ints_bytes ints

-- a kind, and a message's name: its sender, and the number of its Send among that rank's starts
abbrev pub name_bytes : ℕ → ℕ → ℕ → List ℕ
name_bytes kind source start = kind ∷ source ∷ word_bytes start

-- these, and the message's tag
abbrev pub tagged_bytes : ℕ → ℕ → ℕ → ℕ → List ℕ
tagged_bytes kind source start tag = name_bytes kind source start ++ word_bytes tag

-- what is kept of a completed start
abbrev pub mark_bytes : Mark → List ℕ
mark_bytes MarkSent = 1 ∷ []
mark_bytes Nothing = 2 ∷ []
mark_bytes (Inside source start) = name_bytes 3 source start
mark_bytes (Outside source start tag ints) = tagged_bytes 4 source start tag ++ counted_bytes ints
mark_bytes Inner = 5 ∷ []
mark_bytes (Outer ints) = 6 ∷ counted_bytes ints
mark_bytes (Made comm) = 7 ∷ word_bytes comm
mark_bytes (MadeOutside comm members) = 8 ∷ (word_bytes comm ++ length members ∷ members)

-- completed starts: of each its index in the list of the call, and its mark
abbrev pub items_bytes : List Marked → List ℕ
items_bytes [] = []
items_bytes (item ∷ items) = (word_bytes item.index ++ mark_bytes item.mark) ++ items_bytes items

-- why the run was stopped
abbrev pub halt_bytes : Halt → List ℕ
halt_bytes (Aborted rank code) = 1 ∷ rank ∷ int_bytes code
halt_bytes (Trapped rank fault) = 2 ∷ rank ∷ fault_number fault ∷ []
halt_bytes (Truncated rank start) = 3 ∷ rank ∷ word_bytes start
halt_bytes (Mismatched rank) = 4 ∷ rank ∷ []
halt_bytes (BadRequest rank start) = 5 ∷ rank ∷ word_bytes start
halt_bytes Limit = 6 ∷ []
halt_bytes Stuck = 7 ∷ []

-- the record of an entry; that of one that found nothing stands for it and the next `more` entries
abbrev pub record_bytes : Entry → ℕ → List ℕ
record_bytes Sent more = 1 ∷ []
record_bytes Posted more = 2 ∷ []
record_bytes Entered more = 3 ∷ []
record_bytes Ended more = 4 ∷ []
record_bytes (Took items) more = 5 ∷ (word_bytes (length items) ++ items_bytes items)
record_bytes NotYet more = 6 ∷ word_bytes (more + 1)
record_bytes (PeekedInside source start) more = name_bytes 7 source start
record_bytes (PeekedOutside source start tag count) more = tagged_bytes 8 source start tag ++ word_bytes count
record_bytes (Stopped halt) more = 9 ∷ halt_bytes halt

-- an entry of a call that found nothing complete, of which several in a row are counted
abbrev pub is_not_yet : Entry → Bool
is_not_yet NotYet = true
is_not_yet entry = false

-- how many entries that found nothing stand first
abbrev pub not_yets : List Entry → ℕ
not_yets [] = 0
not_yets (entry ∷ entries) = if is_not_yet entry then not_yets entries + 1 else 0

-- the records of entries. After an entry that found nothing (`counted`), the first ones that found nothing have none of
-- their own: the record before counts them
abbrev pub records_bytes : Bool → List Entry → List ℕ
records_bytes counted [] = []
records_bytes true (NotYet ∷ entries) = records_bytes true entries
records_bytes counted (entry ∷ entries) = record_bytes entry (not_yets entries) ++ records_bytes (is_not_yet entry) entries

-- how many entries a rank has, and then their records
abbrev pub list_bytes : List Entry → List ℕ
list_bytes entries = word_bytes (length entries) ++ records_bytes false entries
