-- What an entry's line says, piece by piece: the entry within its bounds of which it is the line, or nothing.
use Rattle.std.specs.Prelude.{ℕ, ℤ, List, [], ◌&&◌, ◌==◌, if◌then◌else◌, nat_le, nat_lt, codes, length, map, Option, Some, None}
use Rattle.std.specs.Str.{bytes_eq}
use Rattle.mpi_call.specs.declared.call.Halt.{Halt}
use Rattle.mpi_call.specs.declared.call.Halt.TheVariants.{Aborted, Trapped, Truncated, Mismatched, BadRequest, Limit, Stuck}
use Rattle.mpi_call.specs.declared.limits.TheConstants.{GREATEST_TAG, MOST_INTS, MOST_RANKS, MOST_RESULT_INTS}
use Rattle.mpi_call.specs.Collectives.{is_member}
use Rattle.mpi_call.specs.Lists.{rises}
use Rattle.srr_entry.specs.declared.entry.Mark.{Mark}
use Rattle.srr_entry.specs.declared.entry.Mark.TheVariants.{Sent as MarkSent, Nothing, Inside, Outside, Inner, Outer, Made, MadeOutside}
use Rattle.srr_entry.specs.declared.entry.Marked.{Marked}
use Rattle.srr_entry.specs.declared.entry.Entry.{Entry}
use Rattle.srr_entry.specs.declared.entry.Entry.TheVariants.{Sent, Posted, Entered, Ended, Took, NotYet, PeekedInside, PeekedOutside, Stopped}
use Rattle.srr_log.specs.declared.limits.TheConstants.{GREATEST_NUMBER}
use Rattle.srr_log.specs.FaultNumbers.{fault_numbered}
use Rattle.srr_log.specs.inside.Pieces.{◌>>=◌, after_word, split_once, pieces, all_of, number_in, int_in, rank_in}

-- ints with a comma between each two
abbrev pub ints_in : List ℕ → Option (List ℤ)
ints_in text = all_of int_in (pieces 44 text)

-- ints with commas between, at most this many; none is no byte
unfoldable pub few_ints_in : ℕ → List ℕ → Option (List ℤ)
few_ints_in most text =
    if length text == 0 then Some [] else (ints_in text >>= λ ints. if nat_le (length ints) most then Some ints else None)

-- ranks with a mark between each two
abbrev pub ranks_in : ℕ → ℕ → List ℕ → Option (List ℕ)
ranks_in mark n text = all_of (rank_in n) (pieces mark text)

-- the name of a message from inside the group
unfoldable pub inside_in : ℕ → List ℕ → List ℕ → Option (ℕ × ℕ)
inside_in n group text = do
  parts ← split_once 46 text
  source ← rank_in n parts.0
  start ← number_in GREATEST_NUMBER parts.1
  if is_member group source then Some (source, start) else None

-- the name of a message from outside, and its tag
unfoldable pub outside_in : ℕ → List ℕ → List ℕ → Option (ℕ × ℕ × ℕ)
outside_in n group text = do
  parts ← split_once 46 text
  others ← split_once 46 parts.1
  source ← rank_in n parts.0
  start ← number_in GREATEST_NUMBER others.0
  tag ← number_in GREATEST_TAG others.1
  if is_member group source then None else Some (source, start, tag)

-- a message, from inside where its ints are not said, else from outside
abbrev pub message_split : ℕ → List ℕ → List ℕ → Option (List ℕ × List ℕ) → Option Mark
message_split n group text None = inside_in n group text >>= λ name. Some (Inside name.0 name.1)
message_split n group text (Some parts) = do
  name ← outside_in n group parts.0
  ints ← few_ints_in MOST_INTS parts.1
  Some (Outside name.0 name.1 name.2 ints)

-- a message: its name, and after a colon its ints
unfoldable pub message_in : ℕ → List ℕ → List ℕ → Option Mark
message_in n group text = message_split n group text (split_once 58 text)

-- a communicator that was made, inside where its members are not said, else outside
abbrev pub made_split : ℕ → List ℕ → Option (List ℕ × List ℕ) → Option Mark
made_split n text None = number_in GREATEST_NUMBER text >>= λ comm. Some (Made comm)
made_split n text (Some parts) = do
  comm ← number_in GREATEST_NUMBER parts.0
  members ← ranks_in 44 n parts.1
  if nat_lt 0 comm && nat_le (length members) MOST_RANKS then Some (MadeOutside comm members) else None

-- a new communicator: its number, and after a colon its members
unfoldable pub made_in : ℕ → List ℕ → Option Mark
made_in n text = made_split n text (split_once 58 text)

-- a mark of more than one word: a result, a communicator, or a message
abbrev pub long_mark : ℕ → List ℕ → List ℕ → Option (List ℕ) → Option (List ℕ) → Option Mark
long_mark n group text (Some outer) made = few_ints_in MOST_RESULT_INTS outer >>= λ ints. Some (Outer ints)
long_mark n group text None (Some made) = made_in n made
long_mark n group text None None = message_in n group text

-- a mark of more than one letter
unfoldable pub long_mark_in : ℕ → List ℕ → List ℕ → Option Mark
long_mark_in n group text = long_mark n group text (after_word (codes "c:") text) (after_word (codes "m.") text)

-- a mark
unfoldable pub mark_in : ℕ → List ℕ → List ℕ → Option Mark
mark_in n group text =
    if bytes_eq text (codes "s") then Some MarkSent
    else if bytes_eq text (codes "n") then Some Nothing
    else if bytes_eq text (codes "c") then Some Inner
    else long_mark_in n group text

-- a completed start: its index and its mark
unfoldable pub item_in : ℕ → List ℕ → List ℕ → Option Marked
item_in n group text = do
  parts ← split_once 61 text
  index ← number_in GREATEST_NUMBER parts.0
  mark ← mark_in n group parts.1
  Some (record { index = index; mark = mark })

-- items with a blank between each two
abbrev pub all_items_in : ℕ → List ℕ → List ℕ → Option (List Marked)
all_items_in n group text = all_of (item_in n group) (pieces 32 text)

-- the places of items in the list of the call
abbrev pub indices : List Marked → List ℕ
indices items = map (λ item. item.index) items

-- completed starts, with blanks between; the indices rise
unfoldable pub items_in : ℕ → List ℕ → List ℕ → Option (List Marked)
items_in n group text = do
  items ← all_items_in n group text
  if rises 0 (indices items) then Some items else None

-- a message that a probe found, from inside where its count is not said, else from outside
abbrev pub peek_split : ℕ → List ℕ → List ℕ → Option (List ℕ × List ℕ) → Option Entry
peek_split n group text None = inside_in n group text >>= λ name. Some (PeekedInside name.0 name.1)
peek_split n group text (Some parts) = do
  name ← outside_in n group parts.0
  count ← number_in MOST_INTS parts.1
  Some (PeekedOutside name.0 name.1 name.2 count)

-- a message that a probe found
unfoldable pub peek_in : ℕ → List ℕ → List ℕ → Option Entry
peek_in n group text = peek_split n group text (split_once 58 text)

-- a halt that names a rank and one thing more
unfoldable pub detail_in : List ℕ → ℕ → List ℕ → Option Halt
detail_in kind rank text =
    if bytes_eq kind (codes "1") then (int_in text >>= λ code. Some (Aborted rank code))
    else if bytes_eq kind (codes "2") then (number_in 10 text >>= λ number. fault_numbered number >>= λ fault. Some (Trapped rank fault))
    else if bytes_eq kind (codes "3") then (number_in GREATEST_NUMBER text >>= λ start. Some (Truncated rank start))
    else if bytes_eq kind (codes "5") then (number_in GREATEST_NUMBER text >>= λ start. Some (BadRequest rank start))
    else None

-- a halt that names a rank and something of it
unfoldable pub detailed_in : ℕ → List ℕ → List ℕ → Option Halt
detailed_in n kind text = do
  parts ← split_once 32 text
  rank ← rank_in n parts.0
  detail_in kind rank parts.1

-- a halt that names a rank
unfoldable pub named_in : ℕ → List ℕ → Option Halt
named_in n text = do
  parts ← split_once 32 text
  if bytes_eq parts.0 (codes "4") then (rank_in n parts.1 >>= λ rank. Some (Mismatched rank)) else detailed_in n parts.0 parts.1

-- a halt
unfoldable pub halt_in : ℕ → List ℕ → Option Halt
halt_in n text =
    if bytes_eq text (codes "6") then Some Limit
    else if bytes_eq text (codes "7") then Some Stuck
    else named_in n text

-- an entry of more than one word: items, a probe, or a halt
abbrev pub long_entry : ℕ → List ℕ → Option (List ℕ) → Option (List ℕ) → Option (List ℕ) → Option Entry
long_entry n group (Some items) peek halt = items_in n group items >>= λ items. Some (Took items)
long_entry n group None (Some peek) halt = peek_in n group peek
long_entry n group None None (Some halt) = halt_in n halt >>= λ halt. Some (Stopped halt)
long_entry n group None None None = None

-- an entry whose line has more than one letter
unfoldable pub long_entry_in : ℕ → List ℕ → List ℕ → Option Entry
long_entry_in n group line = long_entry n group (after_word (codes "t ") line) (after_word (codes "k ") line) (after_word (codes "x ") line)

-- an entry
unfoldable pub entry_in : ℕ → List ℕ → List ℕ → Option Entry
entry_in n group line =
    if bytes_eq line (codes "s") then Some Sent
    else if bytes_eq line (codes "p") then Some Posted
    else if bytes_eq line (codes "e") then Some Entered
    else if bytes_eq line (codes "z") then Some Ended
    else if bytes_eq line (codes "n") then Some NotYet
    else long_entry_in n group line
