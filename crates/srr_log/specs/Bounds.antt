-- The bounds of a log that can be written as a text.
use Rattle.std.specs.Prelude.{◌≡◌, ◌<◌, ◌≤◌, ℕ, List, [], ◌∷◌, map, length, Bool, true, false, All, ℤ, FitsSigned}
use mir.Syntax.{w32}
use Rattle.mpi_call.specs.declared.call.Halt.{Halt}
use Rattle.mpi_call.specs.declared.call.Halt.TheVariants.{Aborted, Trapped, Truncated, Mismatched, BadRequest, Limit, Stuck}
use Rattle.mpi_call.specs.declared.limits.TheConstants.{GREATEST_TAG, MOST_INTS, MOST_RANKS, MOST_RESULT_INTS}
use Rattle.mpi_call.specs.Collectives.{is_member}
use Rattle.mpi_call.specs.Lists.{Rises}
use Rattle.run_model.specs.Lists.{are_below}
use Rattle.srr_entry.specs.declared.entry.Mark.{Mark}
use Rattle.srr_entry.specs.declared.entry.Mark.TheVariants.{Sent as MarkSent, Nothing, Inside, Outside, Inner, Outer, Made, MadeOutside}
use Rattle.srr_entry.specs.declared.entry.Entry.{Entry}
use Rattle.srr_entry.specs.declared.entry.Entry.TheVariants.{Sent, Posted, Entered, Ended, Took, NotYet, PeekedInside, PeekedOutside, Stopped}
use Rattle.srr_entry.specs.declared.log.Log.{Log}
use Rattle.srr_log.specs.declared.limits.TheConstants.{GREATEST_NUMBER, MOST_ENTRIES, MOST_PROGRAM_BYTES}

-- the number of a start of a rank, or of a communicator
abbrev pub IsSmallNumber : ℕ → Type 0
IsSmallNumber number = number ≤ GREATEST_NUMBER

-- the tag of a message
abbrev pub IsTag : ℕ → Type 0
IsTag tag = tag ≤ GREATEST_TAG

-- ints of 32 bits, at most this many
abbrev pub AreInts : ℕ → List ℤ → Type 0
AreInts most ints = (length ints ≤ most) × All (λ int. FitsSigned w32 int) ints

-- the sender of a message is one of the n ranks, in the group or outside it
abbrev pub IsSender : ℕ → List ℕ → Bool → ℕ → Type 0
IsSender n group inside source = (source < n) × (is_member group source ≡ inside)

-- the bounds of a completed start's mark, in a log of a group of n ranks
abbrev pub IsMark : ℕ → List ℕ → Mark → Type 0
IsMark n group MarkSent = Unit {0}
IsMark n group Nothing = Unit {0}
IsMark n group (Inside source start) = IsSender n group true source × IsSmallNumber start
IsMark n group (Outside source start tag ints) =
    IsSender n group false source × IsSmallNumber start × IsTag tag × AreInts MOST_INTS ints
IsMark n group Inner = Unit {0}
IsMark n group (Outer ints) = AreInts MOST_RESULT_INTS ints
IsMark n group (Made comm) = IsSmallNumber comm
IsMark n group (MadeOutside comm members) =
    (0 < comm) × IsSmallNumber comm × (0 < length members) × (length members ≤ MOST_RANKS) × (are_below n members ≡ true)

-- the bounds of a halt
abbrev pub IsHalt : ℕ → Halt → Type 0
IsHalt n (Aborted rank code) = (rank < n) × FitsSigned w32 code
IsHalt n (Trapped rank fault) = rank < n
IsHalt n (Truncated rank start) = (rank < n) × IsSmallNumber start
IsHalt n (Mismatched rank) = rank < n
IsHalt n (BadRequest rank start) = (rank < n) × IsSmallNumber start
IsHalt n Limit = Unit {0}
IsHalt n Stuck = Unit {0}

-- the bounds of an entry
abbrev pub IsEntry : ℕ → List ℕ → Entry → Type 0
IsEntry n group Sent = Unit {0}
IsEntry n group Posted = Unit {0}
IsEntry n group Entered = Unit {0}
IsEntry n group Ended = Unit {0}
IsEntry n group (Took items) =
    (0 < length items) × Rises 0 (map (λ item. item.index) items)
    × All (λ item. IsSmallNumber item.index × IsMark n group item.mark) items
IsEntry n group NotYet = Unit {0}
IsEntry n group (PeekedInside source start) = IsSender n group true source × IsSmallNumber start
IsEntry n group (PeekedOutside source start tag count) =
    IsSender n group false source × IsSmallNumber start × IsTag tag × (count ≤ MOST_INTS)
IsEntry n group (Stopped halt) = IsHalt n halt

-- the entries after which a rank has none
abbrev pub is_last : Entry → Bool
is_last Ended = true
is_last (Stopped halt) = true
is_last entry = false

-- a rank's entries: each within its bounds, and the end or a halt only as the last
abbrev pub AreEntries : ℕ → List ℕ → List Entry → Type 0
AreEntries n group [] = Unit {0}
AreEntries n group (entry ∷ entries) =
    IsEntry n group entry × (is_last entry ≡ true → entries ≡ []) × AreEntries n group entries

-- the ranks of a group: some, rising, below n
abbrev pub IsGroup : ℕ → List ℕ → Type 0
IsGroup n group = (0 < length group) × Rises 0 group × (are_below n group ≡ true)

-- the list of a rank: not too long, and of such entries
abbrev pub IsList : ℕ → List ℕ → List Entry → Type 0
IsList n group entries = (length entries ≤ MOST_ENTRIES) × AreEntries n group entries

-- a log that has a text
pub record IsInBounds (log : Log) : Type 0 where
  pub ranks : (0 < log.ranks) × (log.ranks ≤ MOST_RANKS)
  pub group : IsGroup log.ranks log.group
  pub program : length log.program ≤ MOST_PROGRAM_BYTES
  pub as_many : length log.lists ≡ length log.group
  pub lists : All (IsList log.ranks log.group) log.lists
