-- What the fields of a log's entries say, in their order: which value each may have after those before it.
use Rattle.std.specs.Prelude.{◌+◌, ◌-◌, ◌^◌, ◌==◌, ◌&&◌, ℕ, zero, suc, ℤ, List, [], ◌∷◌, Bool, true, false, not, nat_lt, nat_le, Option, Some, None}
use mir.Syntax.{w32}
use Rattle.std.specs.Int.{cast_signed}
use Rattle.mpi_call.specs.declared.call.Fault.{Fault}
use Rattle.mpi_call.specs.declared.call.Halt.{Halt}
use Rattle.mpi_call.specs.declared.call.Halt.TheVariants.{Aborted, Trapped, Truncated, Mismatched, BadRequest, Limit, Stuck}
use Rattle.mpi_call.specs.Collectives.{is_member}
use Rattle.srr_entry.specs.declared.entry.Mark.{Mark}
use Rattle.srr_entry.specs.declared.entry.Mark.TheVariants.{Sent as MarkSent, Nothing, Inside, Outside, Inner, Outer, Made, MadeOutside}
use Rattle.srr_entry.specs.declared.entry.Marked.{Marked}
use Rattle.srr_entry.specs.declared.entry.Entry.{Entry}
use Rattle.srr_entry.specs.declared.entry.Entry.TheVariants.{Sent, Posted, Entered, Ended, Took, NotYet, PeekedInside, PeekedOutside, Stopped}
use Rattle.mpi_call.specs.declared.limits.TheConstants.{GREATEST_TAG, MOST_INTS, MOST_RANKS, MOST_RESULT_INTS}
use Rattle.srr_log.specs.FaultNumbers.{fault_numbered}
use Rattle.srr_log.specs.declared.limits.TheConstants.{GREATEST_NUMBER, MOST_ENTRIES}
use Rattle.srr_log.specs.declared.fault.LogWhy.TheVariants.{BadNumber, BadEntry}
use Rattle.srr_log2.specs.declared.kind.RecordKind.{RecordKind}
use Rattle.srr_log2.specs.declared.kind.RecordKind.TheVariants.{Sent as SentKind, Posted as PostedKind, Entered as EnteredKind, Ended as EndedKind, Took as TookKind, NotYet as NotYetKind, PeekedInside as PeekedInsideKind, PeekedOutside as PeekedOutsideKind, Stopped as StoppedKind}
use Rattle.srr_log2.specs.declared.kind.MarkKind.{MarkKind}
use Rattle.srr_log2.specs.declared.kind.MarkKind.TheVariants.{Sent as SentMark, Nothing as NothingMark, Inside as InsideMark, Outside as OutsideMark, Inner as InnerMark, Outer as OuterMark, Made as MadeMark, MadeOutside as MadeOutsideMark}
use Rattle.srr_log2.specs.declared.kind.HaltKind.{HaltKind}
use Rattle.srr_log2.specs.declared.kind.HaltKind.TheVariants.{Aborted as AbortedKind, Trapped as TrappedKind, Truncated as TruncatedKind, Mismatched as MismatchedKind, BadRequest as BadRequestKind, Limit as LimitKind, Stuck as StuckKind}
use Rattle.srr_log2.specs.Kinds.{record_kind_of, mark_kind_of, halt_kind_of}
use Rattle.srr_log2.specs.EntryBytes.{is_not_yet}
use Rattle.srr_log2.specs.Fields.{Reader, ◌>>=◌, give, coded_byte, only_if, coded_word, coded_many}

-- a number from `least` to `most`
abbrev pub between : ℕ → ℕ → ℕ → Bool
between least most number = nat_le least number && nat_le number most

-- where one in the group is asked for, it is; where one outside, it is not
abbrev pub stands : Bool → Bool → Bool
stands true is_in = is_in
stands false is_in = not is_in

-- ---- numbers and ranks

-- the number of a start, or of a communicator
unfoldable pub coded_small_number : Reader ℕ
coded_small_number = coded_word BadEntry (between 0 GREATEST_NUMBER)

-- a message's tag
unfoldable pub coded_tag : Reader ℕ
coded_tag = coded_word BadEntry (between 0 GREATEST_TAG)

-- a count of ints, at most `most`
unfoldable pub coded_count : ℕ → Reader ℕ
coded_count most = coded_word BadEntry (between 0 most)

-- an int: any number of four bytes, in two's complement
unfoldable pub coded_int : Reader ℤ
coded_int = do
  number ← coded_word BadEntry (λ number. nat_lt number (2 ^ 32))
  give (cast_signed w32 number)

-- ints, at most `most`: how many, and then these
unfoldable pub coded_ints : ℕ → Reader (List ℤ)
coded_ints most = do
  count ← coded_count most
  coded_many coded_int count

-- a rank of the run
unfoldable pub coded_rank : ℕ → Reader ℕ
coded_rank n = coded_byte BadEntry (λ rank. only_if (nat_lt rank n) rank)

-- the sender of a message, in the group or outside it
unfoldable pub coded_sender : ℕ → List ℕ → Bool → Reader ℕ
coded_sender n group inside = coded_byte BadEntry (λ rank. only_if (nat_lt rank n && stands inside (is_member group rank)) rank)

-- why a program trapped
unfoldable pub coded_fault : Reader Fault
coded_fault = coded_byte BadEntry fault_numbered

-- the members of a communicator: how many, and then these
unfoldable pub coded_members : ℕ → Reader (List ℕ)
coded_members n = do
  count ← coded_byte BadEntry (λ count. only_if (between 1 MOST_RANKS count) count)
  coded_many (coded_rank n) count

-- ---- marks

-- what follows the kind of a mark
abbrev pub mark_of : ℕ → List ℕ → MarkKind → Reader Mark
mark_of n group SentMark = give MarkSent
mark_of n group NothingMark = give Nothing
mark_of n group InsideMark = do
  source ← coded_sender n group true
  start ← coded_small_number
  give (Inside source start)
mark_of n group OutsideMark = do
  source ← coded_sender n group false
  start ← coded_small_number
  tag ← coded_tag
  ints ← coded_ints MOST_INTS
  give (Outside source start tag ints)
mark_of n group InnerMark = give Inner
mark_of n group OuterMark = do
  ints ← coded_ints MOST_RESULT_INTS
  give (Outer ints)
mark_of n group MadeMark = do
  comm ← coded_small_number
  give (Made comm)
mark_of n group MadeOutsideMark = do
  comm ← coded_word BadEntry (between 1 GREATEST_NUMBER)
  members ← coded_members n
  give (MadeOutside comm members)

-- the kind of a mark
unfoldable pub coded_mark_kind : Reader MarkKind
coded_mark_kind = coded_byte BadEntry mark_kind_of

-- a mark: its kind, and what follows
unfoldable pub coded_mark : ℕ → List ℕ → Reader Mark
coded_mark n group = do
  kind ← coded_mark_kind
  mark_of n group kind

-- a completed start: its index, at least so much, and its mark
unfoldable pub coded_item : ℕ → List ℕ → ℕ → Reader Marked
coded_item n group least = do
  index ← coded_word BadEntry (between least GREATEST_NUMBER)
  mark ← coded_mark n group
  give (record { index = index; mark = mark })

-- some of them, each index above the one before
abbrev pub coded_items : ℕ → List ℕ → ℕ → ℕ → Reader (List Marked)
coded_items n group least zero = give []
coded_items n group least (suc count) = do
  item ← coded_item n group least
  items ← coded_items n group (item.index + 1) count
  give (item ∷ items)

-- how many, at least one, and then these
unfoldable pub coded_some_items : ℕ → List ℕ → Reader (List Marked)
coded_some_items n group = do
  count ← coded_word BadEntry (λ count. nat_lt 0 count)
  coded_items n group 0 count

-- ---- halts

-- what follows the kind of a halt
abbrev pub halt_of : ℕ → HaltKind → Reader Halt
halt_of n AbortedKind = do
  rank ← coded_rank n
  code ← coded_int
  give (Aborted rank code)
halt_of n TrappedKind = do
  rank ← coded_rank n
  fault ← coded_fault
  give (Trapped rank fault)
halt_of n TruncatedKind = do
  rank ← coded_rank n
  start ← coded_small_number
  give (Truncated rank start)
halt_of n MismatchedKind = do
  rank ← coded_rank n
  give (Mismatched rank)
halt_of n BadRequestKind = do
  rank ← coded_rank n
  start ← coded_small_number
  give (BadRequest rank start)
halt_of n LimitKind = give Limit
halt_of n StuckKind = give Stuck

-- a halt: its kind, and what follows
unfoldable pub coded_halt : ℕ → Reader Halt
coded_halt n = do
  kind ← coded_byte BadEntry halt_kind_of
  halt_of n kind

-- ---- records

-- which record may stand where `others` more entries follow its first: the end and a halt are a rank's last, and one that
-- found nothing does not follow another (`counted`)
abbrev pub may_stand : Bool → ℕ → RecordKind → Bool
may_stand counted others EndedKind = others == 0
may_stand counted others StoppedKind = others == 0
may_stand counted others NotYetKind = not counted
may_stand counted others kind = true

-- a kind of record that may stand here
abbrev pub standing : Bool → ℕ → Option RecordKind → Option RecordKind
standing counted others None = None
standing counted others (Some kind) = only_if (may_stand counted others kind) kind

-- the first byte of a record
unfoldable pub coded_record_kind : Bool → ℕ → Reader RecordKind
coded_record_kind counted others = coded_byte BadEntry (λ byte. standing counted others (record_kind_of byte))

-- what follows it: the entry that the record stands for, and for how many more of them it stands
abbrev pub record_of : ℕ → List ℕ → ℕ → RecordKind → Reader (Entry × ℕ)
record_of n group others SentKind = give (Sent, 0)
record_of n group others PostedKind = give (Posted, 0)
record_of n group others EnteredKind = give (Entered, 0)
record_of n group others EndedKind = give (Ended, 0)
record_of n group others TookKind = do
  items ← coded_some_items n group
  give (Took items, 0)
record_of n group others NotYetKind = do
  count ← coded_word BadEntry (between 1 (others + 1))
  give (NotYet, count - 1)
record_of n group others PeekedInsideKind = do
  source ← coded_sender n group true
  start ← coded_small_number
  give (PeekedInside source start, 0)
record_of n group others PeekedOutsideKind = do
  source ← coded_sender n group false
  start ← coded_small_number
  tag ← coded_tag
  count ← coded_count MOST_INTS
  give (PeekedOutside source start tag count, 0)
record_of n group others StoppedKind = do
  halt ← coded_halt n
  give (Stopped halt, 0)

-- a record, where `others` more entries follow its first
unfoldable pub coded_record : ℕ → List ℕ → Bool → ℕ → Reader (Entry × ℕ)
coded_record n group counted others = do
  kind ← coded_record_kind counted others
  record_of n group others kind

-- some entries, the last of the four numbers; the record before stands for the first `more` of them, and found nothing
-- if `counted`
abbrev pub coded_entries : ℕ → List ℕ → Bool → ℕ → ℕ → Reader (List Entry)
coded_entries n group counted more zero = give []
coded_entries n group counted (suc more) (suc others) = do
  entries ← coded_entries n group true more others
  give (NotYet ∷ entries)
coded_entries n group counted zero (suc others) = do
  first ← coded_record n group counted others
  entries ← coded_entries n group (is_not_yet first.0) first.1 others
  give (first.0 ∷ entries)

-- the list of a rank: how many entries it has, and then their records
unfoldable pub coded_rank_list : ℕ → List ℕ → Reader (List Entry)
coded_rank_list n group = do
  count ← coded_word BadNumber (between 0 MOST_ENTRIES)
  coded_entries n group false 0 count
