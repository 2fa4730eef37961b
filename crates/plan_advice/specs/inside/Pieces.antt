-- What the code keeps of the completions of a run: for each its ints, and how far the ranks reach that they came from.
use Rattle.std.specs.Prelude.{◌≡◌, ◌≤◌, ◌<◌, ◌+◌, ◌-◌, ◌^◌, ℕ, List, [], ◌∷◌, Bool, ◌&&◌, if◌then◌else◌, nat_le, nat_lt, length, sum_by}
use Rattle.std.specs.List.{slice_index_or}
use Rattle.mpi_call.specs.declared.call.Call.{Call}
use Rattle.mpi_call.specs.declared.reply.Got.{Got}
use Rattle.mpi_call.specs.declared.reply.Got.TheVariants.{Message, Joined}
use Rattle.mpi_call.specs.declared.reply.Item.{Item}
use Rattle.mpi_call.specs.declared.reply.Reply.{Reply}
use Rattle.mpi_call.specs.declared.reply.Reply.TheVariants.{Took}
use Rattle.run_model.specs.declared.event.Event.{Event}
use Rattle.run_model.specs.Lists.{world}
use Rattle.run_model.specs.Views.{View, view_of}
use Rattle.srr_entry.specs.Entries.{entries_from, entry_of, mark_of_got, marks_of_items}
use Rattle.plan_advice.specs.declared.pieces.Piece.{Piece}
use Rattle.plan_advice.specs.declared.span.RunRank.{RunRank}
use Rattle.plan_advice.specs.Costs.{ints_of_entry, ints_in_mark}

-- the ints that a start gives
abbrev pub ints_of_got : Got → ℕ
ints_of_got (Message source start tag ints) = length ints
ints_of_got (Joined ints) = length ints
ints_of_got got = 0

-- the ints that some items give
abbrev pub ints_of_items : List Item → ℕ
ints_of_items [] = 0
ints_of_items (item ∷ items) = ints_of_got item.got + ints_of_items items

-- the ints that a reply gives
abbrev pub ints_of_reply : Reply → ℕ
ints_of_reply (Took items) = ints_of_items items
ints_of_reply reply = 0

-- the ints that all replies of a run give
abbrev pub ints_given : List Event → ℕ
ints_given [] = 0
ints_given (event ∷ events) = ints_of_reply event.reply + ints_given events

-- the ranks of a block
abbrev pub block_ranks : ℕ → ℕ → List ℕ
block_ranks begin end = world (end - begin) begin

-- the block has the rank
pub record HasRank (rank begin end : ℕ) : Type 0 where
  pub from : begin ≤ rank
  pub to : rank < end
  pub few : end ≤ 255

-- the block has all ranks from the least to the greatest
abbrev pub is_within : ℕ → ℕ → ℕ → ℕ → Bool
is_within begin end least greatest = nat_le begin least && nat_lt greatest end

-- the ints that the block's log keeps of a piece: not all ranks that they came from are in the block
abbrev pub kept_ints : ℕ → ℕ → Piece → ℕ
kept_ints begin end piece = if is_within begin end piece.least piece.greatest then 0 else piece.ints

-- the ints that the block's log keeps of some pieces
abbrev pub kept_in : ℕ → ℕ → List Piece → ℕ
kept_in begin end pieces = sum_by (λ piece. kept_ints begin end piece) pieces

-- all ints of some pieces
abbrev pub ints_in_pieces : List Piece → ℕ
ints_in_pieces pieces = sum_by (λ (piece : Piece). piece.ints) pieces

-- the ints that a block's log keeps of a view of a rank
abbrev pub view_cost : ℕ → ℕ → ℕ → ℕ → View → ℕ
view_cost n begin end rank view = sum_by ints_of_entry (entries_from n (block_ranks begin end) rank [] view)

-- a piece stands for what start k of the rank gave, in each block that has the rank
abbrev pub IsPiece : ℕ → ℕ → View → ℕ → Got → Piece → Type 0
IsPiece n rank own k got piece =
    (begin end : ℕ) → HasRank rank begin end
    → kept_ints begin end piece ≡ ints_in_mark (mark_of_got n (block_ranks begin end) rank own k got)

-- more pieces, for some items of a rank of a run
abbrev pub AreGrown : RunRank → View → List ℕ → List Item → List Piece → List Piece → Type 0
AreGrown owner own starts items before after =
    (begin end : ℕ) → HasRank owner.rank begin end
    → kept_in begin end after
    ≡ kept_in begin end before + sum_by (λ item. ints_in_mark item.mark) (marks_of_items owner.ranks (block_ranks begin end) owner.rank own starts items)

-- more pieces, for a reply
abbrev pub IsGrown : RunRank → View → Call → Reply → List Piece → List Piece → Type 0
IsGrown owner own call reply before after =
    (begin end : ℕ) → HasRank owner.rank begin end
    → kept_in begin end after ≡ kept_in begin end before + ints_of_entry (entry_of owner.ranks (block_ranks begin end) owner.rank own call reply)

-- pieces stand for a view of a rank
abbrev pub ArePieces : ℕ → ℕ → View → List Piece → Type 0
ArePieces n rank view pieces =
    (begin end : ℕ) → HasRank rank begin end → kept_in begin end pieces ≡ view_cost n begin end rank view

-- lists of pieces, each with few ints
abbrev pub AreFew : List (List Piece) → Type 0
AreFew lists = (rank : ℕ) → rank < length lists → ints_in_pieces (slice_index_or lists rank []) < 2 ^ 32

-- the ints that a block's log keeps of the lists of some ranks
abbrev pub kept_by : ℕ → ℕ → List (List Piece) → List ℕ → ℕ
kept_by begin end lists ranks = sum_by (λ rank. kept_in begin end (slice_index_or lists rank [])) ranks

-- a list of pieces for each rank of a run
pub record AreCosts (n : ℕ) (events : List Event) (lists : List (List Piece)) : Type 0 where
  pub many : length lists ≡ n
  pub each : (rank : ℕ) → rank < n → ArePieces n rank (view_of events rank) (slice_index_or lists rank [])
  pub few : AreFew lists

-- a run whose costs are kept
pub record Costed : Type 0 where
  pub ranks : ℕ
  pub events : List Event
