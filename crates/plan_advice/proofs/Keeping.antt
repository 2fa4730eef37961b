-- What a block's log keeps of pieces.
use Rattle.std.proofs.Common.{◌≡◌, ◌≤◌, ◌+◌, ◌∷◌, ◌++◌, ◌∙◌, ◌&&◌, Bool, List, [], ap, arith, false, inl, inr, length, refl, subst, true, ℕ, ℤ}
use Rattle.std.specs.Prelude.{slice_index, sum_by}
use Rattle.std.proofs.lemmas.List.Sums.{sum_by-cons, sum_by_push}
use Rattle.std.proofs.lemmas.Bool.{le-ltb}
use Rattle.mpi_call.specs.declared.call.Call.{Call}
use Rattle.mpi_call.specs.declared.call.Call.TheVariants.{Abort, End, Enter, Peek, Post, Send, Take, Trap}
use Rattle.mpi_call.specs.declared.reply.Got.TheVariants.{Message, Joined, Made}
use Rattle.mpi_call.specs.declared.reply.Item.{Item}
use Rattle.mpi_call.specs.declared.reply.Reply.{Reply}
use Rattle.mpi_call.specs.declared.reply.Reply.TheVariants.{Done, NotYet, Peeked, Stopped, Took}
use Rattle.mpi_call.specs.Members.{is_member}
use Rattle.run_model.specs.Views.{View, start_at}
use Rattle.run_model.proofs.Views.{test_cases}
use Rattle.srr_entry.specs.declared.entry.Marked.{Marked}
use Rattle.srr_entry.specs.Entries.{entries_from, entry_of, is_inner, mark_of_got, marks_of_items}
use Rattle.srr_entry.proofs.Making.{entries_from-snoc}
use Rattle.plan_advice.specs.declared.pieces.Piece.{Piece}
use Rattle.plan_advice.specs.declared.span.RunRank.{RunRank}
use Rattle.plan_advice.specs.Costs.{ints_of_entry, ints_in_mark}
use Rattle.plan_advice.specs.inside.Pieces.{ArePieces, HasRank, IsGrown, IsPiece, block_ranks, ints_in_pieces, ints_of_got, ints_of_items, ints_of_reply, is_within, kept_in, kept_ints, view_cost}
use Rattle.plan_advice.proofs.Blocks.{in_block}

-- 1. pieces of what starts give

pub message_piece : (n rank : ℕ) (own : View) (k source start tag : ℕ) (ints : List ℤ) (begin end : ℕ) (piece : Piece)
    → piece.least ≡ source → piece.greatest ≡ source → piece.ints ≡ length ints
    → kept_ints begin end piece ≡ ints_in_mark (mark_of_got n (block_ranks begin end) rank own k (Message source start tag ints))
message_piece n rank own k source start tag ints begin end piece low high long =
    let both : is_within begin end piece.least piece.greatest ≡ is_within begin end source source = rw (low, high) refl in
    elim (test_cases (is_within begin end source source)) [
      | inl t ↦ rw (both, in_block begin end source, t) refl
      | inr t ↦ rw (both, in_block begin end source, t) long
    ]

pub joined_piece : (n rank : ℕ) (own : View) (k : ℕ) (ints : List ℤ) (begin end least greatest : ℕ) (piece : Piece)
    → piece.least ≡ least → piece.greatest ≡ greatest → piece.ints ≡ length ints
    → is_inner n (block_ranks begin end) rank own (start_at own k) ≡ is_within begin end least greatest
    → kept_ints begin end piece ≡ ints_in_mark (mark_of_got n (block_ranks begin end) rank own k (Joined ints))
joined_piece n rank own k ints begin end least greatest piece low high long inner =
    let both : is_within begin end piece.least piece.greatest ≡ is_within begin end least greatest = rw (low, high) refl in
    elim (test_cases (is_within begin end least greatest)) [
      | inl t ↦ rw (both, inner, t) refl
      | inr t ↦ rw (both, inner, t) long
    ]

no_ints : (begin end : ℕ) (piece : Piece) → piece.ints ≡ 0 → kept_ints begin end piece ≡ 0
no_ints begin end piece none =
    elim (test_cases (is_within begin end piece.least piece.greatest)) [ inl t ↦ rw t refl | inr t ↦ rw t none ]

pub made_piece : (n rank : ℕ) (own : View) (k comm : ℕ) (members : List ℕ) (begin end : ℕ) (piece : Piece) → piece.ints ≡ 0
    → kept_ints begin end piece ≡ ints_in_mark (mark_of_got n (block_ranks begin end) rank own k (Made comm members))
made_piece n rank own k comm members begin end piece none =
    no_ints begin end piece none
    ∙ elim (test_cases (is_inner n (block_ranks begin end) rank own (start_at own k))) [ inl t ↦ rw t refl | inr t ↦ rw t refl ]

pub empty_piece : (begin end : ℕ) (piece : Piece) → piece.ints ≡ 0 → kept_ints begin end piece ≡ 0
empty_piece = no_ints

-- a start that was never made is in no block
pub never_made : (begin end : ℕ) → end ≤ 255 → is_within begin end 0 255 ≡ false
never_made begin end few = rw (le-ltb 255 end few) (and_false _)
  where
    and_false : (b : Bool) → (b && false) ≡ false
    and_false true = refl
    and_false false = refl

-- 2. items, replies and views

pub items_more : (n rank : ℕ) (own : View) (starts : List ℕ) (item : Item) (list rest : List Item) (start : ℕ) (first before after : List Piece) (piece : Piece) (all : List Item)
    → list ≡ item ∷ rest → start ≡ slice_index starts item.index → IsPiece n rank own start item.got piece → after ≡ before ++ piece ∷ []
    → ((begin end : ℕ) → HasRank rank begin end → kept_in begin end before + sum_by (λ (item : Marked). ints_in_mark item.mark) (marks_of_items n (block_ranks begin end) rank own starts list)
    ≡ kept_in begin end first + sum_by (λ (item : Marked). ints_in_mark item.mark) (marks_of_items n (block_ranks begin end) rank own starts all))
    → (begin end : ℕ) → HasRank rank begin end → kept_in begin end after + sum_by (λ (item : Marked). ints_in_mark item.mark) (marks_of_items n (block_ranks begin end) rank own starts rest)
    ≡ kept_in begin end first + sum_by (λ (item : Marked). ints_in_mark item.mark) (marks_of_items n (block_ranks begin end) rank own starts all)
items_more n rank own starts item list rest start first before after piece all split at is grown so_far begin end has =
    let group : List ℕ = block_ranks begin end in
    let marked : Marked = record { index = item.index; mark = mark_of_got n group rank own (slice_index starts item.index) item.got } in
    let cons = sum_by-cons (λ (item : Marked). ints_in_mark item.mark) marked (marks_of_items n group rank own starts rest) in
    let push : kept_in begin end after ≡ kept_in begin end before + kept_ints begin end piece = rw grown (sum_by_push (λ (piece : Piece). kept_ints begin end piece) before piece) in
    let F : ℕ → Type 0 = λ k. kept_ints begin end piece ≡ ints_in_mark (mark_of_got n group rank own k item.got) in
    let one = subst F at (is begin end has) in
    let front = ap (λ l. sum_by (λ (item : Marked). ints_in_mark item.mark) (marks_of_items n group rank own starts l)) split in
    let was = so_far begin end has in
    omega (arith, cons, push, one, was, front)

pub ints_more : (first before after : List Piece) (piece : Piece) (item : Item) (list rest all : List Item) → list ≡ item ∷ rest → after ≡ before ++ piece ∷ [] → piece.ints ≡ ints_of_got item.got
    → ints_in_pieces before + ints_of_items list ≡ ints_in_pieces first + ints_of_items all
    → ints_in_pieces after + ints_of_items rest ≡ ints_in_pieces first + ints_of_items all
ints_more first before after piece item list rest all split grown long was =
    let front = ap (λ l. ints_of_items l) split in
    let push : ints_in_pieces after ≡ ints_in_pieces before + piece.ints = rw grown (sum_by_push (λ (piece : Piece). piece.ints) before piece) in
    omega (arith, push, long, was, front)

-- other replies keep no ints
pub done_costs : (call : Call) (n rank : ℕ) (group : List ℕ) (own : View) → ints_of_entry (entry_of n group rank own call Done) ≡ 0
done_costs (Send comm dest tag ints sync) n rank group own = refl
done_costs (Post comm source tag room) n rank group own = refl
done_costs (Enter comm kind root op count ints) n rank group own = refl
done_costs (Take starts mode) n rank group own = refl
done_costs (Peek comm source tag wait) n rank group own = refl
done_costs (Abort code) n rank group own = refl
done_costs (Trap fault) n rank group own = refl
done_costs End n rank group own = refl

pub other_costs : (reply : Reply) (call : Call) (n rank : ℕ) (group : List ℕ) (own : View) → ((items : List Item) → reply ≡ Took items → ⊥)
    → (ints_of_entry (entry_of n group rank own call reply) ≡ 0) × (ints_of_reply reply ≡ 0)
other_costs Done call n rank group own not = (done_costs call n rank group own, refl)
other_costs (Took items) call n rank group own not = absurd (not items refl)
other_costs NotYet call n rank group own not = (refl, refl)
other_costs (Peeked source start tag count) call n rank group own not =
    (elim (test_cases (is_member group source)) [ inl t ↦ rw t refl | inr t ↦ rw t refl ], refl)
other_costs (Stopped halt) call n rank group own not = (refl, refl)

pub other_grown : (reply : Reply) (call : Call) (owner : RunRank) (own : View) (pieces : List Piece) → ((items : List Item) → reply ≡ Took items → ⊥)
    → IsGrown owner own call reply pieces pieces
other_grown reply call owner own pieces not begin end has =
    let none = (other_costs reply call owner.ranks owner.rank (block_ranks begin end) own not).0 in
    omega (arith, none)

-- one more reply of the rank
pub pieces_more : (owner : RunRank) (own own' : View) (call : Call) (reply : Reply) (before after : List Piece) → own' ≡ own ++ (call, reply) ∷ []
    → ArePieces owner.ranks owner.rank own before → IsGrown owner own call reply before after → ArePieces owner.ranks owner.rank own' after
pieces_more owner own own' call reply before after is are grown begin end has =
    let n : ℕ = owner.ranks in
    let rank : ℕ = owner.rank in
    let group : List ℕ = block_ranks begin end in
    let snoc : entries_from n group rank [] own' ≡ entries_from n group rank [] own ++ entry_of n group rank own call reply ∷ [] = rw is (entries_from-snoc n group rank [] own call reply) in
    let push = sum_by_push ints_of_entry (entries_from n group rank [] own) (entry_of n group rank own call reply) in
    let whole : view_cost n begin end rank own' ≡ view_cost n begin end rank own + ints_of_entry (entry_of n group rank own call reply) = rw snoc push in
    let more = grown begin end has in
    let was = are begin end has in
    omega (arith, whole, more, was)
