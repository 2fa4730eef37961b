-- What a block costs, by the lists of its ranks.
use Rattle.std.proofs.Common.{◌≡◌, ◌≤◌, ◌<◌, ◌+◌, ◌-◌, ◌^◌, ◌∷◌, ◌++◌, ◌∙◌, ◌⊎◌, List, [], ap, arith, get_or, inl, inr, length, length-append, map, refl, subst, suc, sym, zero, ℕ}
use Rattle.std.specs.Prelude.{sum_by}
use Rattle.std.specs.List.{slice_index_or}
use Rattle.std.proofs.lemmas.Bool.{cases_lt}
use Rattle.std.proofs.lemmas.List.{get_or_append_left, get_or_push}
use Rattle.std.proofs.lemmas.List.Sums.{sum_by-cons}
use Rattle.run_model.specs.declared.event.Event.{Event}
use Rattle.run_model.specs.Lists.{world}
use Rattle.run_model.specs.Views.{view_of}
use Rattle.srr_entry.specs.Entries.{entries_from}
use Rattle.plan_advice.specs.declared.pieces.Piece.{Piece}
use Rattle.plan_advice.specs.Costs.{block_cost, group_cost, ints_of_entry}
use Rattle.plan_advice.specs.inside.Pieces.{AreCosts, AreFew, ArePieces, block_ranks, ints_in_pieces, kept_by, kept_in, view_cost}

-- an element does not rest on the default
pub same_at : {X : Type 0} (xs : List X) (i : ℕ) (d e : X) → i < length xs → get_or xs i d ≡ get_or xs i e
same_at [] i d e less = absurd (omega (arith, less))
same_at (x ∷ xs) zero d e less = refl
same_at (x ∷ xs) (suc i) d e less = same_at xs i d e (omega (arith, less))

-- a sum over the lists of some ranks
pub sum_map : {X : Type 0} (f : X → ℕ) (g : ℕ → X) (ranks : List ℕ) → sum_by f (map g ranks) ≡ sum_by (λ rank. f (g rank)) ranks
sum_map f g [] = refl
sum_map f g (rank ∷ ranks) =
    let left = sum_by-cons f (g rank) (map g ranks) in
    let right = sum_by-cons (λ rank. f (g rank)) rank ranks in
    let rest = sum_map f g ranks in
    omega (arith, left, right, rest)

-- what a group costs, rank by rank
pub group_is : (n : ℕ) (events : List Event) (group : List ℕ)
    → group_cost n events group ≡ sum_by (λ rank. sum_by ints_of_entry (entries_from n group rank [] (view_of events rank))) group
group_is n events group = sum_map (λ entries. sum_by ints_of_entry entries) (λ rank. entries_from n group rank [] (view_of events rank)) group

-- two functions that are the same from a rank on
pub sum_same : (f g : ℕ → ℕ) (count from : ℕ) → ((rank : ℕ) → from ≤ rank → rank < from + count → f rank ≡ g rank) → sum_by f (world count from) ≡ sum_by g (world count from)
sum_same f g zero from same = refl
sum_same f g (suc count) from same =
    let left = sum_by-cons f from (world count (from + 1)) in
    let right = sum_by-cons g from (world count (from + 1)) in
    let first = same from (omega arith) (omega arith) in
    let rest = sum_same f g count (from + 1) (λ rank low high. same rank (omega (arith, low)) (omega (arith, high))) in
    omega (arith, left, right, first, rest)

pub block_is : (n : ℕ) (events : List Event) (lists : List (List Piece)) (begin end : ℕ) → AreCosts n events lists → begin < end → end ≤ n → end ≤ 255
    → kept_by begin end lists (block_ranks begin end) ≡ block_cost n events begin end
block_is n events lists begin end are some within few =
    let whole = group_is n events (block_ranks begin end) in
    let same = sum_same (λ rank. kept_in begin end (slice_index_or lists rank [])) (λ rank. view_cost n begin end rank (view_of events rank)) (end - begin) begin
    (λ rank low high. (
    let to : rank < end = omega (arith, low, high, some) in
    are.each rank (omega (arith, to, within)) begin end (record { from = low; to = to; few = few }))) in
    same ∙ sym whole

-- the next rank of a block
pub world_split : (begin end rank : ℕ) → rank < end → world (end - rank) rank ≡ rank ∷ world (end - (rank + 1)) (rank + 1)
world_split begin end rank below =
    let count : end - rank ≡ suc (end - (rank + 1)) = omega (arith, below) in
    ap (λ k. world k rank) count

pub kept_more : (begin end rank total kept : ℕ) (lists : List (List Piece)) (all : ℕ) → rank < end
    → kept ≡ kept_in begin end (slice_index_or lists rank [])
    → total + kept_by begin end lists (world (end - rank) rank) ≡ all
    → total + kept + kept_by begin end lists (world (end - (rank + 1)) (rank + 1)) ≡ all
kept_more begin end rank total kept lists all below is was =
    let F : ℕ → ℕ = λ rank. kept_in begin end (slice_index_or lists rank []) in
    let split : kept_by begin end lists (world (end - rank) rank) ≡ sum_by F (rank ∷ world (end - (rank + 1)) (rank + 1)) = ap (λ ranks. sum_by F ranks) (world_split begin end rank below) in
    let cons = sum_by-cons F rank (world (end - (rank + 1)) (rank + 1)) in
    omega (arith, split, cons, is, was)

pub kept_all : (begin end rank total : ℕ) (lists : List (List Piece)) (all : ℕ) → end ≤ rank
    → total + kept_by begin end lists (world (end - rank) rank) ≡ all → total ≡ all
kept_all begin end rank total lists all past was =
    let none : end - rank ≡ 0 = omega (arith, past) in
    let empty : kept_by begin end lists (world (end - rank) rank) ≡ 0 = ap (λ k. kept_by begin end lists (world k rank)) none in
    omega (arith, empty, was)

-- the lists of the first ranks
length_push : {X : Type 0} (xs : List X) (x : X) → length (xs ++ x ∷ []) ≡ length xs + 1
length_push xs x = length-append xs (x ∷ [])

last_or : (k count : ℕ) → k < count + 1 → (k < count) ⊎ (k ≡ count)
last_or k count below = elim (cases_lt k count) [ inl less ↦ inl less | inr more ↦ inr (omega (arith, below, more)) ]

pub record AreCostsUpTo (n count : ℕ) (events : List Event) (lists : List (List Piece)) : Type 0 where
  pub many : length lists ≡ count
  pub each : (rank : ℕ) → rank < count → ArePieces n rank (view_of events rank) (slice_index_or lists rank [])
  pub few : AreFew lists

pub none_costs : (n : ℕ) (events : List Event) → AreCostsUpTo n 0 events []
none_costs n events = record { many = refl; each = λ rank below. absurd (omega (arith, below)); few = λ rank below. absurd (omega (arith, below)) }

pub costs_more : (n count : ℕ) (events : List Event) (lists lists' : List (List Piece)) (pieces : List Piece) → lists' ≡ lists ++ pieces ∷ []
    → AreCostsUpTo n count events lists → ArePieces n count (view_of events count) pieces → ints_in_pieces pieces < 2 ^ 32 → AreCostsUpTo n (count + 1) events lists'
costs_more n count events lists lists' pieces grown are is few =
    let many = are.many in
    let one : length (lists ++ pieces ∷ []) ≡ length lists + 1 = length_push lists pieces in
    let long : length lists' ≡ count + 1 = ap (λ l. length l) grown ∙ omega (arith, one, many) in
    let old : (rank : ℕ) → rank < count → slice_index_or lists' rank [] ≡ slice_index_or lists rank [] =
    λ rank below. ap (λ l. slice_index_or l rank []) grown ∙ get_or_append_left lists (pieces ∷ []) [] rank (omega (arith, below, many)) in
    let new : slice_index_or lists' count [] ≡ pieces = ap (λ l. slice_index_or l count []) grown ∙ get_or_push lists pieces [] count many in
    record {
      many = long;
      each = λ rank below. elim (last_or rank count below) [
        | inl less ↦ (let P : List Piece → Type 0 = λ l. ArePieces n rank (view_of events rank) l in subst P (sym (old rank less)) (are.each rank less))
        | inr same ↦ (
            let P : List Piece → Type 0 = λ l. ArePieces n count (view_of events count) l in
            let Q : ℕ → Type 0 = λ r. ArePieces n r (view_of events r) (slice_index_or lists' r []) in
            subst Q (sym same) (subst P (sym new) is))
      ];
      few = λ rank below. elim (last_or rank count (omega (arith, below, long))) [
        | inl less ↦ (let P : List Piece → Type 0 = λ l. ints_in_pieces l < 2 ^ 32 in subst P (sym (old rank less)) (are.few rank (omega (arith, less, many))))
        | inr same ↦ (
            let P : List Piece → Type 0 = λ l. ints_in_pieces l < 2 ^ 32 in
            let Q : ℕ → Type 0 = λ r. ints_in_pieces (slice_index_or lists' r []) < 2 ^ 32 in
            subst Q (sym same) (subst P (sym new) few))
      ];
    }
