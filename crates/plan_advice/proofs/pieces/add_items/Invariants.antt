use Rattle.std.proofs.Common.{◌≡◌, ◌+◌, length, ℕ}
use Rattle.std.specs.Prelude.{sum_by}
use Rattle.run_model.specs.Views.{View}
use Rattle.srr_entry.specs.declared.entry.Marked.{Marked}
use Rattle.srr_entry.specs.Entries.{marks_of_items}
use Rattle.srr_entry.specs.Known.{IsKnownOf}
use Rattle.plan_advice.specs.Costs.{ints_in_mark}
use Rattle.plan_advice.specs.inside.Pieces.{HasRank, block_ranks, ints_in_pieces, ints_of_items, kept_in}
use Rattle.plan_advice.proofs.pieces.add_items.Given as goal

abbrev pub invariant-loop-rest : goal.invariant-loop-rest
invariant-loop-rest l = record {
  grown : (own : View) → IsKnownOf l.owner.ranks own l.known → (begin end : ℕ) → HasRank l.owner.rank begin end
      → kept_in begin end l.pieces + sum_by (λ (item : Marked). ints_in_mark item.mark) (marks_of_items l.owner.ranks (block_ranks begin end) l.owner.rank own l.starts l.rest)
      ≡ kept_in begin end l.initial.pieces + sum_by (λ (item : Marked). ints_in_mark item.mark) (marks_of_items l.owner.ranks (block_ranks begin end) l.owner.rank own l.starts l.items);
  ints : ints_in_pieces l.pieces + ints_of_items l.rest ≡ ints_in_pieces l.initial.pieces + ints_of_items l.items;
}

abbrev pub decreases-loop-rest : goal.decreases-loop-rest
decreases-loop-rest l = length l.rest
