-- How far a collective's result reaches.
use Rattle.std.proofs.Common.{◌≡◌, ◌∙◌, List, None, Option, Some, [], ap, subst, sym, ℕ, ℤ}
use Rattle.mpi_call.specs.declared.call.Call.{Call}
use Rattle.mpi_call.specs.declared.call.Call.TheVariants.{Enter}
use Rattle.mpi_call.specs.declared.call.Kind.{Kind}
use Rattle.mpi_call.specs.declared.call.Op.{Op}
use Rattle.mpi_call.specs.Needs.{needs}
use Rattle.run_model.specs.Communicators.{known_in, members_for_rank, or_none}
use Rattle.run_model.specs.Views.{View, start_at}
use Rattle.srr_entry.specs.Entries.{all_within, is_inner}
use Rattle.srr_entry.proofs.Making.{other_inner}
use Rattle.plan_advice.specs.inside.Pieces.{HasRank, block_ranks, is_within}
use Rattle.plan_advice.proofs.Blocks.{within_from}
use Rattle.plan_advice.proofs.Keeping.{never_made}

pub enter_reaches : (n rank : ℕ) (own : View) (k : ℕ) (call : Call) (comm : ℕ) (kind : Kind) (root : Option ℕ) (op : Option Op) (count : ℕ) (ints : List ℤ) (members : List ℕ) (begin end least greatest : ℕ)
    → start_at own k ≡ Some call → call ≡ Enter comm kind root op count ints → known_in n own comm ≡ Some members
    → all_within (block_ranks begin end) (needs call members rank) members ≡ is_within begin end least greatest
    → is_inner n (block_ranks begin end) rank own (start_at own k) ≡ is_within begin end least greatest
enter_reaches n rank own k call comm kind root op count ints members begin end least greatest at is known within =
    let group : List ℕ = block_ranks begin end in
    let enter : Call = Enter comm kind root op count ints in
    let P : Call → Type 0 = λ c. all_within group (needs c members rank) members ≡ is_within begin end least greatest in
    let there : start_at own k ≡ Some (Enter comm kind root op count ints) = at ∙ ap (λ (c : Call). Some c) is in
    let same : members_for_rank n own comm ≡ members = ap (λ o. or_none o) known in
    ap (λ o. is_inner n group rank own o) there
    ∙ (ap (λ l. all_within group (needs (Enter comm kind root op count ints) l rank) l) same ∙ subst P is within)

pub unknown_reaches : (n rank : ℕ) (own : View) (k : ℕ) (call : Call) (comm : ℕ) (kind : Kind) (root : Option ℕ) (op : Option Op) (count : ℕ) (ints : List ℤ) (begin end : ℕ)
    → start_at own k ≡ Some call → call ≡ Enter comm kind root op count ints → known_in n own comm ≡ None → HasRank rank begin end
    → is_inner n (block_ranks begin end) rank own (start_at own k) ≡ is_within begin end rank rank
unknown_reaches n rank own k call comm kind root op count ints begin end at is known has =
    let group : List ℕ = block_ranks begin end in
    let there : start_at own k ≡ Some (Enter comm kind root op count ints) = at ∙ ap (λ (c : Call). Some c) is in
    let same : members_for_rank n own comm ≡ [] = ap (λ o. or_none o) known in
    ap (λ o. is_inner n group rank own o) there
    ∙ (ap (λ l. all_within group (needs (Enter comm kind root op count ints) l rank) l) same ∙ sym (within_from begin end rank rank has.from has.to))

pub other_reaches : (n rank : ℕ) (own : View) (k : ℕ) (call : Call) (begin end : ℕ)
    → start_at own k ≡ Some call → ((comm : ℕ) (kind : Kind) (root : Option ℕ) (op : Option Op) (count : ℕ) (ints : List ℤ) → call ≡ Enter comm kind root op count ints → ⊥)
    → HasRank rank begin end → is_inner n (block_ranks begin end) rank own (start_at own k) ≡ is_within begin end rank rank
other_reaches n rank own k call begin end at not has =
    ap (λ o. is_inner n (block_ranks begin end) rank own o) at
    ∙ (other_inner n (block_ranks begin end) rank own call not ∙ sym (within_from begin end rank rank has.from has.to))

pub nothing_reaches : (n rank : ℕ) (own : View) (k : ℕ) (begin end : ℕ) → start_at own k ≡ None → HasRank rank begin end
    → is_inner n (block_ranks begin end) rank own (start_at own k) ≡ is_within begin end 0 255
nothing_reaches n rank own k begin end at has =
    ap (λ o. is_inner n (block_ranks begin end) rank own o) at ∙ sym (never_made begin end has.few)
