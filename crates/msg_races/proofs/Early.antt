-- Where there are too many others before the end, there are too many in all.
use Rattle.std.proofs.Common.{◌≡◌, ◌≤◌, ◌<◌, ◌+◌, ◌++◌, ◌∷◌, [], ℕ, zero, suc, List, inl, inr, ap, arith, append-nil, append_assoc, get_or, length, sym, ◌∙◌}
use Rattle.causes.specs.Clocks.{Observed}
use Rattle.msg_races.specs.declared.names.Name.{Name}
use Rattle.msg_races.specs.declared.receives.WildcardReceive.{WildcardReceive}
use Rattle.msg_races.specs.Listing.{arrival_at, lists_below, received, receives_at, receives_below, receives_of}
use Rattle.msg_races.specs.Names.{count_racing}
use Rattle.msg_races.proofs.Counting.{count-more}
use Rattle.msg_races.proofs.SortedLists.{test_last}

pub rest_is_early : (seen : Observed) (rank number most : ℕ) (rest : List ℕ) (listing all : List WildcardReceive) → 1 ≤ length rest
    → listing ++ receives_at seen rank number rest ≡ all
    → (let name : Name = record { rank = rank; start = number } in most < count_racing (listing ++ received seen (arrival_at seen.events name (get_or rest 0 0)))) → most < count_racing all
rest_is_early seen rank number most [] listing all some whole above = absurd (omega (arith, some))
rest_is_early seen rank number most (place ∷ places) listing all some whole above =
    let name : Name = record { rank = rank; start = number } in
    let one : List WildcardReceive = received seen (arrival_at seen.events name place) in
    let more : List WildcardReceive = receives_at seen rank (number + 1) places in
    count-more most (listing ++ one) more all (append_assoc listing one more ∙ whole) above

-- what is given for a rank comes after what is given for those below it
joined_begins : {A : Type 0} (lists : ℕ → List A) (rank ranks : ℕ) → rank < ranks → (more : List A) × ((lists_below lists rank ++ lists rank) ++ more ≡ lists_below lists ranks)
joined_begins lists rank zero low = absurd (omega (arith, low))
joined_begins {A} lists rank (suc ranks) low = elim (test_last rank ranks (omega (arith, low))) [
  | inl e ↦ ([], append-nil (lists_below lists rank ++ lists rank) ∙ ap (λ r. lists_below lists r ++ lists r) e)
  | inr less ↦ (
      let rest = joined_begins lists rank ranks less in
      (rest.0 ++ lists ranks, sym (append_assoc (lists_below lists rank ++ lists rank) rest.0 (lists ranks)) ∙ ap (λ l. l ++ lists ranks) rest.1))
]

pub joined_is_early : (seen : Observed) (rank ranks most : ℕ) → rank < ranks → most < count_racing (receives_below seen rank ++ receives_of seen rank) → most < count_racing (receives_below seen ranks)
joined_is_early seen rank ranks most low above =
    let begins = joined_begins (receives_of seen) rank ranks low in
    count-more most (receives_below seen rank ++ receives_of seen rank) begins.0 (receives_below seen ranks) begins.1 above
