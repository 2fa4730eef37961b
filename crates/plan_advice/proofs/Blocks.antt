-- The ranks of a block, and how far ranks reach.
use Rattle.std.proofs.Common.{◌≡◌, ◌≤◌, ◌<◌, ◌+◌, ◌-◌, ◌∷◌, ◌==◌, ◌∙◌, ◌&&◌, Bool, List, [], ap, arith, drop, false, get_or, if◌then◌else◌, inl, inr, length, max, min, nat_le, nat_lt, refl, suc, sym, take, true, zero, ℕ}
use Rattle.std.proofs.Math.Seq.{take-length}
use Rattle.std.proofs.lemmas.Bool.{and_from, and_parts, eq-eqb, eqb-true, le-leb, leb-true, lt-ltb, ltb-true, or_cases, or_left, or_right}
use Rattle.mpi_call.specs.Members.{is_member}
use Rattle.run_model.specs.Lists.{world}
use Rattle.run_model.proofs.Views.{test_cases}
use Rattle.srr_entry.specs.Entries.{all_within}
use Rattle.plan_advice.specs.inside.Pieces.{HasRank, block_ranks, is_within}

pub bool_same : (a b : Bool) → (a ≡ true → b ≡ true) → (b ≡ true → a ≡ true) → a ≡ b
bool_same true b there back = sym (there refl)
bool_same false true there back = back refl
bool_same false false there back = refl

world_member : (count from m : ℕ) → is_member (world count from) m ≡ true → (from ≤ m) × (m < from + count)
world_member zero from m h = absurd (cc)
world_member (suc count) from m h =
    elim (or_cases (from == m) (is_member (world count (from + 1)) m) h) [
      | inl t ↦ (let same = eqb-true from m t in (omega (arith, same), omega (arith, same)))
      | inr t ↦ (let rest = world_member count (from + 1) m t in (omega (arith, rest.0), omega (arith, rest.1)))
    ]

world_has : (count from m : ℕ) → from ≤ m → m < from + count → is_member (world count from) m ≡ true
world_has zero from m low high = absurd (omega (arith, low, high))
world_has (suc count) from m low high =
    elim (test_cases (from == m)) [
      | inl t ↦ or_left (from == m) (is_member (world count (from + 1)) m) t
      | inr t ↦ (
          let apart : (from ≡ m) → ⊥ = λ same. (let no : true ≡ false = sym (eq-eqb from m same) ∙ t in cc) in
          or_right (from == m) (is_member (world count (from + 1)) m)
          (world_has count (from + 1) m (omega (arith, low, apart)) (omega (arith, high))))
    ]

within_parts : (begin end least greatest : ℕ) → is_within begin end least greatest ≡ true → (begin ≤ least) × (greatest < end)
within_parts begin end least greatest h =
    let parts = and_parts (nat_le begin least) (nat_lt greatest end) h in
    (leb-true begin least parts.0, ltb-true greatest end parts.1)

pub within_from : (begin end least greatest : ℕ) → begin ≤ least → greatest < end → is_within begin end least greatest ≡ true
within_from begin end least greatest low high = and_from (nat_le begin least) (nat_lt greatest end) (le-leb begin least low) (lt-ltb greatest end high)

-- a block has the ranks from its beginning to before its end
pub in_block : (begin end m : ℕ) → is_member (block_ranks begin end) m ≡ is_within begin end m m
in_block begin end m =
    bool_same (is_member (world (end - begin) begin) m) (is_within begin end m m)
    (λ h. (let is = world_member (end - begin) begin m h in
    let low = is.0 in
    let high = is.1 in
    within_from begin end m m low (omega (arith, low, high))))
    (λ h. (let is = within_parts begin end m m h in
    let low = is.0 in
    let high = is.1 in
    world_has (end - begin) begin m low (omega (arith, low, high))))

-- one rank more
pub wider_is : (begin end least greatest m : ℕ) → is_within begin end (min least m) (max greatest m) ≡ (is_within begin end least greatest && is_within begin end m m)
wider_is begin end least greatest m =
    bool_same (is_within begin end (min least m) (max greatest m)) (is_within begin end least greatest && is_within begin end m m)
    (λ h. (let is = within_parts begin end (min least m) (max greatest m) h in
    let low = is.0 in
    let high = is.1 in
    and_from (is_within begin end least greatest) (is_within begin end m m)
    (within_from begin end least greatest (omega (arith, low)) (omega (arith, high)))
    (within_from begin end m m (omega (arith, low)) (omega (arith, high)))))
    (λ h. (let both = and_parts (is_within begin end least greatest) (is_within begin end m m) h in
    let one = within_parts begin end least greatest both.0 in
    let two = within_parts begin end m m both.1 in
    let low = one.0 in
    let high = one.1 in
    let low' = two.0 in
    let high' = two.1 in
    within_from begin end (min least m) (max greatest m) (omega (arith, low, low')) (omega (arith, high, high'))))

and_assoc : (a b c : Bool) → ((a && b) && c) ≡ (a && (b && c))
and_assoc true b c = refl
and_assoc false b c = refl

pub rest_is : {X : Type 0} (list : List X) (first : X) → 1 ≤ length list → first ≡ get_or list 0 first → list ≡ first ∷ take (length list - 1) (drop 1 list)
rest_is [] first some is = absurd (omega (arith, some))
rest_is (x ∷ list) first some is =
    let less : length (x ∷ list) - 1 ≡ length list = omega arith in
    rw (less, take-length list) (ap (λ y. y ∷ list) (sym is))

-- the same of numbers
pub rest_at : (list : List ℕ) → 1 ≤ length list → list ≡ get_or list 0 0 ∷ take (length list - 1) (drop 1 list)
rest_at [] some = absurd (omega (arith, some))
rest_at (x ∷ list) some =
    let less : length (x ∷ list) - 1 ≡ length list = omega arith in
    rw (less, take-length list) refl

-- a member more: it is in the block where it is needed
pub span_more : (begin end least greatest least' greatest' m : ℕ) (needed : ℕ → Bool) (members list rest : List ℕ) → list ≡ m ∷ rest
    → is_within begin end least' greatest' ≡ (if needed m then is_within begin end least greatest && is_within begin end m m else is_within begin end least greatest)
    → all_within (block_ranks begin end) needed members ≡ (is_within begin end least greatest && all_within (block_ranks begin end) needed list)
    → all_within (block_ranks begin end) needed members ≡ (is_within begin end least' greatest' && all_within (block_ranks begin end) needed rest)
span_more begin end least greatest least' greatest' m needed members list rest split is was =
    let so_far : all_within (block_ranks begin end) needed members ≡ (is_within begin end least greatest && all_within (block_ranks begin end) needed (m ∷ rest)) =
    was ∙ ap (λ l. is_within begin end least greatest && all_within (block_ranks begin end) needed l) split in
    let others : Bool = all_within (block_ranks begin end) needed rest in
    let old : Bool = is_within begin end least greatest in
    elim (test_cases (needed m)) [
      | inl t ↦ (
          let there : all_within (block_ranks begin end) needed (m ∷ rest) ≡ (is_within begin end m m && others) = rw t (ap (λ b. b && others) (in_block begin end m)) in
          let now : is_within begin end least' greatest' ≡ (old && is_within begin end m m) = rw t at is in
          so_far ∙ (ap (λ b. old && b) there ∙ (sym (and_assoc old (is_within begin end m m) others) ∙ ap (λ b. b && others) (sym now))))
      | inr t ↦ (
          let there : all_within (block_ranks begin end) needed (m ∷ rest) ≡ others = rw t refl in
          let now : is_within begin end least' greatest' ≡ old = rw t at is in
          so_far ∙ (ap (λ b. old && b) there ∙ ap (λ b. b && others) (sym now)))
    ]

pub span_first : (begin end rank : ℕ) (needed : ℕ → Bool) (members : List ℕ) → HasRank rank begin end
    → all_within (block_ranks begin end) needed members ≡ (is_within begin end rank rank && all_within (block_ranks begin end) needed members)
span_first begin end rank needed members has =
    ap (λ b. b && all_within (block_ranks begin end) needed members) (sym (within_from begin end rank rank has.from has.to))

and_true : (b : Bool) → (b && true) ≡ b
and_true true = refl
and_true false = refl

pub span_all : (begin end least greatest : ℕ) (needed : ℕ → Bool) (members rest : List ℕ) → length rest < 1
    → all_within (block_ranks begin end) needed members ≡ (is_within begin end least greatest && all_within (block_ranks begin end) needed rest)
    → all_within (block_ranks begin end) needed members ≡ is_within begin end least greatest
span_all begin end least greatest needed members [] less so_far = so_far ∙ and_true (is_within begin end least greatest)
span_all begin end least greatest needed members (m ∷ rest) less so_far = absurd (omega (arith, less))
