-- The bits of a group, both ways.
use Rattle.std.proofs.Common.{◌≡◌, ◌≢◌, ℕ, zero, suc, ◌+◌, ◌*◌, ◌-◌, ◌/◌, ◌%◌, ◌^◌, ◌<◌, ◌≤◌, inl, inr, Bool, true, false, List, [], ◌∷◌, length, refl, sym, ap, subst, ◌∙◌, arith, pow-suc}
use Rattle.std.specs.Prelude.{if◌then◌else◌, ◌==◌}
use Rattle.std.proofs.lemmas.Bool.{cases_Bool, ne_eqb, eq-eqb, eqb-true, and_parts, lt-ltb, ltb-true}
use Rattle.mpi_call.specs.Collectives.{is_member}
use Rattle.run_model.specs.Lists.{are_below}
use Rattle.mpi_call.specs.Lists.{Rises}
use Rattle.srr_log2.specs.LogBytes.{bits_from}
use Rattle.srr_log2.specs.Reading.{bits_set}

pub bits_fit : (lowest higher count : ℕ) → count ≢ 0 → lowest ≤ 1 → higher < 2 ^ (count - 1) → lowest + 2 * higher < 2 ^ count
bits_fit lowest higher zero some' low high = absurd (omega arith)
bits_fit lowest higher (suc count) some' low high =
    let one : suc count - 1 ≡ count = omega arith in
    let high' : higher < 2 ^ count = rw (← one) high in
    rw (pow-suc 2 count) (omega arith)

abbrev bit : Bool → ℕ
bit b = if b then 1 else 0

bit_low : (b : Bool) → bit b ≤ 1
bit_low true = omega arith
bit_low false = omega arith

-- members
member_first : (rank : ℕ) (ranks : List ℕ) → is_member (rank ∷ ranks) rank ≡ true
member_first rank ranks = rw (eq-eqb rank rank refl) refl

member_other : (rank first : ℕ) (ranks : List ℕ) → rank ≢ first → is_member (rank ∷ ranks) first ≡ is_member ranks first
member_other rank first ranks apart = rw (ne_eqb rank first apart) refl

not_member : (first least : ℕ) (ranks : List ℕ) → Rises least ranks → first < least → is_member ranks first ≡ false
not_member first least [] rise less = refl
not_member first least (rank ∷ ranks) rise less =
    let above = rise.0 in
    member_other rank first ranks (omega arith) ∙ not_member first (rank + 1) ranks rise.1 (omega arith)

not_below : (first n : ℕ) (ranks : List ℕ) → are_below n ranks ≡ true → n ≤ first → is_member ranks first ≡ false
not_below first n [] below over = refl
not_below first n (rank ∷ ranks) below over =
    let p = and_parts _ _ below in
    let less : rank < n = ltb-true _ _ p.0 in
    member_other rank first ranks (omega arith) ∙ not_below first n ranks p.1 over

-- a rank below the first has no bit
bits_skip : (m first rank : ℕ) (ranks : List ℕ) → rank < first → bits_from m first (rank ∷ ranks) ≡ bits_from m first ranks
bits_skip zero first rank ranks less = refl
bits_skip (suc m) first rank ranks less =
    ap (λ b. bit b + 2 * bits_from m (first + 1) (rank ∷ ranks)) (member_other rank first ranks (omega arith))
    ∙ ap (λ k. bit (is_member ranks first) + 2 * k) (bits_skip m (first + 1) rank ranks (omega arith))

bits_none : (m first n : ℕ) (ranks : List ℕ) → are_below n ranks ≡ true → n ≤ first → bits_from m first ranks ≡ 0
bits_none zero first n ranks below over = refl
bits_none (suc m) first n ranks below over =
    ap (λ b. bit b + 2 * bits_from m (first + 1) ranks) (not_below first n ranks below over)
    ∙ ap (λ k. 0 + 2 * k) (bits_none m (first + 1) n ranks below (omega arith)) ∙ (let z : 0 + 2 * 0 ≡ 0 = omega arith in z)

-- the lowest bit
set_step : (b : Bool) (count first higher : ℕ) → bits_set (suc count) first (bit b + 2 * higher) ≡ (if b then first ∷ bits_set count (first + 1) higher else bits_set count (first + 1) higher)
set_step true count first higher =
    let odd : (1 + 2 * higher) % 2 ≡ 1 = omega arith in
    let half : (1 + 2 * higher) / 2 ≡ higher = omega arith in
    rw (odd, half) refl
set_step false count first higher =
    let even : (0 + 2 * higher) % 2 ≡ 0 = omega arith in
    let half : (0 + 2 * higher) / 2 ≡ higher = omega arith in
    rw (even, half) refl

-- the bits of a group say the group
pub set_of_bits : (count m first n : ℕ) (ranks : List ℕ) → count ≤ m → Rises first ranks → are_below n ranks ≡ true → n ≤ first + count → bits_set count first (bits_from m first ranks) ≡ ranks
set_of_bits zero m first n [] few rise below over = refl
set_of_bits zero m first n (rank ∷ ranks) few rise below over =
    let p = and_parts _ _ below in
    let less : rank < n = ltb-true _ _ p.0 in
    let above = rise.0 in absurd (omega arith)
set_of_bits (suc count) zero first n ranks few rise below over = absurd (omega arith)
set_of_bits (suc count) (suc m) first n [] few rise below over =
    set_step false count first (bits_from m (first + 1) []) ∙ set_of_bits count m (first + 1) 0 [] (omega arith) tt refl (omega arith)
set_of_bits (suc count) (suc m) first n (rank ∷ ranks) few rise below over =
    let p = and_parts _ _ below in
    elim (cases_Bool (rank == first)) [
      | inl same ↦
          let is : rank ≡ first = eqb-true _ _ same in
          let member : is_member (rank ∷ ranks) first ≡ true = ap (is_member (rank ∷ ranks)) (sym is) ∙ member_first rank ranks in
          let rise' : Rises (first + 1) ranks = subst (λ k. Rises (k + 1) ranks) is rise.1 in
          ap (λ b. bits_set (suc count) first (bit b + 2 * bits_from m (first + 1) (rank ∷ ranks))) member
          ∙ set_step true count first (bits_from m (first + 1) (rank ∷ ranks))
          ∙ ap (λ k. first ∷ bits_set count (first + 1) k) (bits_skip m (first + 1) rank ranks (omega arith))
          ∙ ap (λ xs. first ∷ xs) (set_of_bits count m (first + 1) n ranks (omega arith) rise' p.1 (omega arith))
          ∙ ap (λ k. k ∷ ranks) (sym is)
      | inr other ↦
          let apart : rank ≢ first = λ is. let yes : (rank == first) ≡ true = eq-eqb rank first is in absurd cc in
          let low = rise.0 in
          let more : first + 1 ≤ rank = omega arith in
          let rise' : Rises (first + 1) (rank ∷ ranks) = (more, rise.1) in
          ap (λ b. bits_set (suc count) first (bit b + 2 * bits_from m (first + 1) (rank ∷ ranks))) (not_member first (first + 1) (rank ∷ ranks) rise' (omega arith))
          ∙ set_step false count first (bits_from m (first + 1) (rank ∷ ranks))
          ∙ set_of_bits count m (first + 1) n (rank ∷ ranks) (omega arith) rise' below (omega arith)
    ]

pub bits_small : (count m first n : ℕ) (ranks : List ℕ) → count ≤ m → are_below n ranks ≡ true → n ≤ first + count → bits_from m first ranks < 2 ^ count
bits_small zero m first n ranks few below over = let none = bits_none m first n ranks below (omega arith) in rw none (omega arith)
bits_small (suc count) zero first n ranks few below over = absurd (omega arith)
bits_small (suc count) (suc m) first n ranks few below over =
    let higher = bits_small count m (first + 1) n ranks (omega arith) below (omega arith) in
    let low = bit_low (is_member ranks first) in
    rw (pow-suc 2 count) (omega arith)

pub bits_some : (m first n rank : ℕ) (ranks : List ℕ) → Rises first (rank ∷ ranks) → are_below n (rank ∷ ranks) ≡ true → n ≤ first + m → 0 < bits_from m first (rank ∷ ranks)
bits_some zero first n rank ranks rise below over =
    let p = and_parts _ _ below in
    let less : rank < n = ltb-true _ _ p.0 in
    let above = rise.0 in absurd (omega arith)
bits_some (suc m) first n rank ranks rise below over =
    elim (cases_Bool (rank == first)) [
      | inl same ↦
          let is : rank ≡ first = eqb-true _ _ same in
          let member : is_member (rank ∷ ranks) first ≡ true = ap (is_member (rank ∷ ranks)) (sym is) ∙ member_first rank ranks in
          let one : bits_from (suc m) first (rank ∷ ranks) ≡ 1 + 2 * bits_from m (first + 1) (rank ∷ ranks) = ap (λ b. bit b + 2 * bits_from m (first + 1) (rank ∷ ranks)) member in
          rw one (omega arith)
      | inr other ↦
          let apart : rank ≢ first = λ is. let yes : (rank == first) ≡ true = eq-eqb rank first is in absurd cc in
          let low = rise.0 in
          let more : first + 1 ≤ rank = omega arith in
          let higher = bits_some m (first + 1) n rank ranks (more, rise.1) below (omega arith) in
          omega (arith, higher)
    ]

-- what the bits of a number say
rise_down : (least : ℕ) (ranks : List ℕ) → Rises (least + 1) ranks → Rises least ranks
rise_down least [] rise = tt
rise_down least (rank ∷ ranks) rise = let above = rise.0 in (omega arith, rise.1)

pub set_rises : (count first bits : ℕ) → Rises first (bits_set count first bits)
set_rises zero first bits = tt
set_rises (suc count) first bits = both (bits % 2 == 1) (bits_set count (first + 1) (bits / 2)) (set_rises count (first + 1) (bits / 2))
  where
    both : (b : Bool) (ranks : List ℕ) → Rises (first + 1) ranks → Rises first (if b then first ∷ ranks else ranks)
    both true ranks rise = (omega arith, rise)
    both false ranks rise = rise_down first ranks rise

pub set_below : (count first bits n : ℕ) → first + count ≤ n → are_below n (bits_set count first bits) ≡ true
set_below zero first bits n within = refl
set_below (suc count) first bits n within = both (bits % 2 == 1) (bits_set count (first + 1) (bits / 2)) (set_below count (first + 1) (bits / 2) n (omega arith))
  where
    both : (b : Bool) (ranks : List ℕ) → are_below n ranks ≡ true → are_below n (if b then first ∷ ranks else ranks) ≡ true
    both true ranks below = rw (lt-ltb first n (omega arith), below) refl
    both false ranks below = below

pub bits_of_set : (count m first bits : ℕ) → count ≤ m → bits < 2 ^ count → bits_from m first (bits_set count first bits) ≡ bits
bits_of_set zero m first bits few small = bits_none m first 0 [] refl (omega arith) ∙ (let z : 0 ≡ bits = omega arith in z)
bits_of_set (suc count) zero first bits few small = absurd (omega arith)
bits_of_set (suc count) (suc m) first bits few small =
    let small' : bits < 2 ^ count * 2 = rw (← pow-suc 2 count) small in
    let half : bits / 2 < 2 ^ count = omega arith in
    let ih = bits_of_set count m (first + 1) (bits / 2) (omega arith) half in
    elim (cases_Bool (bits % 2 == 1)) [
      | inl odd ↦
          let rest : bits % 2 ≡ 1 = eqb-true _ _ odd in
          let ranks = bits_set count (first + 1) (bits / 2) in
          rw odd
          (ap (λ b. bit b + 2 * bits_from m (first + 1) (first ∷ ranks)) (member_first first ranks)
          ∙ ap (λ k. 1 + 2 * k) (bits_skip m (first + 1) first ranks (omega arith) ∙ ih) ∙ (let z : 1 + 2 * (bits / 2) ≡ bits = omega arith in z))
      | inr even ↦
          let apart : bits % 2 ≢ 1 = λ is. let yes : (bits % 2 == 1) ≡ true = eq-eqb (bits % 2) 1 is in absurd cc in
          let ranks = bits_set count (first + 1) (bits / 2) in
          rw even
          (ap (λ b. bit b + 2 * bits_from m (first + 1) ranks) (not_member first (first + 1) ranks (set_rises count (first + 1) (bits / 2)) (omega arith))
          ∙ ap (λ k. 0 + 2 * k) ih ∙ (let z : 0 + 2 * (bits / 2) ≡ bits = omega arith in z))
    ]

pub set_some : (count first bits : ℕ) → bits < 2 ^ count → 0 < bits → 0 < length (bits_set count first bits)
set_some zero first bits small some' = absurd (omega arith)
set_some (suc count) first bits small some' =
    let small' : bits < 2 ^ count * 2 = rw (← pow-suc 2 count) small in
    let half : bits / 2 < 2 ^ count = omega arith in
    elim (cases_Bool (bits % 2 == 1)) [
      | inl odd ↦ rw odd (omega arith)
      | inr even ↦
          let apart : bits % 2 ≢ 1 = λ is. let yes : (bits % 2 == 1) ≡ true = eq-eqb (bits % 2) 1 is in absurd cc in
          rw even (set_some count (first + 1) (bits / 2) half (omega arith))
    ]
