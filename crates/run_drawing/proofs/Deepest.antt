-- The deepest of positions.
use Rattle.std.proofs.Common.{◌≡◌, ◌≤◌, ◌<◌, ◌⊎◌, ◌-◌, ◌++◌, ◌∷◌, [], ℕ, List, Option, Some, None, true, false, inl, inr, refl, ap, sym, ◌∙◌, arith, drop, get_or, length, nat_lt, subst, take, take_all}
use Rattle.std.specs.Option.{option_to_list}
use Rattle.std.proofs.lemmas.Bool.{le-ltb, lt-ltb, ltb-true, ltb-false}
use Rattle.mpi_call.specs.Lists.{IsIn}
use Rattle.run_model.proofs.Views.{test_cases}
use Rattle.run_drawing.specs.Links.{deeper, deepest, with_depth}

-- of three positions
three : (depths : List ℕ) (x y z : ℕ)
    → deeper depths (deeper depths (Some x) (Some y)) (Some z) ≡ deeper depths (Some x) (deeper depths (Some y) (Some z))
three depths x y z =
    let dx : ℕ = get_or depths x 0 in
    let dy : ℕ = get_or depths y 0 in
    let dz : ℕ = get_or depths z 0 in
    elim (test_cases (nat_lt dx dy)) [
      | inl xy ↦ elim (test_cases (nat_lt dy dz)) [
        | inl yz ↦ (
            let one = ltb-true dx dy xy in
            let other = ltb-true dy dz yz in
            let xz : nat_lt dx dz ≡ true = lt-ltb dx dz (omega (arith, one, other)) in
            rw (xy, yz, xz) refl)
        | inr yz ↦ rw (xy, yz, xy) refl
      ]
      | inr xy ↦ elim (test_cases (nat_lt dy dz)) [
        | inl yz ↦ rw (xy, yz) refl
        | inr yz ↦ (
            let one = ltb-false dx dy xy in
            let other = ltb-false dy dz yz in
            let xz : nat_lt dx dz ≡ false = le-ltb dx dz (omega (arith, one, other)) in
            rw (xy, yz, xz, xy) refl)
      ]
    ]

pub deeper_twice : (depths : List ℕ) (a b c : Option ℕ) → deeper depths (deeper depths a b) c ≡ deeper depths a (deeper depths b c)
deeper_twice depths None b c = refl
deeper_twice depths (Some x) None c = refl
deeper_twice depths (Some x) (Some y) None =
    elim (test_cases (nat_lt (get_or depths x 0) (get_or depths y 0))) [
      | inl h ↦ rw h refl
      | inr h ↦ rw h refl
    ]
deeper_twice depths (Some x) (Some y) (Some z) = three depths x y z

pub deeper_none : (depths : List ℕ) (a : Option ℕ) → deeper depths a None ≡ a
deeper_none depths None = refl
deeper_none depths (Some x) = refl

-- what comes out went in
pub one_of_two : (depths : List ℕ) (a b : Option ℕ) (p : ℕ) → deeper depths a b ≡ Some p → (a ≡ Some p) ⊎ (b ≡ Some p)
one_of_two depths None b p h = inr h
one_of_two depths (Some x) None p h = inl h
one_of_two depths (Some x) (Some y) p h =
    elim (test_cases (nat_lt (get_or depths x 0) (get_or depths y 0))) [
      | inl t ↦ inr (rw t at h)
      | inr t ↦ inl (rw t at h)
    ]

-- it is at least as deep
pub record IsDeeper (depths : List ℕ) (q : ℕ) (found : Option ℕ) : Type 0 where
  pub at : ℕ
  pub is : found ≡ Some at
  pub deep : get_or depths q 0 ≤ get_or depths at 0

pub first_is_low : (depths : List ℕ) (q : ℕ) (b : Option ℕ) → IsDeeper depths q (deeper depths (Some q) b)
first_is_low depths q None = record { at = q; is = refl; deep = omega arith }
first_is_low depths q (Some y) =
    elim (test_cases (nat_lt (get_or depths q 0) (get_or depths y 0))) [
      | inl t ↦ (
          let less = ltb-true (get_or depths q 0) (get_or depths y 0) t in
          record { at = y; is = rw t refl; deep = omega (arith, less) })
      | inr t ↦ record { at = q; is = rw t refl; deep = omega arith }
    ]

pub second_is_low : (depths : List ℕ) (q : ℕ) (a b : Option ℕ) → IsDeeper depths q b → IsDeeper depths q (deeper depths a b)
second_is_low depths q None b low = low
second_is_low depths q (Some x) b low =
    let deep = low.deep in
    elim (test_cases (nat_lt (get_or depths x 0) (get_or depths low.at 0))) [
      | inl t ↦ record { at = low.at; is = rw (low.is, t) refl; deep = deep }
      | inr t ↦ (
          let least = ltb-false (get_or depths x 0) (get_or depths low.at 0) t in
          record { at = x; is = rw (low.is, t) refl; deep = omega (arith, deep, least) })
    ]

pub there_known : (depths : List ℕ) (q : ℕ) → q < length depths → with_depth depths q ≡ Some q
there_known depths q low = (let t : nat_lt q (length depths) ≡ true = lt-ltb q (length depths) low in rw t refl)

known_there : (depths : List ℕ) (q p : ℕ) → with_depth depths q ≡ Some p → (q ≡ p) × (p < length depths)
known_there depths q p h =
    elim (test_cases (nat_lt q (length depths))) [
      | inl t ↦ (
          let e : Some q ≡ Some p = rw t at h in
          let same : q ≡ p = cc in
          let low = ltb-true q (length depths) t in
          (same, omega (arith, same, low)))
      | inr t ↦ (let e : None ≡ Some p = rw t at h in absurd (cc))
    ]

-- the deepest is one of the positions, and has a depth
pub deepest_among : (depths places : List ℕ) (p : ℕ) → deepest depths places ≡ Some p → IsIn p places × (p < length depths)
deepest_among depths [] p h = absurd (cc)
deepest_among depths (q ∷ places) p h = elim (one_of_two depths (with_depth depths q) (deepest depths places) p h) [
  | inl first ↦ (let known = known_there depths q p first in (inl known.0, known.1))
  | inr later ↦ (let rest = deepest_among depths places p later in (inr rest.0, rest.1))
]

-- and none is deeper
pub deepest_low : (depths places : List ℕ) (q : ℕ) → IsIn q places → q < length depths → IsDeeper depths q (deepest depths places)
deepest_low depths [] q among low = absurd among
deepest_low depths (x ∷ places) q among low = elim among [
  | inl e ↦ (
      let known : with_depth depths x ≡ Some q = ap (with_depth depths) e ∙ there_known depths q low in
      let P : Option ℕ → Type 0 = λ o. IsDeeper depths q (deeper depths o (deepest depths places)) in
      subst P (sym known) (first_is_low depths q (deepest depths places)))
  | inr later ↦ second_is_low depths q (with_depth depths x) (deepest depths places) (deepest_low depths places q later low)
]

-- one more position in front
pub deepest_front : (depths : List ℕ) (first : Option ℕ) (places : List ℕ) → ((p : ℕ) → first ≡ Some p → p < length depths)
    → deeper depths first (deepest depths places) ≡ deepest depths (option_to_list first ++ places)
deepest_front depths None places known = refl
deepest_front depths (Some p) places known = ap (λ o. deeper depths o (deepest depths places)) (sym (there_known depths p (known p refl)))

-- the loop over positions: one more, and the end
pub deepest_more : (depths rest places : List ℕ) (found known new : Option ℕ) (d : ℕ) → 1 ≤ length rest → deeper depths found (deepest depths rest) ≡ deepest depths places
    → known ≡ with_depth depths (get_or rest 0 d) → new ≡ deeper depths found known
    → deeper depths new (deepest depths (take (length rest - 1) (drop 1 rest))) ≡ deepest depths places
deepest_more depths [] places found known new d some kept is next = absurd (omega (arith, some))
deepest_more depths (x ∷ rest) places found known new d some kept is next =
    let tail : take (length (x ∷ rest) - 1) rest ≡ rest = take_all (length (x ∷ rest) - 1) rest (omega arith) in
    ap (λ l. deeper depths new (deepest depths l)) tail
    ∙ ap (λ o. deeper depths o (deepest depths rest)) (next ∙ ap (deeper depths found) is)
    ∙ deeper_twice depths found (with_depth depths x) (deepest depths rest)
    ∙ kept

pub deepest_end : (depths rest places : List ℕ) (found : Option ℕ) → length rest < 1 → deeper depths found (deepest depths rest) ≡ deepest depths places → found ≡ deepest depths places
deepest_end depths [] places found none kept = sym (deeper_none depths found) ∙ kept
deepest_end depths (x ∷ rest) places found none kept = absurd (omega (arith, none))
