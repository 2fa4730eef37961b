-- Joins of clocks.
use Rattle.std.proofs.Common.{◌≡◌, ◌≤◌, ◌<◌, ◌-◌, ℕ, List, [], ◌∷◌, Some, None, true, inl, inr, refl, ap, sym, ◌∙◌, arith, drop, take, nat_lt, get_or, length, slice_get, subst}
use Rattle.std.proofs.lemmas.Bool.{cases_lt, ltb-true}
use Rattle.std.proofs.lemmas.List.{take_all}
use Rattle.std.proofs.lemmas.Option.{slice_get-get_or, slice_get_past}
use Rattle.rank_counts.specs.Greater.{AreGreater}
use Rattle.causes.specs.inside.Joins.{HasGreaterClock, IsJoinOfAll}

-- the join with one clock, with none, and with more
pub join_one : (old other new : List ℕ) (clocks : List (List ℕ)) (at : ℕ) → slice_get clocks at ≡ Some other → AreGreater old other new → IsJoinOfAll old clocks (at ∷ []) new
join_one old other new clocks at there greater =
    record {
      as_many = greater.as_many;
      from = λ rank count above.
          let is = greater.each rank in
          elim (cases_lt count (get_or old rank 0)) [
            | inl low ↦ inl low
            | inr high ↦ inr (record { at = at; clock = other; placed = inl refl; there = there; above = omega (arith, is, above, high) })
          ];
      first = λ rank. (let is = greater.each rank in omega (arith, is));
      each = λ k clock among found rank. elim among [
        | inl e ↦ (
            let P : ℕ → Type 0 = λ j. slice_get clocks j ≡ Some clock in
            let some : Some other ≡ Some clock = sym there ∙ subst P (sym e) found in
            let same : other ≡ clock = cc in
            let Q : List ℕ → Type 0 = λ c. get_or c rank 0 ≤ get_or new rank 0 in
            let is = greater.each rank in
            subst Q same (omega (arith, is)))
        | inr never ↦ absurd never
      ];
    }

pub join_none : (old : List ℕ) (clocks : List (List ℕ)) (at : ℕ) → slice_get clocks at ≡ None → IsJoinOfAll old clocks (at ∷ []) old
join_none old clocks at none =
    record {
      as_many = refl;
      from = λ rank count above. inl above;
      first = λ rank. omega arith;
      each = λ k clock among found rank. elim among [
        | inl e ↦ (
            let P : ℕ → Type 0 = λ j. slice_get clocks j ≡ Some clock in
            let some : slice_get clocks at ≡ Some clock = subst P (sym e) found in
            absurd (cc))
        | inr never ↦ absurd never
      ];
    }

pub join_nothing : (old : List ℕ) (clocks : List (List ℕ)) → IsJoinOfAll old clocks [] old
join_nothing old clocks =
    record {
      as_many = refl;
      from = λ rank count above. inl above;
      first = λ rank. omega arith;
      each = λ k clock among found rank. absurd among;
    }

above_first : (clocks : List (List ℕ)) (at : ℕ) (places : List ℕ) (rank count : ℕ) → HasGreaterClock clocks (at ∷ []) rank count → HasGreaterClock clocks (at ∷ places) rank count
above_first clocks at places rank count is =
    record { at = is.at; clock = is.clock; placed = elim is.placed [ inl e ↦ inl e | inr never ↦ absurd never ]; there = is.there; above = is.above }

above_later : (clocks : List (List ℕ)) (at : ℕ) (places : List ℕ) (rank count : ℕ) → HasGreaterClock clocks places rank count → HasGreaterClock clocks (at ∷ places) rank count
above_later clocks at places rank count is =
    record { at = is.at; clock = is.clock; placed = inr is.placed; there = is.there; above = is.above }

pub join_more : (old middle new : List ℕ) (clocks : List (List ℕ)) (at : ℕ) (places : List ℕ) → IsJoinOfAll old clocks (at ∷ []) middle → IsJoinOfAll middle clocks places new → IsJoinOfAll old clocks (at ∷ places) new
join_more old middle new clocks at places first second =
    record {
      as_many = second.as_many ∙ first.as_many;
      from = λ rank count above. elim (second.from rank count above) [
        | inl low ↦ elim (first.from rank count low) [
          | inl own ↦ inl own
          | inr one ↦ inr (above_first clocks at places rank count one)
        ]
        | inr later ↦ inr (above_later clocks at places rank count later)
      ];
      first = λ rank. (let a = first.first rank in let b = second.first rank in omega (arith, a, b));
      each = λ k clock among found rank. elim among [
        | inl e ↦ (let a = first.each k clock (inl e) found rank in let b = second.first rank in omega (arith, a, b))
        | inr later ↦ second.each k clock later found rank
      ];
    }

-- the rest of a list that has a first
pub tail_is : {A : Type 0} (x : A) (xs : List A) → take (length (x ∷ xs) - 1) (drop 1 (x ∷ xs)) ≡ xs
tail_is x xs = (let long : length (x ∷ xs) - 1 ≡ length xs = omega arith in rw long (take_all (length xs) xs (omega arith)))

pub joins_more : (old middle new : List ℕ) (clocks : List (List ℕ)) (rest : List ℕ) → 1 ≤ length rest → IsJoinOfAll old clocks (get_or rest 0 0 ∷ []) middle → IsJoinOfAll middle clocks (take (length rest - 1) (drop 1 rest)) new → IsJoinOfAll old clocks rest new
joins_more old middle new clocks [] long first second = absurd (omega (arith, long))
joins_more old middle new clocks (x ∷ xs) long first second =
    (let P : List ℕ → Type 0 = λ l. IsJoinOfAll middle clocks l new in join_more old middle new clocks x xs first (subst P (tail_is x xs) second))

pub joins_end : (old : List ℕ) (clocks : List (List ℕ)) (rest : List ℕ) → length rest < 1 → IsJoinOfAll old clocks rest old
joins_end old clocks [] short = join_nothing old clocks
joins_end old clocks (x ∷ xs) short = absurd (omega (arith, short))

-- the same, in the words of a look-up
pub join_found : (old other new : List ℕ) (clocks : List (List ℕ)) (at : ℕ) → true ≡ nat_lt at (length clocks) → other ≡ get_or clocks at other → AreGreater old other new → IsJoinOfAll old clocks (at ∷ []) new
join_found old other new clocks at there is greater =
    join_one old other new clocks at (slice_get-get_or clocks at other (ltb-true at (length clocks) (sym there)) ∙ ap Some (sym is)) greater

pub join_past : (old : List ℕ) (clocks : List (List ℕ)) (at : ℕ) → length clocks ≤ at → IsJoinOfAll old clocks (at ∷ []) old
join_past old clocks at past = join_none old clocks at (slice_get_past clocks at past)
