-- Facts about the instances of one communicator.
use Rattle.std.proofs.Common.{◌≡◌, ◌≢◌, ℕ, zero, suc, ◌+◌, ◌-◌, ◌<◌, ◌≤◌, List, [], ◌∷◌, ◌++◌, length, get_or, set, Bool, true, false, ◌||◌, cond, refl, sym, inl, inr, ap, ap₂, ◌∙◌, subst, arith, Option, Some, None, ◌⊎◌}
use Rattle.std.proofs.lemmas.Bool.{cases_Bool, cases_eq, eq-eqb, eqb-true, lt-ltb, ltb-true}
use Rattle.std.proofs.Common.{get_or-set_same, get_or-set_other}
use Rattle.std.proofs.lemmas.List.{get_or_default}
use Rattle.std.proofs.lemmas.List.Folds.{list_any-append}
use Rattle.std.specs.Prelude.{◌==◌, nat_lt}
use Rattle.mpi_call.proofs.NeedsLemmas.{agree-refl, agree-sym}
use Rattle.mpi_call.specs.Calls.{is_enter}
use Rattle.mpi_call.specs.Needs.{agree}
use Rattle.mpi_call.specs.declared.call.Call.{Call}
use Rattle.mpi_call.specs.Lists.{IsIn}
use Rattle.collectives.specs.Entrants.{AllAgree, first_against, has_entered, without_rank}
use Rattle.collectives.specs.Instances.{enters_by, instance_enters, AreOrderly, Gains, AreInstancesKept, Loses}
use Rattle.collectives.specs.declared.entrants.Entrant.{Entrant}

not_less : (a b : ℕ) → b ≤ a → nat_lt a b ≡ false
not_less a b h = elim (cases_Bool (nat_lt a b)) [ inl less ↦ absurd (let below : a < b = ltb-true a b less in omega arith) | inr more ↦ more ]

pub neq-eqb : (a b : ℕ) → a ≢ b → (a == b) ≡ false
neq-eqb a b apart = elim (cases_Bool (a == b)) [ inl h ↦ absurd (apart (eqb-true a b h)) | inr h ↦ h ]

or-true : (a : Bool) → (a || true) ≡ true
or-true true = refl
or-true false = refl

or-false : (a : Bool) → (a || false) ≡ a
or-false true = refl
or-false false = refl

same_less : (a b c d : ℕ) → (a < b → c < d) → (c < d → a < b) → nat_lt a b ≡ nat_lt c d
same_less a b c d to from =
    elim (cases_Bool (nat_lt a b)) [
      | inl less ↦ less ∙ sym (lt-ltb c d (to (ltb-true a b less)))
      | inr more ↦ elim (cases_Bool (nat_lt c d)) [
        | inl less ↦ absurd (let below : nat_lt a b ≡ true = lt-ltb a b (from (ltb-true c d less)) in cc)
        | inr also ↦ more ∙ sym also
      ]
    ]

-- a rank that has entered the first k instances alone has entered k
pub enters_by_is : (instances : List (List Entrant)) (rank k : ℕ) → ((number : ℕ) → has_entered (instance_enters instances number) rank ≡ nat_lt number k) → enters_by instances rank ≡ k
enters_by_is [] rank zero first = refl
enters_by_is [] rank (suc k) first = absurd (let there : nat_lt 0 (suc k) ≡ true = lt-ltb 0 (suc k) (omega arith) in let away : false ≡ nat_lt 0 (suc k) = first 0 in cc)
enters_by_is (entrants ∷ others) rank zero first =
    let away : has_entered entrants rank ≡ false = first 0 ∙ not_less 0 0 (omega arith) in
    let rest : enters_by others rank ≡ 0 = enters_by_is others rank zero (λ number. first (suc number) ∙ same_less (suc number) 0 number 0 (λ h. absurd (omega arith)) (λ h. absurd (omega arith))) in
    rw away rest
enters_by_is (entrants ∷ others) rank (suc k) first =
    let there : has_entered entrants rank ≡ true = first 0 ∙ lt-ltb 0 (suc k) (omega arith) in
    let rest : enters_by others rank ≡ k = enters_by_is others rank k (λ number. first (suc number) ∙ same_less (suc number) (suc k) number k (λ h. omega arith) (λ h. omega arith)) in
    rw there (ap suc rest)

pub count_is : (instances : List (List Entrant)) (counts : List ℕ) (rank : ℕ) → AreInstancesKept instances counts → get_or counts rank 0 ≡ enters_by instances rank
count_is instances counts rank kept = sym (enters_by_is instances rank (get_or counts rank 0) (kept.counted rank))

pub orderly_is : (instances : List (List Entrant)) (counts : List ℕ) (rank : ℕ) → AreInstancesKept instances counts → AreOrderly instances rank
orderly_is instances counts rank kept = record {
  counted = λ number. kept.counted rank number ∙ ap (nat_lt number) (count_is instances counts rank kept);
  agreed = kept.agreed;
}

-- where a count is above 0, its place is there, and so is the instance before
pub counts_within : (counts : List ℕ) (rank : ℕ) → 0 < get_or counts rank 0 → rank < length counts
counts_within [] rank h = absurd (omega arith)
counts_within (count ∷ counts) zero h = omega arith
counts_within (count ∷ counts) (suc rank) h = let deeper : rank < length counts = counts_within counts rank h in omega arith

within_or_empty : (instances : List (List Entrant)) (number rank : ℕ) → has_entered (instance_enters instances number) rank ≡ true → number < length instances
within_or_empty [] number rank h = absurd (cc)
within_or_empty (entrants ∷ others) zero rank h = omega arith
within_or_empty (entrants ∷ others) (suc number) rank h = let deeper : number < length others = within_or_empty others number rank h in omega arith

pub last_within : (instances : List (List Entrant)) (counts : List ℕ) (rank : ℕ) → AreInstancesKept instances counts → 0 < get_or counts rank 0 → get_or counts rank 0 - 1 < length instances
last_within instances counts rank kept some =
    within_or_empty instances (get_or counts rank 0 - 1) rank
    (kept.counted rank (get_or counts rank 0 - 1) ∙ lt-ltb (get_or counts rank 0 - 1) (get_or counts rank 0) (omega arith))

-- the next instance is at most one past the end
pub next_within : (instances : List (List Entrant)) (counts : List ℕ) (rank : ℕ) → AreInstancesKept instances counts → get_or counts rank 0 ≤ length instances
next_within instances counts rank kept =
    elim (cases_eq (get_or counts rank 0) 0) [
      | inl none ↦ omega arith
      | inr some ↦ (let below : get_or counts rank 0 - 1 < length instances = last_within instances counts rank kept (omega arith) in omega arith)
    ]

-- who has entered behind a further Enter, and without a rank's
entered-append : (entrants : List Entrant) (entrant : Entrant) (rank : ℕ) → has_entered (entrants ++ entrant ∷ []) rank ≡ (has_entered entrants rank || (entrant.rank == rank || false))
entered-append entrants entrant rank = list_any-append (λ (e : Entrant). e.rank == rank) entrants (entrant ∷ [])

entered-without : (rank : ℕ) (entrants : List Entrant) (other : ℕ) → has_entered (without_rank rank entrants) other ≡ cond (other == rank) false (has_entered entrants other)
entered-without rank [] other = elim (cases_Bool (other == rank)) [ inl h ↦ rw h refl | inr h ↦ rw h refl ]
entered-without rank (e ∷ others) other =
    elim (cases_Bool (e.rank == rank)) [
      | inl here ↦ rw here (entered-without rank others other ∙ elim (cases_Bool (other == rank)) [
        | inl h ↦ rw h refl
        | inr h ↦ rw h (let apart : (e.rank == other) ≡ false =
            elim (cases_Bool (e.rank == other)) [
              | inl same ↦ absurd (let no : (other == rank) ≡ true = eq-eqb other rank (sym (eqb-true e.rank other same) ∙ eqb-true e.rank rank here) in cc)
              | inr g ↦ g
            ] in rw apart refl)
      ])
      | inr away ↦ rw away (ap (λ b. (e.rank == other) || b) (entered-without rank others other) ∙ elim (cases_Bool (other == rank)) [
        | inl h ↦ rw h (let apart : (e.rank == other) ≡ false =
            elim (cases_Bool (e.rank == other)) [
              | inl same ↦ absurd (let no : (e.rank == rank) ≡ true = eq-eqb e.rank rank (eqb-true e.rank other same ∙ eqb-true other rank h) in cc)
              | inr g ↦ g
            ] in rw apart refl)
        | inr h ↦ rw h refl
      ])
    ]

-- Enters that agree, with one more that agrees with each, and without a rank's
among-append : (entrants : List Entrant) (entrant a : Entrant) → IsIn a (entrants ++ entrant ∷ []) → IsIn a entrants ⊎ (a ≡ entrant)
among-append [] entrant a (inl h) = inr (sym h)
among-append [] entrant a (inr h) = absurd h
among-append (e ∷ others) entrant a (inl h) = inl (inl h)
among-append (e ∷ others) entrant a (inr h) = elim (among-append others entrant a h) [ inl g ↦ inl (inr g) | inr g ↦ inr g ]

among-without : (rank : ℕ) (entrants : List Entrant) (a : Entrant) → IsIn a (without_rank rank entrants) → IsIn a entrants
among-without rank [] a h = h
among-without rank (e ∷ others) a h =
    elim (cases_Bool (e.rank == rank)) [
      | inl here ↦ inr (among-without rank others a (rw here at h))
      | inr away ↦ (let there : (e ≡ a) ⊎ IsIn a (without_rank rank others) = rw away at h in
          elim there [ inl g ↦ inl g | inr g ↦ inr (among-without rank others a g) ])
    ]

agree-without : (rank : ℕ) (entrants : List Entrant) → AllAgree entrants → AllAgree (without_rank rank entrants)
agree-without rank entrants all = record { pairs = λ a b h g. all.pairs a b (among-without rank entrants a h) (among-without rank entrants b g) }

each_agrees : (call : Call) (entrants : List Entrant) → first_against entrants call ≡ None → (a : Entrant) → IsIn a entrants → agree a.call call ≡ true
each_agrees call [] none a h = absurd h
each_agrees call (e ∷ others) none a h =
    elim (cases_Bool (agree e.call call)) [
      | inl agrees ↦ elim h [
        | inl same ↦ ap (λ (x : Entrant). agree x.call call) (sym same) ∙ agrees
        | inr deeper ↦ each_agrees call others (rw agrees at none) a deeper
      ]
      | inr differs ↦ absurd (let some : Some e.rank ≡ None = rw differs at none in cc)
    ]

agree-append : (entrants : List Entrant) (entrant : Entrant) → AllAgree entrants → is_enter entrant.call ≡ true → first_against entrants entrant.call ≡ None → AllAgree (entrants ++ entrant ∷ [])
agree-append entrants entrant all enter none = record {
  pairs = λ a b h g. both a b (among-append entrants entrant a h) (among-append entrants entrant b g);
}
  where
    both : (a b : Entrant) → IsIn a entrants ⊎ (a ≡ entrant) → IsIn b entrants ⊎ (b ≡ entrant) → agree a.call b.call ≡ true
    both a b (inl h) (inl g) = all.pairs a b h g
    both a b (inl h) (inr g) = ap (λ (x : Entrant). agree a.call x.call) g ∙ each_agrees entrant.call entrants none a h
    both a b (inr h) (inl g) = agree-sym a.call b.call ∙ (ap (λ (x : Entrant). agree b.call x.call) h ∙ each_agrees entrant.call entrants none b g)
    both a b (inr h) (inr g) = ap₂ (λ (x y : Entrant). agree x.call y.call) h g ∙ agree-refl entrant.call enter

-- a count that is set
set_count : (counts : List ℕ) (rank other count : ℕ) → rank < length counts → get_or (set counts rank count) other 0 ≡ cond (other == rank) count (get_or counts other 0)
set_count counts rank other count within =
    elim (cases_eq other rank) [
      | inl same ↦ rw (eq-eqb other rank same) (ap (λ r. get_or (set counts rank count) r 0) same ∙ get_or-set_same counts rank count 0 within)
      | inr apart ↦ rw (neq-eqb other rank apart) (get_or-set_other counts rank other count 0 apart)
    ]

-- what is kept after an Enter
entered_after : (old new : List (List Entrant)) (counts more : List ℕ) (instance : ℕ) (entrant : Entrant) → AreInstancesKept old counts → Gains old new instance entrant
    → instance ≡ get_or counts entrant.rank 0 → entrant.rank < length more → ((rank : ℕ) → get_or more rank 0 ≡ get_or counts rank 0)
    → (rank number : ℕ) → has_entered (instance_enters new number) rank ≡ nat_lt number (get_or (set more entrant.rank (instance + 1)) rank 0)
entered_after old new counts more instance entrant kept gains is within same rank number =
    ap (λ (es : List Entrant). has_entered es rank) (gains.at number) ∙ (split (cases_eq number instance) (cases_eq rank entrant.rank) ∙ sym (ap (nat_lt number) count))
  where
    count : get_or (set more entrant.rank (instance + 1)) rank 0 ≡ cond (rank == entrant.rank) (instance + 1) (get_or counts rank 0)
    count = set_count more entrant.rank rank (instance + 1) within ∙ ap (cond (rank == entrant.rank) (instance + 1)) (same rank)

    split : (number ≡ instance) ⊎ (number ≢ instance) → (rank ≡ entrant.rank) ⊎ (rank ≢ entrant.rank)
        → has_entered (cond (number == instance) (instance_enters old number ++ entrant ∷ []) (instance_enters old number)) rank ≡ nat_lt number (cond (rank == entrant.rank) (instance + 1) (get_or counts rank 0))
    split (inl here) (inl mine) =
        rw (eq-eqb number instance here, eq-eqb rank entrant.rank mine)
        (entered-append (instance_enters old number) entrant rank ∙ (ap (λ b. has_entered (instance_enters old number) rank || (b || false)) (eq-eqb entrant.rank rank (sym mine))
        ∙ (or-true (has_entered (instance_enters old number) rank) ∙ sym (lt-ltb number (instance + 1) (omega arith)))))
    split (inl here) (inr other) =
        rw (eq-eqb number instance here, neq-eqb rank entrant.rank other)
        (entered-append (instance_enters old number) entrant rank ∙ (ap (λ b. has_entered (instance_enters old number) rank || (b || false)) (neq-eqb entrant.rank rank (λ h. other (sym h)))
        ∙ (or-false (has_entered (instance_enters old number) rank) ∙ kept.counted rank number)))
    split (inr apart) (inl mine) =
        rw (neq-eqb number instance apart, eq-eqb rank entrant.rank mine)
        (kept.counted rank number ∙ (ap (λ r. nat_lt number (get_or counts r 0)) mine
        ∙ same_less number (get_or counts entrant.rank 0) number (instance + 1) (λ h. omega arith) (λ h. omega arith)))
    split (inr apart) (inr other) = rw (neq-eqb number instance apart, neq-eqb rank entrant.rank other) (kept.counted rank number)

pub kept_after_enter : (old new : List (List Entrant)) (counts more : List ℕ) (instance : ℕ) (entrant : Entrant) → AreInstancesKept old counts → Gains old new instance entrant
    → instance ≡ get_or counts entrant.rank 0 → entrant.rank < length more → ((rank : ℕ) → get_or more rank 0 ≡ get_or counts rank 0)
    → is_enter entrant.call ≡ true → None ≡ first_against (instance_enters old instance) entrant.call
    → AreInstancesKept new (set more entrant.rank (instance + 1))
kept_after_enter old new counts more instance entrant kept gains is within same enter none = record {
  counted = entered_after old new counts more instance entrant kept gains is within same;
  agreed = λ number. subst AllAgree (sym (gains.at number)) (agreed number (cases_eq number instance));
}
  where
    agreed : (number : ℕ) → (number ≡ instance) ⊎ (number ≢ instance) → AllAgree (cond (number == instance) (instance_enters old number ++ entrant ∷ []) (instance_enters old number))
    agreed number (inl here) = rw (eq-eqb number instance here)
        (agree-append (instance_enters old number) entrant (kept.agreed number) enter (ap (λ n. first_against (instance_enters old n) entrant.call) here ∙ sym none))
    agreed number (inr apart) = rw (neq-eqb number instance apart) (kept.agreed number)

-- what a Vec's write at the last instance is
pub loses_is : (old : List (List Entrant)) (last rank : ℕ) (left : List Entrant) → last < length old → left ≡ without_rank rank (instance_enters old last) → Loses old (set old last left) last rank
loses_is old last rank left within is = record { at = λ number. at number (cases_eq number last) }
  where
    at : (number : ℕ) → (number ≡ last) ⊎ (number ≢ last) → instance_enters (set old last left) number ≡ cond (number == last) (without_rank rank (instance_enters old number)) (instance_enters old number)
    at number (inl here) = rw (eq-eqb number last here)
        (ap (instance_enters (set old last left)) here ∙ (get_or-set_same old last left [] within ∙ (is ∙ ap (λ n. without_rank rank (instance_enters old n)) (sym here))))
    at number (inr apart) = rw (neq-eqb number last apart) (get_or-set_other old last number left [] apart)

-- what is kept after a rank has left
pub kept_after_leave : (old new : List (List Entrant)) (counts : List ℕ) (last rank : ℕ) → AreInstancesKept old counts → Loses old new last rank → rank < length counts → last + 1 ≡ get_or counts rank 0
    → AreInstancesKept new (set counts rank last)
kept_after_leave old new counts last rank kept loses within is = record {
  counted = λ other number. ap (λ (es : List Entrant). has_entered es other) (loses.at number)
      ∙ (counted other number (cases_eq number last) (cases_eq other rank) ∙ sym (ap (nat_lt number) (set_count counts rank other last within)));
  agreed = λ number. subst AllAgree (sym (loses.at number)) (agreed number (cases_eq number last));
}
  where
    counted : (other number : ℕ) → (number ≡ last) ⊎ (number ≢ last) → (other ≡ rank) ⊎ (other ≢ rank)
        → has_entered (cond (number == last) (without_rank rank (instance_enters old number)) (instance_enters old number)) other ≡ nat_lt number (cond (other == rank) last (get_or counts other 0))
    counted other number (inl here) (inl mine) =
        rw (eq-eqb number last here) (entered-without rank (instance_enters old number) other ∙ rw (eq-eqb other rank mine) (sym (not_less number last (omega arith))))
    counted other number (inl here) (inr apart) =
        rw (eq-eqb number last here) (entered-without rank (instance_enters old number) other ∙ rw (neq-eqb other rank apart) (kept.counted other number))
    counted other number (inr away) (inl mine) =
        rw (neq-eqb number last away, eq-eqb other rank mine)
        (kept.counted other number ∙ (ap (λ r. nat_lt number (get_or counts r 0)) mine ∙ same_less number (get_or counts rank 0) number last (λ h. omega arith) (λ h. omega arith)))
    counted other number (inr away) (inr apart) = rw (neq-eqb number last away, neq-eqb other rank apart) (kept.counted other number)

    agreed : (number : ℕ) → (number ≡ last) ⊎ (number ≢ last) → AllAgree (cond (number == last) (without_rank rank (instance_enters old number)) (instance_enters old number))
    agreed number (inl here) = rw (eq-eqb number last here) (agree-without rank (instance_enters old number) (kept.agreed number))
    agreed number (inr apart) = rw (neq-eqb number last apart) (kept.agreed number)

-- what `remove` leaves at the last instance
pub left_is : (old : List (List Entrant)) (last rank : ℕ) (found left : List Entrant) → last < length old → found ≡ get_or old last found → left ≡ without_rank rank found → left ≡ without_rank rank (instance_enters old last)
left_is old last rank found left within at is = is ∙ ap (without_rank rank) (at ∙ get_or_default old last found [] within)

-- a rank's count of Enters is its count that is kept
pub count_kept : (instances seen : List (List Entrant)) (counts : List ℕ) (rank count : ℕ) → AreInstancesKept instances counts → instances ≡ seen → count ≡ enters_by seen rank → count ≡ get_or counts rank 0
count_kept instances seen counts rank count kept view is =
    is ∙ sym (count_is instances counts rank kept ∙ ap (λ (all : List (List Entrant)). enters_by all rank) view)

-- the earliest Enter that does not agree, in the words of the instances that were passed
pub against_is : (lists instances seen : List (List Entrant)) (rank : ℕ) (call : Call) (instance : ℕ) (other : Option ℕ) → lists ≡ instances → instances ≡ seen → instance ≡ enters_by seen rank
    → other ≡ first_against (instance_enters lists instance) call → other ≡ first_against (instance_enters seen (enters_by seen rank)) call
against_is lists instances seen rank call instance other is view next against =
    against ∙ ap₂ (λ (all : List (List Entrant)) (n : ℕ). first_against (instance_enters all n) call) (is ∙ view) next

pub loses_at : (old seen new : List (List Entrant)) (last number rank : ℕ) → old ≡ seen → last ≡ number → Loses old new last rank → Loses seen new number rank
loses_at old seen new last number rank view is loses =
    let P : List (List Entrant) → Type 0 = λ all. Loses all new number rank in
    let Q : ℕ → Type 0 = λ n. Loses old new n rank in
    subst P view (subst Q is loses)
