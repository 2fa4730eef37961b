-- The test of the clocks tells which positions are before which.
use Rattle.std.proofs.Common.{◌≡◌, ◌<◌, ◌↔◌, ℕ, List, Bool, Option, Some, None, true, false, inl, inr, refl, arith, nat_lt, slice_get, get_or, subst}
use Rattle.std.proofs.lemmas.Bool.{and_parts, lt-ltb, ltb-true}
use Rattle.run_model.specs.declared.event.Event.{Event}
use Rattle.run_model.proofs.Views.{option_cases}
use Rattle.causes.specs.Before.{IsBefore}
use Rattle.causes.specs.Clocks.{AreClocks, AreNumbers, Observed, TellsBefore, comes_before, is_in_clock, number_of_event}
use Rattle.causes.proofs.Deciding.{above_from, before_from, below_some}
use Rattle.causes.proofs.Paths.{before-less, before-within}

told : (seen : Observed) (t u : ℕ) (clock : List ℕ) (event : Event) → AreClocks seen.ranks seen.events seen.clocks → AreNumbers seen.events seen.numbers
    → slice_get seen.clocks u ≡ Some clock → slice_get seen.events t ≡ Some event → t < u
    → (is_in_clock (slice_get seen.clocks u) (slice_get seen.events t) (get_or seen.numbers t 0) ≡ true) ↔ IsBefore seen.ranks seen.events t u
told seen t u clock event clocks numbers at there less =
    let is = clocks.each u clock at in
    let number : get_or seen.numbers t 0 ≡ number_of_event seen.events event.rank t = numbers.each t event there in
    rw (at, there) (
      λ h. (
          let low = ltb-true (get_or seen.numbers t 0) (get_or clock event.rank 0) h in
          before_from seen.ranks seen.events t u event clock is there less (omega (arith, low, number))),
      λ before. (
          let low = above_from seen.ranks seen.events t u event clock is there before in
          lt-ltb (get_or seen.numbers t 0) (get_or clock event.rank 0) (omega (arith, low, number))),
    )

no_clock : (event : Option Event) (number : ℕ) → is_in_clock None event number ≡ true → ⊥
no_clock (Some event) number h = cc
no_clock None number h = cc

no_event : (clock : Option (List ℕ)) (number : ℕ) → is_in_clock clock None number ≡ true → ⊥
no_event (Some clock) number h = cc
no_event None number h = cc

told_true : (seen : Observed) (t u : ℕ) → AreClocks seen.ranks seen.events seen.clocks → AreNumbers seen.events seen.numbers
    → comes_before seen t u ≡ true → IsBefore seen.ranks seen.events t u
told_true seen t u clocks numbers h =
    let parts = and_parts (nat_lt t u) (is_in_clock (slice_get seen.clocks u) (slice_get seen.events t) (get_or seen.numbers t 0)) h in
    let less = ltb-true t u parts.0 in
    elim (option_cases (slice_get seen.clocks u)) [
      | inl clock ↦ elim (option_cases (slice_get seen.events t)) [
        | inl event ↦ (told seen t u clock.0 event.0 clocks numbers clock.1 event.1 less).0 parts.1
        | inr none ↦ (
            let F : Option Event → Type 0 = λ o. is_in_clock (slice_get seen.clocks u) o (get_or seen.numbers t 0) ≡ true in
            absurd (no_event (slice_get seen.clocks u) (get_or seen.numbers t 0) (subst F none parts.1)))
      ]
      | inr none ↦ (
          let F : Option (List ℕ) → Type 0 = λ o. is_in_clock o (slice_get seen.events t) (get_or seen.numbers t 0) ≡ true in
          absurd (no_clock (slice_get seen.events t) (get_or seen.numbers t 0) (subst F none parts.1)))
    ]

told_before : (seen : Observed) (t u : ℕ) → AreClocks seen.ranks seen.events seen.clocks → AreNumbers seen.events seen.numbers
    → IsBefore seen.ranks seen.events t u → comes_before seen t u ≡ true
told_before seen t u clocks numbers before =
    let less = before-less seen.ranks seen.events t u before in
    let within = before-within seen.ranks seen.events t u before in
    let many = clocks.as_many in
    let clock = below_some seen.clocks u (omega (arith, many, within)) in
    let event = below_some seen.events t (omega (arith, less, within)) in
    let yes : nat_lt t u ≡ true = lt-ltb t u less in
    let rest = (told seen t u clock.0 event.0 clocks numbers clock.1 event.1 less).1 before in
    rw yes rest

pub clocks_tell : (seen : Observed) → AreClocks seen.ranks seen.events seen.clocks → AreNumbers seen.events seen.numbers
    → TellsBefore (comes_before seen) seen.ranks seen.events
clocks_tell seen clocks numbers t u = (told_true seen t u clocks numbers, told_before seen t u clocks numbers)

-- a test with the same meaning is the same test
same_tests : (a b : Bool) (P : Type 0) → (a ≡ true) ↔ P → (b ≡ true) ↔ P → a ≡ b
same_tests true true P first second = refl
same_tests false false P first second = refl
same_tests true false P first second = absurd (let no : false ≡ true = second.1 (first.0 refl) in cc)
same_tests false true P first second = absurd (let no : false ≡ true = first.1 (second.0 refl) in cc)

pub test_is : (seen : Observed) (t u : ℕ) (test : Bool) → AreClocks seen.ranks seen.events seen.clocks → AreNumbers seen.events seen.numbers
    → (test ≡ true) ↔ IsBefore seen.ranks seen.events t u → test ≡ comes_before seen t u
test_is seen t u test clocks numbers is =
    same_tests test (comes_before seen t u) (IsBefore seen.ranks seen.events t u) is (clocks_tell seen clocks numbers t u)
