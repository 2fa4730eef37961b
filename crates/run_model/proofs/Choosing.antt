-- The machine's choice is the earliest unpaired start that the call suits.
use Rattle.std.proofs.Common.{◌≡◌, ◌≤◌, ◌<◌, ◌+◌, ℕ, zero, suc, List, Option, Some, None, Bool, true, false, inl, inr, is_some, length, not, refl, ap, sym, ◌∙◌, subst, arith}
use Rattle.std.proofs.lemmas.Bool.{and_parts, cases_order}
use Rattle.mpi_call.specs.declared.call.Call.{Call}
use Rattle.run_model.specs.declared.event.Event.{Event}
use Rattle.run_model.specs.Choice.{choice, is_open_match, least_passing, suits, suits_some}
use Rattle.run_model.specs.Pairs.{Name, name_at, named, pairs_of, partner_of}
use Rattle.run_model.proofs.Positions.{name_at-below}
use Rattle.run_model.proofs.Views.{option_cases, test_cases}

record IsLeast (test : ℕ → Bool) (from count at : ℕ) : Type 0 where
  passes : test at ≡ true
  above : from ≤ at
  below : at < from + count
  first : (other : ℕ) → from ≤ other → other < at → test other ≡ false

least_is : (test : ℕ → Bool) (from count at : ℕ) → least_passing test from count ≡ Some at → IsLeast test from count at
least_is test from zero at h = absurd (cc)
least_is test from (suc count) at h =
    elim (test_cases (test from)) [
      | inl t ↦
          let found : Some from ≡ Some at = rw t at h in
          let same : from ≡ at = cc in
          let F : ℕ → Type 0 = λ x. test x ≡ true in
          record { passes = subst F same t; above = omega arith; below = omega arith; first = λ other low high. absurd (omega arith) }
      | inr t ↦
          let later = least_is test (from + 1) count at (rw t at h) in
          let above : from + 1 ≤ at = later.above in
          let below : at < from + 1 + count = later.below in
          record {
            passes = later.passes;
            above = omega arith;
            below = omega arith;
            first = λ other low high. elim (cases_order from other) [
              | inl e ↦ (let F : ℕ → Type 0 = λ x. test x ≡ false in subst F e t)
              | inr rest ↦ later.first other (elim rest [ inl less ↦ omega arith | inr more ↦ absurd (omega arith) ]) high
            ];
          }
    ]

least_none : (test : ℕ → Bool) (from count : ℕ) → least_passing test from count ≡ None → (other : ℕ) → from ≤ other → other < from + count → test other ≡ false
least_none test from zero h other low high = absurd (omega arith)
least_none test from (suc count) h other low high =
    elim (test_cases (test from)) [
      | inl t ↦ (let no : Some from ≡ None = rw t at h in absurd (cc))
      | inr t ↦ elim (cases_order from other) [
        | inl e ↦ (let F : ℕ → Type 0 = λ x. test x ≡ false in subst F e t)
        | inr rest ↦ least_none test (from + 1) count (rw t at h) other (elim rest [ inl less ↦ omega arith | inr more ↦ absurd (omega arith) ]) (omega arith)
      ]
    ]

-- an unpaired start at a position that a call of `rank` suits
pub record IsOpenAt (events : List Event) (rank : ℕ) (call : Call) (at : ℕ) : Type 0 where
  pub name : Name
  pub start : Call
  pub there : name_at events at ≡ Some name
  pub made : named events name ≡ Some start
  pub free : partner_of (pairs_of events) name ≡ None
  pub suited : suits rank call name.0 start ≡ true

open_parts : (events : List Event) (rank : ℕ) (call : Call) (at : ℕ) (found : Option Name) → name_at events at ≡ found
    → is_open_match events rank call found ≡ true → IsOpenAt events rank call at
open_parts events rank call at None there h = absurd (cc)
open_parts events rank call at (Some name) there h =
    let parts = and_parts (not (is_some (partner_of (pairs_of events) name))) (suits_some rank call name.0 (named events name)) h in
    elim (option_cases (named events name)) [
      | inl made ↦ elim (option_cases (partner_of (pairs_of events) name)) [
        | inl paired ↦ (let no : false ≡ true = rw paired.1 at parts.0 in absurd (cc))
        | inr free ↦ record { name = name; start = made.0; there = there; made = made.1; free = free; suited = rw made.1 at parts.1 }
      ]
      | inr none ↦ (let no : false ≡ true = rw none at parts.1 in absurd (cc))
    ]

open_from : (events : List Event) (rank : ℕ) (call : Call) (at : ℕ) → IsOpenAt events rank call at → is_open_match events rank call (name_at events at) ≡ true
open_from events rank call at o = rw (o.there, o.free, o.made) o.suited

-- the choice, where there is one
pub record IsChoiceAt (events : List Event) (rank : ℕ) (call : Call) (at : ℕ) : Type 0 where
  pub chosen : IsOpenAt events rank call at
  pub first : (other : ℕ) → IsOpenAt events rank call other → at ≤ other

pub choice_some : (events : List Event) (rank : ℕ) (call : Call) (at : ℕ) → choice events rank call ≡ Some at → IsChoiceAt events rank call at
choice_some events rank call at h =
    let test : ℕ → Bool = λ at. is_open_match events rank call (name_at events at) in
    let l = least_is test 0 (length events) at h in
    record {
      chosen = open_parts events rank call at (name_at events at) refl l.passes;
      first = λ other o. elim (cases_order at other) [
        | inl e ↦ omega arith
        | inr rest ↦ elim rest [
          | inl less ↦ omega arith
          | inr more ↦ (let no : true ≡ false = sym (open_from events rank call other o) ∙ l.first other (omega arith) more in absurd (cc))
        ]
      ];
    }

pub choice_none : (events : List Event) (rank : ℕ) (call : Call) → choice events rank call ≡ None → (at : ℕ) → IsOpenAt events rank call at → ⊥
choice_none events rank call h at o =
    let test : ℕ → Bool = λ at. is_open_match events rank call (name_at events at) in
    let below : at < length events = name_at-below events at o.name o.there in
    let no : true ≡ false = sym (open_from events rank call at o) ∙ least_none test 0 (length events) h at (omega arith) (omega arith) in
    cc

-- and what is such is the choice
pub choice_is : (events : List Event) (rank : ℕ) (call : Call) (at : ℕ) → IsChoiceAt events rank call at → choice events rank call ≡ Some at
choice_is events rank call at c =
    elim (option_cases (choice events rank call)) [
      | inl some ↦
          let other = choice_some events rank call some.0 some.1 in
          let low : at ≤ some.0 = c.first some.0 other.chosen in
          let high : some.0 ≤ at = other.first at c.chosen in
          let same : some.0 ≡ at = omega arith in
          some.1 ∙ ap (λ (x : ℕ). Some x) same
      | inr none ↦ absurd (choice_none events rank call none at c.chosen)
    ]

pub choice_is_none : (events : List Event) (rank : ℕ) (call : Call) → ((at : ℕ) → IsOpenAt events rank call at → ⊥) → choice events rank call ≡ None
choice_is_none events rank call none =
    elim (option_cases (choice events rank call)) [
      | inl some ↦ absurd (none some.0 (choice_some events rank call some.0 some.1).chosen)
      | inr free ↦ free
    ]
