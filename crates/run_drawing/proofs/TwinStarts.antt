-- Twin starts and Enters: the same number in the same rank's view.
use Rattle.std.proofs.Common.{◌≡◌, ◌+◌, ◌==◌, ◌&&◌, ◌++◌, ◌∷◌, [], ℕ, zero, suc, Bool, List, Some, true, false, if◌then◌else◌, inl, inr, refl, ap, sym, ◌∙◌, arith, length, slice_get, subst}
use Rattle.mpi_call.specs.declared.call.Call.{Call}
use Rattle.mpi_call.specs.declared.reply.Reply.{Reply}
use Rattle.run_model.specs.declared.event.Event.{Event}
use Rattle.run_model.specs.Communicators.{count_on, is_enter_of, is_on}
use Rattle.run_model.specs.Pairs.{Name, name_at}
use Rattle.run_model.specs.Views.{View, is_start, start_at, starts_of, view_of}
use Rattle.run_model.proofs.StartLemmas.{slice_get-below}
use Rattle.run_model.proofs.Views.{test_cases}
use Rattle.causes.specs.Positions.{is_event_of, is_start_of, positions, start_position}
use Rattle.causes.proofs.Deciding.{below_some}
use Rattle.causes.proofs.PositionLemmas.{in-placed}
use Rattle.msg_races.proofs.StartNames.{AreNumbered, start_of_name, starts_numbered}
use Rattle.run_drawing.proofs.Alike.{AreAlike, IsAlike}
use Rattle.run_drawing.proofs.Twins.{AgreeOn, HaveOneFuture, IsTwin, agree_fronts, in_get, own_twins}

-- of positions those at which a view's event passes a test
abbrev pub chosen : (Call × Reply → Bool) → View → List ℕ → List ℕ
chosen passes [] places = []
chosen passes (seen ∷ view) [] = []
chosen passes (seen ∷ view) (p ∷ places) = if passes seen then p ∷ chosen passes view places else chosen passes view places

-- a test of a rank's events that reads the call and the reply
abbrev pub IsTestOf : (Event → Bool) → (Call × Reply → Bool) → ℕ → Type 0
IsTestOf test passes rank = (event : Event) → test event ≡ (passes (event.call, event.reply) && (event.rank == rank))

pub positions_chosen : (test : Event → Bool) (passes : Call × Reply → Bool) (rank at : ℕ) (events : List Event) → IsTestOf test passes rank
    → positions test at events ≡ chosen passes (view_of events rank) (positions (is_event_of rank) at events)
positions_chosen test passes rank at [] is = refl
positions_chosen test passes rank at (x ∷ xs) is =
    let rest = positions_chosen test passes rank (at + 1) xs is in
    elim (test_cases (x.rank == rank)) [
      | inl own ↦ elim (test_cases (passes (x.call, x.reply))) [
        | inl p ↦ (let t : test x ≡ true = is x ∙ rw (p, own) refl in rw (t, own, p) (ap (λ l. at ∷ l) rest))
        | inr p ↦ (let t : test x ≡ false = is x ∙ rw p refl in rw (t, own, p) rest)
      ]
      | inr own ↦ (let t : test x ≡ false = is x ∙ (ap (λ b. passes (x.call, x.reply) && b) own ∙ and_no (passes (x.call, x.reply))) in rw (t, own) rest)
    ]
  where
    and_no : (b : Bool) → (b && false) ≡ false
    and_no true = refl
    and_no false = refl

-- where two views agree, the chosen ones have the same numbers
record IsChosen (places places' : List ℕ) (p q : ℕ) : Type 0 where
  number : ℕ
  first : slice_get places number ≡ Some p
  second : slice_get places' number ≡ Some q

later_chosen : (x y : ℕ) (places places' : List ℕ) (p q : ℕ) → IsChosen places places' p q → IsChosen (x ∷ places) (y ∷ places') p q
later_chosen x y places places' p q is = record { number = suc is.number; first = is.first; second = is.second }

same_chosen : (passes : Call × Reply → Bool) (one other : View) (places places' : List ℕ) (k p q : ℕ) → AgreeOn one other → slice_get (chosen passes one places) k ≡ Some p
    → slice_get (chosen passes other places') k ≡ Some q → IsChosen places places' p q
same_chosen passes [] other places places' k p q agree h h' = absurd (cc)
same_chosen passes (a ∷ one) other [] places' k p q agree h h' = absurd (cc)
same_chosen passes (a ∷ one) [] (x ∷ places) places' k p q agree h h' = absurd (cc)
same_chosen passes (a ∷ one) (b ∷ other) (x ∷ places) [] k p q agree h h' = absurd (cc)
same_chosen passes (a ∷ one) (b ∷ other) (x ∷ places) (y ∷ places') zero p q agree h h' = elim (test_cases (passes a)) [
  | inl t ↦ (
      let u : passes b ≡ true = ap passes (sym agree.0) ∙ t in
      let first : Some x ≡ Some p = rw t at h in
      let second : Some y ≡ Some q = rw u at h' in
      record { number = 0; first = first; second = second })
  | inr t ↦ (
      let u : passes b ≡ false = ap passes (sym agree.0) ∙ t in
      later_chosen x y places places' p q (same_chosen passes one other places places' zero p q agree.1 (rw t at h) (rw u at h')))
]
same_chosen passes (a ∷ one) (b ∷ other) (x ∷ places) (y ∷ places') (suc k) p q agree h h' = elim (test_cases (passes a)) [
  | inl t ↦ (
      let u : passes b ≡ true = ap passes (sym agree.0) ∙ t in
      later_chosen x y places places' p q (same_chosen passes one other places places' k p q agree.1 (rw t at h) (rw u at h')))
  | inr t ↦ (
      let u : passes b ≡ false = ap passes (sym agree.0) ∙ t in
      later_chosen x y places places' p q (same_chosen passes one other places places' (suc k) p q agree.1 (rw t at h) (rw u at h')))
]

-- the positions of one number among those of a rank that pass are twins
pub passing_twins : (test : Event → Bool) (passes : Call × Reply → Bool) (rank : ℕ) (one other : List Event) (k p q : ℕ) → IsTestOf test passes rank
    → AgreeOn (view_of one rank) (view_of other rank) → slice_get (positions test 0 one) k ≡ Some p → slice_get (positions test 0 other) k ≡ Some q → IsTwin one other p q
passing_twins test passes rank one other k p q is agree h h' =
    let P : ℕ → List ℕ → Type 0 = λ x l. slice_get l k ≡ Some x in
    let found = same_chosen passes (view_of one rank) (view_of other rank) (positions (is_event_of rank) 0 one) (positions (is_event_of rank) 0 other) k p q agree
    (subst (P p) (positions_chosen test passes rank 0 one is) h) (subst (P q) (positions_chosen test passes rank 0 other is) h') in
    record { rank = rank; number = found.number; first = found.first; second = found.second }

-- where the rank has seen the same, they are twins one by one
chosen_alike : (passes : Call × Reply → Bool) (Like : ℕ → ℕ → Type 0) (view : View) (places places' : List ℕ) → AreAlike Like places places' → AreAlike Like (chosen passes view places) (chosen passes view places')
chosen_alike passes Like [] places places' are = tt
chosen_alike passes Like (seen ∷ view) [] [] are = tt
chosen_alike passes Like (seen ∷ view) [] (y ∷ places') are = absurd are
chosen_alike passes Like (seen ∷ view) (x ∷ places) [] are = absurd are
chosen_alike passes Like (seen ∷ view) (x ∷ places) (y ∷ places') are = elim (test_cases (passes seen)) [
  | inl t ↦ rw t (are.0, chosen_alike passes Like view places places' are.1)
  | inr t ↦ rw t (chosen_alike passes Like view places places' are.1)
]

pub all_passing : (test : Event → Bool) (passes : Call × Reply → Bool) (rank : ℕ) (one other : List Event) → IsTestOf test passes rank
    → view_of one rank ≡ view_of other rank → AreAlike (IsTwin one other) (positions test 0 one) (positions test 0 other)
all_passing test passes rank one other is same =
    let places : List ℕ = positions (is_event_of rank) 0 one in
    let places' : List ℕ = positions (is_event_of rank) 0 other in
    let alike = chosen_alike passes (IsTwin one other) (view_of one rank) places places' (own_twins one other rank same) in
    let V : View → Type 0 = λ v. AreAlike (IsTwin one other) (chosen passes (view_of one rank) places) (chosen passes v places') in
    let P : List ℕ → Type 0 = λ l. AreAlike (IsTwin one other) l (chosen passes (view_of other rank) places') in
    let Q : List ℕ → Type 0 = λ l. AreAlike (IsTwin one other) (positions test 0 one) l in
    subst Q (sym (positions_chosen test passes rank 0 other is)) (subst P (sym (positions_chosen test passes rank 0 one is)) (subst V same alike))

-- starts and Enters are such
pub start_test : (rank : ℕ) → IsTestOf (is_start_of rank) is_start rank
start_test rank event = refl

abbrev pub is_enter_on : ℕ → Call × Reply → Bool
is_enter_on comm (call, reply) = is_start (call, reply) && is_on comm call

pub enter_test : (rank comm : ℕ) → IsTestOf (is_enter_of rank comm) (is_enter_on comm) rank
enter_test rank comm event = elim (test_cases (is_start (event.call, event.reply))) [
  | inl t ↦ rw t refl
  | inr t ↦ rw t refl
]

-- a start's position has its name
numbered_at : (events : List Event) (rank number k at : ℕ) (places : List ℕ) → AreNumbered events rank number places → slice_get places k ≡ Some at → name_at events at ≡ Some (rank, number + k)
numbered_at events rank number k at [] are h = absurd (cc)
numbered_at events rank number zero at (p ∷ places) are h =
    let here : p ≡ at = cc in
    let sum : number ≡ number + 0 = omega arith in
    let P : ℕ → Type 0 = λ x. name_at events x ≡ Some (rank, number) in
    subst P here are.0 ∙ ap (λ k. Some (rank, k)) sum
numbered_at events rank number (suc k) at (p ∷ places) are h =
    let sum : number + 1 + k ≡ number + suc k = omega arith in
    numbered_at events rank (number + 1) k at places are.1 h ∙ ap (λ k. Some (rank, k)) sum

pub start_named : (events : List Event) (rank number at : ℕ) → start_position events rank number ≡ Some at → name_at events at ≡ Some (rank, number)
start_named events rank number at h =
    let sum : 0 + number ≡ number = omega arith in
    numbered_at events rank 0 number at (positions (is_start_of rank) 0 events) (starts_numbered events rank) h ∙ ap (λ k. Some (rank, k)) sum

-- and what is named stands there
pub named_start : (events : List Event) (rank number at : ℕ) → name_at events at ≡ Some (rank, number) → start_position events rank number ≡ Some at
named_start events rank number at h =
    let is = start_of_name events rank number at h in
    let found = in_get (positions (is_start_of rank) 0 events) at (in-placed (is_start_of rank) events at is.event is.there is.passes) in
    let named = start_named events rank found.0 at found.1 in
    let both : Some (rank, found.0) ≡ Some (rank, number) = sym named ∙ h in
    let pairs : (rank, found.0) ≡ (rank, number) = cc in
    let P : ℕ → Type 0 = λ k. start_position events rank k ≡ Some at in
    subst P (ap (λ (n : Name). n.1) pairs) found.1

pub named_twins : (one other : List Event) (name : Name) (p q : ℕ) → HaveOneFuture one other → name_at one p ≡ Some name → name_at other q ≡ Some name → IsTwin one other p q
named_twins one other name p q agree h h' =
    passing_twins (is_start_of name.0) is_start name.0 one other name.1 p q (start_test name.0) (agree name.0) (named_start one name.0 name.1 p h) (named_start other name.0 name.1 q h')

-- a rank has as many positions of starts as starts, and of Enters as Enters
pub many_starts : (rank from : ℕ) (events : List Event) → length (positions (is_start_of rank) from events) ≡ length (starts_of (view_of events rank))
many_starts rank from [] = refl
many_starts rank from (x ∷ xs) =
    let rest = many_starts rank (from + 1) xs in
    elim (test_cases (x.rank == rank)) [
      | inl own ↦ elim (test_cases (is_start (x.call, x.reply))) [
        | inl s ↦ rw (own, s) (ap suc rest)
        | inr s ↦ rw (own, s) rest
      ]
      | inr own ↦ elim (test_cases (is_start (x.call, x.reply))) [
        | inl s ↦ rw (own, s) rest
        | inr s ↦ rw (own, s) rest
      ]
    ]

pub many_enters : (rank comm from : ℕ) (events : List Event) → length (positions (is_enter_of rank comm) from events) ≡ count_on comm (starts_of (view_of events rank))
many_enters rank comm from [] = refl
many_enters rank comm from (x ∷ xs) =
    let rest = many_enters rank comm (from + 1) xs in
    elim (test_cases (x.rank == rank)) [
      | inl own ↦ elim (test_cases (is_start (x.call, x.reply))) [
        | inl s ↦ elim (test_cases (is_on comm x.call)) [
          | inl on ↦ rw (own, s, on) (ap suc rest)
          | inr on ↦ rw (own, s, on) rest
        ]
        | inr s ↦ rw (own, s) rest
      ]
      | inr own ↦ elim (test_cases (is_start (x.call, x.reply))) [
        | inl s ↦ elim (test_cases (is_on comm x.call)) [
          | inl on ↦ rw (own, s, on) rest
          | inr on ↦ rw (own, s, on) rest
        ]
        | inr s ↦ rw (own, s) rest
      ]
    ]

-- a start has a position
pub start_there : (events : List Event) (rank number : ℕ) (call : Call) → start_at (view_of events rank) number ≡ Some call → (at : ℕ) × (start_position events rank number ≡ Some at)
start_there events rank number call h =
    let low = slice_get-below (starts_of (view_of events rank)) number call h in
    let long = many_starts rank 0 events in
    below_some (positions (is_start_of rank) 0 events) number (omega (arith, low, long))

-- of ranks that have seen the same both or none are there
pub both_or_none : {A B : Type 0} (xs : List A) (ys : List B) (k : ℕ) (Like : A → B → Type 0) → length xs ≡ length ys
    → ((x : A) (y : B) → slice_get xs k ≡ Some x → slice_get ys k ≡ Some y → Like x y) → IsAlike Like (slice_get xs k) (slice_get ys k)
both_or_none [] [] k Like long each = tt
both_or_none [] (y ∷ ys) k Like long each = (let no : 0 ≡ suc (length ys) = long in absurd (omega (arith, no)))
both_or_none (x ∷ xs) [] k Like long each = (let no : suc (length xs) ≡ 0 = long in absurd (omega (arith, no)))
both_or_none (x ∷ xs) (y ∷ ys) zero Like long each = each x y refl refl
both_or_none (x ∷ xs) (y ∷ ys) (suc k) Like long each =
    (let rest : suc (length xs) ≡ suc (length ys) = long in both_or_none xs ys k Like (omega (arith, rest)) each)

pub agree_same : (one other : View) → one ≡ other → AgreeOn one other
agree_same one other same = agree_fronts one other [] [] (ap (λ (v : View). v ++ []) same)

pub start_twins : (one other : List Event) (rank number : ℕ) → view_of one rank ≡ view_of other rank
    → IsAlike (IsTwin one other) (start_position one rank number) (start_position other rank number)
start_twins one other rank number same =
    both_or_none (positions (is_start_of rank) 0 one) (positions (is_start_of rank) 0 other) number (IsTwin one other)
    (many_starts rank 0 one ∙ (ap (λ (v : View). length (starts_of v)) same ∙ sym (many_starts rank 0 other)))
    (λ p q h h'. passing_twins (is_start_of rank) is_start rank one other number p q (start_test rank) (agree_same (view_of one rank) (view_of other rank) same) h h')
