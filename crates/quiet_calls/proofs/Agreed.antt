-- Where no history that was opened is halted by a mismatch, no next Enter of the others is mismatched either.
use Rattle.std.proofs.Common.{◌≡◌, ◌<◌, ◌≤◌, ◌∙◌, ◌++◌, ◌==◌, ◌+◌, ◌∷◌, ℕ, zero, suc, List, [], Some, None, Bool, true, false, if◌then◌else◌, inl, inr, is_some, length, length-append, not, refl, ap, sym, subst, arith}
use Rattle.std.proofs.lemmas.Bool.{and_right, eqb-true, or_left}
use Rattle.mpi_call.specs.declared.call.Call.{Call}
use Rattle.mpi_call.specs.declared.call.Call.TheVariants.{Enter}
use Rattle.mpi_call.specs.declared.call.Halt.TheVariants.{Mismatched}
use Rattle.mpi_call.specs.declared.limits.TheConstants.{MOST_EVENTS, MOST_SIZE}
use Rattle.mpi_call.specs.Calls.{is_enter}
use Rattle.mpi_call.specs.Lists.{IsIn}
use Rattle.run_model.specs.declared.event.Event.{Event}
use Rattle.run_model.specs.Allowed.{is_prompt}
use Rattle.run_model.specs.Chosen.{halt_or}
use Rattle.run_model.specs.Due.{due, halt_at, halted, is_full, is_mismatched, total_size}
use Rattle.run_model.specs.Serial.{call_after}
use Rattle.run_model.specs.Views.{Next, View, moment_at, replies_in, view_of}
use Rattle.run_model.proofs.Views.{test_cases, view_of-other}
use Rattle.picked_runs.specs.declared.turn.Pick.TheVariants.{First}
use Rattle.picked_runs.specs.Picks.{picked_answer, picked_event}
use Rattle.run_states.specs.Futures.{SameFuture}
use Rattle.run_states.specs.Moves.{HasNoPick, IsHalting}
use Rattle.quiet_calls.specs.Quiet.{IsAgreed, Races, is_calm, is_reckoned}
use Rattle.quiet_calls.specs.Closure.{AreClosedQuietly, AreReckonedWith, IsFarBelow, IsOnItsWay, IsQuietCallMet, met_histories}
use Rattle.quiet_calls.proofs.Room.{not_full}
use Rattle.quiet_calls.proofs.Diamond.{IsFirst, nothing_due}
use Rattle.quiet_calls.proofs.GoingFirst.{quiet_first}
use Rattle.quiet_calls.proofs.Sizes.{same_length}
use Rattle.quiet_calls.proofs.Agreeing.{mismatched_alike}
use Rattle.quiet_calls.proofs.Entering.{mismatched_front}
use Rattle.quiet_calls.proofs.Staying.{free_parts}

-- the same of all histories, opened or not
pub record AreAllReckonedWith (next : Next) (n : ℕ) (races : Races) (visited : List (List Event)) : Type 0 where
  pub past : (before : List Event) → IsIn before visited → is_calm races before ≡ true
  pub calls : (before : List Event) (rank : ℕ) (call : Call) → IsIn before visited → rank < n → call_after next n before rank ≡ Some call
      → is_reckoned races rank call ≡ true
  pub agreed : races.partial ≡ false → (before : List Event) (rank : ℕ) (call : Call) → IsIn before visited → rank < n
      → call_after next n before rank ≡ Some call → IsAgreed n before (view_of before rank) call

-- 1. a mismatch is a halt

no_picks : (n : ℕ) (before : List Event) (me : ℕ) (call : Call) → is_enter call ≡ true → HasNoPick n before me call
no_picks n before me (Enter comm kind root op count ints) h =
    let call : Call = Enter comm kind root op count ints in
    let none : Bool = not (is_some (due n before me (view_of before me) call)) in
    record { senders = λ sender. and_right none false refl; indices = λ index. and_right none false refl }
no_picks n before me call h = absurd (cc)

mismatch_due : (n : ℕ) (before : List Event) (me : ℕ) (call : Call) → is_enter call ≡ true → halted before ≡ None → is_full before ≡ false
    → is_mismatched n before (view_of before me) call ≡ true → due n before me (view_of before me) call ≡ Some (Mismatched me)
mismatch_due n before me (Enter comm kind root op count ints) h none full t = rw (none, full, t) refl
mismatch_due n before me call h none full t = absurd (cc)

mismatch_halts : (next : Next) (n : ℕ) (before : List Event) (me : ℕ) (call : Call) → me < n → call_after next n before me ≡ Some call → is_enter call ≡ true
    → due n before me (view_of before me) call ≡ Some (Mismatched me) → IsHalting next (moment_at n before me) call First (Mismatched me)
mismatch_halts next n before me call below asked enters is =
    record {
      below = below;
      asked = asked;
      offered = refl;
      settled = no_picks n before me call enters;
      halts = ap (λ d. halt_or d (picked_answer n before me (view_of before me) call First)) is;
      goes = inl (or_left (is_some (due n before me (view_of before me) call)) (is_prompt n before me (view_of before me) call) (ap is_some is));
    }

half_less : (a most : ℕ) → a + a < most → a < most
half_less a most h = omega (arith, h)

below_full : (events : List Event) → IsFarBelow events → is_full events ≡ false
below_full events below =
    not_full events (record { count = half_less (length events) MOST_EVENTS below.count; size = half_less (total_size events) MOST_SIZE below.size })

free_enter : (n : ℕ) (before : List Event) (me : ℕ) (call : Call) → is_enter call ≡ true → halt_at n before me (view_of before me) call ≡ None
    → is_mismatched n before (view_of before me) call ≡ false
free_enter n before me (Enter comm kind root op count ints) h free =
    elim (test_cases (is_mismatched n before (view_of before me) (Enter comm kind root op count ints))) [
      | inl t ↦ (let no : Some (Mismatched me) ≡ None = sym (ap (λ (x : Bool). if x then Some (Mismatched me) else None) t) ∙ free in absurd (cc))
      | inr f ↦ f
    ]
free_enter n before me call h free = absurd (cc)

-- 2. of the longer histories first

pub none_left : (count bound : ℕ) → count + count < bound → bound ≤ count + 0 → ⊥
none_left count bound less enough = omega (arith, less, enough)

pub one_less : (count other bound k : ℕ) → bound ≤ count + suc k → count < other → bound ≤ other + k
one_less count other bound k enough less = omega (arith, enough, less)

pub at_most : (bound count : ℕ) → bound ≤ count + bound
at_most bound count = omega arith

pub is_longer : (n : ℕ) (one two : List Event) (event : Event) → SameFuture n two (one ++ event ∷ []) → length one < length two
is_longer n one two event same =
    let count : length two ≡ length one + 1 = same_length two (one ++ event ∷ []) same.views ∙ length-append one (event ∷ []) in
    omega (arith, count)

-- no next Enter of a history is mismatched
abbrev AreEntersAgreed : Next → ℕ → List Event → Type 0
AreEntersAgreed next n before = (rank : ℕ) (call : Call) → rank < n → call_after next n before rank ≡ Some call → IsAgreed n before (view_of before rank) call

opened_agreed : (next : Next) (n : ℕ) (races : Races) (opened visited : List (List Event)) → AreReckonedWith next n races opened visited → races.partial ≡ false
    → (one : List Event) → IsOnItsWay next n one → IsIn one opened → AreEntersAgreed next n one
opened_agreed next n races opened visited r whole one way there rank call below asked enters =
    elim (test_cases (is_mismatched n one (view_of one rank) call)) [
      | inl t ↦
          absurd (r.agreed whole one rank call First rank there
          (mismatch_halts next n one rank call below asked enters (mismatch_due n one rank call enters way.free (below_full one way.below) t)))
      | inr f ↦ f
    ]

quiet_agreed : (next : Next) (n : ℕ) (races : Races) (visited : List (List Event)) (one : List Event) (quiet : IsQuietCallMet next n races visited one)
    → AreEntersAgreed next n quiet.met.0 → AreEntersAgreed next n one
quiet_agreed next n races visited one quiet later rank call below asked enters =
    let q : Event = picked_event n one quiet.rank quiet.call First in
    let two : List Event = quiet.met.0 in
    let same : SameFuture n two (one ++ q ∷ []) = quiet.met.2 in
    elim (test_cases (quiet.rank == rank)) [
      | inl t ↦
          let mine : quiet.rank ≡ rank = eqb-true quiet.rank rank t in
          let A : ℕ → Type 0 = λ r. call_after next n one r ≡ Some call in
          let called : Some quiet.call ≡ Some call = sym quiet.quiet.asked ∙ subst A (sym mine) asked in
          let is : quiet.call ≡ call = cc in
          let E : Call → Type 0 = λ c. is_enter c ≡ true in
          let first : IsFirst next n races one quiet.rank quiet.call q = quiet_first next n races one quiet.rank quiet.call quiet.quiet in
          let parts = free_parts n one quiet.rank quiet.call (nothing_due next n races one quiet.rank quiet.call q first) in
          let free : is_mismatched n one (view_of one quiet.rank) quiet.call ≡ false = free_enter n one quiet.rank quiet.call (subst E (sym is) enters) parts.own in
          let R : ℕ → Type 0 = λ r. is_mismatched n one (view_of one r) quiet.call ≡ false in
          let C : Call → Type 0 = λ c. is_mismatched n one (view_of one rank) c ≡ false in
          subst C is (subst R mine free)
      | inr f ↦
          let seen : view_of two rank ≡ view_of one rank = same.views rank ∙ view_of-other one q rank f in
          let asked' : call_after next n two rank ≡ Some call = ap (λ (v : View). next n rank (replies_in v)) seen ∙ asked in
          let agreed : is_mismatched n two (view_of two rank) call ≡ false = later rank call below asked' enters in
          mismatched_front n one (q ∷ []) (view_of one rank) call
          (mismatched_alike n (one ++ q ∷ []) two (view_of one rank) call (λ m. sym (same.views m)) ∙ (ap (λ v. is_mismatched n two v call) (sym seen) ∙ agreed))
    ]

by_room : (next : Next) (n : ℕ) (races : Races) (root : List Event) (IsWanted : List Event → Event → Type 0) (opened visited : List (List Event))
    → AreClosedQuietly next n races root IsWanted (met_histories opened visited) → AreReckonedWith next n races opened visited → races.partial ≡ false
    → (k : ℕ) (one : List Event) → IsIn one visited → MOST_EVENTS ≤ length one + k → AreEntersAgreed next n one
by_room next n races root IsWanted opened visited c r whole zero one there enough = absurd (none_left (length one) MOST_EVENTS (c.runs one there).below.count enough)
by_room next n races root IsWanted opened visited c r whole (suc k) one there enough =
    elim (c.more one there) [
      | inl wide ↦ opened_agreed next n races opened visited r whole one (c.runs one there) wide.0
      | inr quiet ↦
          let q : Event = picked_event n one quiet.rank quiet.call First in
          quiet_agreed next n races visited one quiet
          (by_room next n races root IsWanted opened visited c r whole k quiet.met.0 quiet.met.1
          (one_less (length one) (length quiet.met.0) MOST_EVENTS k enough (is_longer n one quiet.met.0 q quiet.met.2)))
    ]

pub all_reckoned : (next : Next) (n : ℕ) (races : Races) (root : List Event) (IsWanted : List Event → Event → Type 0) (opened visited : List (List Event))
    → AreClosedQuietly next n races root IsWanted (met_histories opened visited) → AreReckonedWith next n races opened visited → AreAllReckonedWith next n races visited
all_reckoned next n races root IsWanted opened visited c r =
    record {
      past = r.past;
      calls = r.calls;
      agreed = λ whole before rank call there below asked.
          by_room next n races root IsWanted opened visited c r whole MOST_EVENTS before there (at_most MOST_EVENTS (length before)) rank call below asked;
    }
