-- Each rank that is stuck waits for something, and there is a cycle, or a rank that waits in vain.
use Rattle.std.proofs.Common.{◌≡◌, ◌≢◌, ◌++◌, ◌<◌, ◌⊎◌, ◌∙◌, ◌∷◌, ◌&&◌, ◌==◌, [], ℕ, List, Option, Some, None, Bool, true, false, not, inl, inr, ap, arith, filter, find, is_some, length, nat_lt, refl, subst, sym}
use Rattle.std.specs.Option.{option_to_list}
use Rattle.std.proofs.lemmas.Bool.{and_parts, eq-eqb, eqb-true, ltb-true, or_cases, or_left, or_parts, or_right}
use Rattle.std.specs.List.{list_all, list_any}
use Rattle.mpi_call.specs.declared.call.Call.{Call}
use Rattle.mpi_call.specs.declared.call.Call.TheVariants.{Abort, End, Enter, Peek, Post, Send, Take, Trap}
use Rattle.mpi_call.specs.declared.call.Halt.TheVariants.{Stuck}
use Rattle.mpi_call.specs.declared.call.TakeMode.{TakeMode}
use Rattle.mpi_call.specs.declared.call.TakeMode.TheVariants.{All, Any, Several, TestAll, TestAny, TestSeveral}
use Rattle.mpi_call.specs.Members.{is_member}
use Rattle.run_model.specs.declared.event.Event.{Event}
use Rattle.run_model.specs.Allowed.{can_go, flags_of, mode_holds, is_prompt}
use Rattle.run_model.specs.Due.{bad_halt, bad_request, due, halted, is_full}
use Rattle.run_model.specs.Lists.{world}
use Rattle.run_model.specs.Program.{AsksInBounds, ends}
use Rattle.run_model.specs.Readiness.{is_ready}
use Rattle.run_model.specs.Run.{IsRun}
use Rattle.run_model.specs.Serial.{call_after}
use Rattle.run_model.specs.Shape.{can_take, is_test}
use Rattle.run_model.specs.Views.{Next, View, moment_at, moment_of, replies_in, start_at, view_of}
use Rattle.run_model.proofs.RunLaws.{IsRun-front, Kept, Lawful, kept_run}
use Rattle.run_model.proofs.TakeShapes.{none_bad}
use Rattle.run_model.proofs.Views.{option_cases, test_cases}
use Rattle.run_model.proofs.MemberLists.{AreMembers-world}
use Rattle.wait_graph.specs.Going.{going, halting, stopped_call}
use Rattle.wait_graph.specs.Graph.{cycle_from, cycles, cycles_in, has_no_hope, hopeless, is_hopeless, is_hopeless_at, is_live, next_at, waited_rank, waits_for}
use Rattle.wait_graph.specs.Laws.{BlockedWait, HasCause, IsDead, IsEndedRun}
use Rattle.wait_graph.specs.declared.wait.Wait.{Wait}
use Rattle.wait_graph.specs.Waits.{awaited_by, wait_at, waits_at, waits_in}
use Rattle.wait_graph.proofs.Cycles.{has_cycle}
use Rattle.wait_graph.proofs.Halting.{halted-going, parts_are, stopped_is, stuck_exactly}

-- 1. a call that cannot go waits for something

waits_some : (n : ℕ) (G : List Event) (me : ℕ) (starts : List ℕ) → list_all (λ k. can_take (view_of G me) k) starts ≡ true
    → list_all (λ x. x) (flags_of (moment_at n G me) starts) ≡ false → waits_in n G me starts ≢ []
waits_some n G me [] made flags = absurd (cc)
waits_some n G me (k ∷ starts) made flags =
    let own : View = view_of G me in
    let parts = and_parts (can_take own k) (list_all (λ k. can_take own k) starts) made in
    elim (option_cases (start_at own k)) [
      | inl call ↦ (
          let F : Option Call → Type 0 = λ o. (is_ready (moment_of n G me own) k o && list_all (λ x. x) (flags_of (moment_of n G me own) starts)) ≡ false in
          let flags_here = subst F call.1 flags in
          let here : waits_in n G me (k ∷ starts) ≡ wait_at n G me k (Some call.0) ++ waits_in n G me starts = ap (λ o. wait_at n G me k o ++ waits_in n G me starts) call.1 in
          elim (test_cases (is_ready (moment_of n G me own) k (Some call.0))) [
            | inl t ↦ (
                let one : wait_at n G me k (Some call.0) ≡ [] = rw t refl in
                let P : List Wait → Type 0 = λ l. l ≢ [] in
                subst P (sym (here ∙ ap (λ l. l ++ waits_in n G me starts) one)) (waits_some n G me starts parts.1 (rw t at flags_here)))
            | inr t ↦ (
                let wait : Wait = record { start = Some k; call = call.0; awaited = awaited_by n G me k call.0 } in
                let one : wait_at n G me k (Some call.0) ≡ wait ∷ [] = rw t refl in
                let P : List Wait → Type 0 = λ l. l ≢ [] in
                subst P (sym (here ∙ ap (λ l. l ++ waits_in n G me starts) one)) (λ e. cc))
          ])
      | inr none ↦ absurd (let no : false ≡ true = rw none at parts.0 in cc)
    ]

not_all : (flags : List Bool) → 0 < length flags → list_any (λ x. x) flags ≡ false → list_all (λ x. x) flags ≡ false
not_all [] some h = absurd (omega (arith, some))
not_all (flag ∷ flags) some h = (let parts = or_parts flag (list_any (λ x. x) flags) h in rw parts.0 refl)

-- the modes' conditions fail only where some start is not ready
held_some : (mode : TakeMode) (flags : List Bool) → 0 < length flags → mode_holds mode flags ≡ false → list_all (λ x. x) flags ≡ false
held_some All flags some h = h
held_some TestAll flags some h = h
held_some Any flags some h = not_all flags some h
held_some Several flags some h = not_all flags some h
held_some TestAny flags some h = not_all flags some h
held_some TestSeveral flags some h = not_all flags some h

length_flags : (n : ℕ) (G : List Event) (me : ℕ) (own : View) (starts : List ℕ) → length (flags_of (moment_of n G me own) starts) ≡ length starts
length_flags n G me own [] = refl
length_flags n G me own (k ∷ starts) = (let rest = length_flags n G me own starts in omega (arith, rest))

not_bad : (me : ℕ) (bad : Option ℕ) → is_some (bad_halt me bad) ≡ false → bad ≡ None
not_bad me None h = refl
not_bad me (Some k) h = absurd (cc)

-- where no halt is due, each listed start was made
starts_made : (n : ℕ) (G : List Event) (me : ℕ) (starts : List ℕ) (mode : TakeMode) → halted G ≡ None → is_some (due n G me (view_of G me) (Take starts mode)) ≡ false
    → list_all (λ k. can_take (view_of G me) k) starts ≡ true
starts_made n G me starts mode none free =
    let own : View = view_of G me in
    elim (test_cases (is_full G)) [
      | inl t ↦ absurd (let no : true ≡ false = rw (none, t) at free in cc)
      | inr t ↦ none_bad own [] starts (not_bad me (bad_request own [] starts) (rw (none, t) at free))
    ]

held_waits : (n : ℕ) (G : List Event) (me : ℕ) (call : Call) → halted G ≡ None → can_go n G me (view_of G me) call ≡ false
    → ((starts : List ℕ) (mode : TakeMode) → call ≡ Take starts mode → 0 < length starts) → waits_at n G me call ≢ []
held_waits n G me (Take starts mode) none h some =
    let own : View = view_of G me in
    let parts = or_parts (is_some (due n G me own (Take starts mode))) (is_prompt n G me own (Take starts mode)) h in
    let held = or_parts (is_test mode) (mode_holds mode (flags_of (moment_of n G me own) starts)) parts.1 in
    let few = some starts mode refl in
    let long = length_flags n G me own starts in
    waits_some n G me starts (starts_made n G me starts mode none parts.0) (held_some mode (flags_of (moment_of n G me own) starts) (omega (arith, few, long)) held.1)
held_waits n G me (Peek comm source tag wait) none h some = λ e. cc
held_waits n G me (Send comm dest tag ints sync) none h some = absurd (let parts = or_parts (is_some (due n G me (view_of G me) (Send comm dest tag ints sync))) true h in let no : true ≡ false = parts.1 in cc)
held_waits n G me (Post comm source tag room) none h some = absurd (let parts = or_parts (is_some (due n G me (view_of G me) (Post comm source tag room))) true h in let no : true ≡ false = parts.1 in cc)
held_waits n G me (Enter comm kind root op count ints) none h some = absurd (let parts = or_parts (is_some (due n G me (view_of G me) (Enter comm kind root op count ints))) true h in let no : true ≡ false = parts.1 in cc)
held_waits n G me (Abort code) none h some = absurd (let parts = or_parts (is_some (due n G me (view_of G me) (Abort code))) true h in let no : true ≡ false = parts.1 in cc)
held_waits n G me (Trap fault) none h some = absurd (let parts = or_parts (is_some (due n G me (view_of G me) (Trap fault))) true h in let no : true ≡ false = parts.1 in cc)
held_waits n G me End none h some = absurd (let parts = or_parts (is_some (due n G me (view_of G me) End)) true h in let no : true ≡ false = parts.1 in cc)

-- 2. what lists have

any_in : {A : Type 0} (p : A → Bool) (xs : List A) → list_any p xs ≡ true → (x : A) × (p x ≡ true)
any_in p [] h = absurd (cc)
any_in p (x ∷ xs) h = elim (or_cases (p x) (list_any p xs) h) [
  | inl t ↦ (x, t)
  | inr t ↦ any_in p xs t
]

find_some : (p : ℕ → Bool) (xs : List ℕ) → list_any p xs ≡ true → (x : ℕ) × (find p xs ≡ Some x) × (p x ≡ true)
find_some p [] h = absurd (cc)
find_some p (x ∷ xs) h = elim (test_cases (p x)) [
  | inl t ↦ (x, rw t refl, t)
  | inr t ↦ (let rest = find_some p xs (rw t at h) in (rest.0, rw t rest.1, rest.2))
]

filter_some : (p : ℕ → Bool) (xs : List ℕ) → list_any p xs ≡ true → filter p xs ≢ []
filter_some p [] h = absurd (cc)
filter_some p (x ∷ xs) h = elim (test_cases (p x)) [
  | inl t ↦ rw t (λ e. cc)
  | inr t ↦ rw t (filter_some p xs (rw t at h))
]

pub any_member : (p : ℕ → Bool) (xs : List ℕ) (x : ℕ) → is_member xs x ≡ true → p x ≡ true → list_any p xs ≡ true
any_member p [] x there h = absurd (cc)
any_member p (y ∷ ys) x there h = elim (or_cases (y == x) (is_member ys x) there) [
  | inl t ↦ or_left (p y) (list_any p ys) (ap p (eqb-true y x t) ∙ h)
  | inr t ↦ or_right (p y) (list_any p ys) (any_member p ys x t h)
]

cycles_some : (next : ℕ → Option ℕ) (n : ℕ) (xs : List ℕ) (home : ℕ) (ranks : List ℕ) → is_member xs home ≡ true → cycle_from next n home ≡ Some ranks → cycles_in next n xs ≢ []
cycles_some next n [] home ranks there found = absurd (cc)
cycles_some next n (x ∷ xs) home ranks there found = elim (option_cases (cycle_from next n x)) [
  | inl one ↦ (let e : option_to_list (cycle_from next n x) ≡ one.0 ∷ [] = ap option_to_list one.1 in rw e (λ no. cc))
  | inr none ↦ elim (or_cases (x == home) (is_member xs home) there) [
    | inl t ↦ (
        let F : ℕ → Type 0 = λ r. cycle_from next n r ≡ None in
        let no : None ≡ Some ranks = sym (subst F (eqb-true x home t) none) ∙ found in
        absurd (cc))
    | inr t ↦ (let e : option_to_list (cycle_from next n x) ≡ [] = ap option_to_list none in rw e (cycles_some next n xs home ranks t found))
  ]
]

-- a rank for whom one waits and that has not ended
some_live : (live : ℕ → Bool) (xs : List ℕ) → list_all (λ rank. not (live rank)) xs ≡ false → (rank : ℕ) × (is_member xs rank ≡ true) × (live rank ≡ true)
some_live live [] h = absurd (cc)
some_live live (x ∷ xs) h = elim (test_cases (live x)) [
  | inl t ↦ (x, or_left (x == x) (is_member xs x) (eq-eqb x x refl), t)
  | inr t ↦ (let rest = some_live live xs (rw t at h) in (rest.0, or_right (x == rest.0) (is_member xs rest.0) rest.1, rest.2))
]

-- 3. the law

module _ (next : Next) (n : ℕ) (lawful : Lawful next) (bounds : AsksInBounds next) (events : List Event) (is : IsEndedRun next n events) (stuck : halted events ≡ Some Stuck) where
  abbrev G : List Event
  G = going events

  front_run : IsRun next n G
  front_run =
      let F : List Event → Type 0 = λ l. IsRun next n l in
      IsRun-front next n G (halting events) (subst F (sym (parts_are events)) is.is_run)

  kept : Kept next n G
  kept = kept_run next n G lawful front_run

  dead : IsDead next n G
  dead = (stuck_exactly next n events is).0 stuck

  pub blocked_wait_at : (rank : ℕ) (call : Call) → rank < n → call_after next n G rank ≡ Some call → waits_at n G rank call ≢ []
  blocked_wait_at rank call below live =
      held_waits n G rank call (halted-going events) (dead.stuck rank call below live)
      (λ starts mode e. (
      let F : Call → Type 0 = λ c. next n rank (replies_in (view_of G rank)) ≡ Some c in
      (bounds n rank (view_of G rank) (Take starts mode) (front_run.some, front_run.few, below) (kept.came rank below) (subst F e live)).0))

  record IsLive (rank : ℕ) : Type 0 where
    below : rank < n
    call : Call
    live : call_after next n G rank ≡ Some call

  -- a rank of the run that has not ended makes a call
  live_call : (rank : ℕ) → is_live n G rank ≡ true → IsLive rank
  live_call rank h =
      let parts = and_parts (nat_lt rank n) (not (list_any ends (view_of G rank))) h in
      let below = ltb-true rank n parts.0 in
      elim (option_cases (call_after next n G rank)) [
        | inl call ↦ record { below = below; call = call.0; live = call.1 }
        | inr none ↦ absurd (
            let ended = (lawful.ends n rank (view_of G rank) (front_run.some, front_run.few, below) (kept.came rank below)).0 none in
            let no : false ≡ true = rw ended at parts.1 in
            cc)
      ]

  stopped_at : (rank : ℕ) (call : Call) → rank < n → call_after next n G rank ≡ Some call → stopped_call events rank ≡ Some call
  stopped_at rank call below live = stopped_is next n events is rank below ∙ live

  first_wait : (waits : List Wait) → waits ≢ [] → (wait : Wait) × (rest : List Wait) × (waits ≡ wait ∷ rest)
  first_wait [] some = absurd (some refl)
  first_wait (wait ∷ rest) some = (wait, rest, refl)

  -- the rank that a live rank waits for next, where it has hope
  goes_on : (rank : ℕ) → IsLive rank → is_hopeless n events rank ≡ false → (other : ℕ) × (waited_rank n events rank ≡ Some other) × IsLive other
  goes_on rank live hope =
      let at = stopped_at rank live.call live.below live.live in
      let waits : List Wait = waits_at n G rank live.call in
      let first = first_wait waits (blocked_wait_at rank live.call live.below live.live) in
      let F : Option Call → Type 0 = λ o. is_hopeless_at n G rank o ≡ false in
      let none : has_no_hope n G waits ≡ false = subst F at hope in
      let P : List Wait → Type 0 = λ l. has_no_hope n G l ≡ false in
      let parts = or_parts (list_all (λ r. not (is_live n G r)) first.0.awaited) (has_no_hope n G first.1) (subst P first.2 none) in
      let some = some_live (is_live n G) first.0.awaited parts.0 in
      let waited : waits_for waits some.0 ≡ true =
      (let Q : List Wait → Type 0 = λ l. waits_for l some.0 ≡ true in
      subst Q (sym first.2) (or_left (is_member first.0.awaited some.0) (waits_for first.1 some.0) some.1)) in
      let low = (live_call some.0 some.2).below in
      let test : ℕ → Bool = λ r. is_live n G r && waits_for waits r in
      let found = find_some test (world n 0) (any_member test (world n 0) some.0 ((AreMembers-world n some.0 low).has_me) (rw (some.2, waited) refl)) in
      let both = and_parts (is_live n G found.0) (waits_for waits found.0) found.2 in
      (found.0, ap (next_at n G rank) at ∙ found.1, live_call found.0 both.0)

  pub has_cause_at : (cycles n events ≢ []) ⊎ (hopeless n events ≢ [])
  has_cause_at = elim (test_cases (list_any (is_hopeless n events) (world n 0))) [
    | inl t ↦ inr (filter_some (is_hopeless n events) (world n 0) t)
    | inr t ↦ (
        let hope : (rank : ℕ) → rank < n → is_hopeless n events rank ≡ false =
        λ rank below. elim (test_cases (is_hopeless n events rank)) [
          | inl u ↦ absurd (let no : true ≡ false = sym (any_member (is_hopeless n events) (world n 0) rank ((AreMembers-world n rank below).has_me) u) ∙ t in cc)
          | inr u ↦ u
        ] in
        let cycle = has_cycle (waited_rank n events) n IsLive (λ rank live. live.below) (λ rank live. goes_on rank live (hope rank live.below))
        dead.rank (record { below = dead.below; call = dead.call; live = dead.live }) in
        inl (cycles_some (waited_rank n events) n (world n 0) cycle.home (cycle.home ∷ cycle.ranks) ((AreMembers-world n cycle.home cycle.below).has_me) cycle.found))
  ]

pub blocked_wait : (next : Next) (n : ℕ) → Lawful next → AsksInBounds next → BlockedWait next n
blocked_wait next n lawful bounds events is stuck rank call below live = blocked_wait_at next n lawful bounds events is stuck rank call below live

pub has_cause : (next : Next) (n : ℕ) → Lawful next → AsksInBounds next → HasCause next n
has_cause next n lawful bounds events is stuck = has_cause_at next n lawful bounds events is stuck
