-- A run that is halted as stuck, before and from its first stop on.
use Rattle.std.proofs.Common.{if◌then◌else◌, ◌≡◌, ◌<◌, ◌⊎◌, ◌∙◌, ◌++◌, ◌∷◌, ◌==◌, [], ℕ, List, Option, Some, None, Bool, true, false, not, inl, inr, ap, length, refl, slice_get, subst, sym, append-nil, ◌&&◌, ◌+◌, zero, suc, arith, map, is_some, nat_le, nat_lt, slice_index}
use Rattle.std.proofs.lemmas.Bool.{and_parts, ltb-true, or_left, or_right}
use Rattle.std.specs.List.{list_all, list_any}
use Rattle.mpi_call.specs.declared.call.Call.{Call}
use Rattle.mpi_call.specs.declared.call.Call.TheVariants.{Abort, End, Enter, Peek, Post, Send, Take, Trap}
use Rattle.mpi_call.specs.declared.call.Halt.{Halt}
use Rattle.mpi_call.specs.declared.call.Halt.TheVariants.{BadRequest, Limit, Mismatched, Stuck, Truncated}
use Rattle.mpi_call.specs.declared.call.Source.{Source}
use Rattle.mpi_call.specs.declared.call.Tag.{Tag}
use Rattle.mpi_call.specs.declared.call.TakeMode.{TakeMode}
use Rattle.mpi_call.specs.declared.call.TakeMode.TheVariants.{All, Any as AnyOne, Several, TestAll, TestAny, TestSeveral}
use Rattle.mpi_call.specs.declared.reply.Item.{Item}
use Rattle.mpi_call.specs.declared.reply.Reply.{Reply}
use Rattle.mpi_call.specs.declared.reply.Reply.TheVariants.{Done, NotYet, Peeked, Stopped, Took}
use Rattle.run_model.specs.declared.event.Event.{Event}
use Rattle.run_model.specs.Allowed.{IsAllowed, IsAllowedBy, IsAnswer, IsHeld, IsPeekAnswer, IsTakeAnswer, first_long, flags_of, has_open, mode_holds, taken_reply, probe_of, IsDeadlock, IsLate, IsPartReply, can_go, is_prompt}
use Rattle.run_model.specs.Due.{bad_request, due, halt_at, halt_of_reply, halted, is_full, is_mismatched, or_else, stops}
use Rattle.run_model.specs.Lists.{Along}
use Rattle.run_model.specs.Readiness.{is_ready}
use Rattle.run_model.specs.Run.{IsEvent, IsRun}
use Rattle.run_model.specs.Serial.{call_after}
use Rattle.run_model.specs.Shape.{is_test, rise_within}
use Rattle.run_model.specs.Views.{Next, View, moment_of, replies_in, view_of, start_at}
use Rattle.run_model.proofs.Along.{Along-back}
use Rattle.run_model.proofs.ChosenLaws.{allowed_stuck}
use Rattle.run_model.proofs.Places.{place}
use Rattle.run_model.proofs.RunLaws.{IsRun-event}
use Rattle.run_model.proofs.Views.{option_cases, test_cases, view_of-append}
use Rattle.wait_graph.specs.Going.{first_call, going, halting, stopped_call}
use Rattle.wait_graph.specs.Laws.{BlockedExactly, IsDead, IsEndedRun, StuckExactly}

-- 1. the two parts

pub parts_are : (events : List Event) → going events ++ halting events ≡ events
parts_are [] = refl
parts_are (event ∷ events) = elim (test_cases (stops event.reply)) [
  | inl t ↦ rw t refl
  | inr t ↦ rw t (ap (λ l. event ∷ l) (parts_are events))
]

unstopped : (reply : Reply) → stops reply ≡ false → halt_of_reply reply ≡ None
unstopped (Stopped halt) h = absurd (cc)
unstopped Done h = refl
unstopped NotYet h = refl
unstopped (Took items) h = refl
unstopped (Peeked source start tag count) h = refl

stopped_by : (reply : Reply) → stops reply ≡ true → (halt : Halt) × (reply ≡ Stopped halt)
stopped_by (Stopped halt) h = (halt, refl)
stopped_by Done h = absurd (cc)
stopped_by NotYet h = absurd (cc)
stopped_by (Took items) h = absurd (cc)
stopped_by (Peeked source start tag count) h = absurd (cc)

pub halted-going : (events : List Event) → halted (going events) ≡ None
halted-going [] = refl
halted-going (event ∷ events) = elim (test_cases (stops event.reply)) [
  | inl t ↦ rw t refl
  | inr t ↦ rw (t, unstopped event.reply t) (halted-going events)
]

-- the first event that stops a rank
record IsFirstStop (events : List Event) : Type 0 where
  event : Event
  rest : List Event
  there : halting events ≡ event ∷ rest
  halt : Halt
  by : event.reply ≡ Stopped halt

first_stop : (events : List Event) → IsFirstStop events ⊎ (halting events ≡ [])
first_stop [] = inr refl
first_stop (event ∷ events) = elim (test_cases (stops event.reply)) [
  | inl t ↦ (let by = stopped_by event.reply t in inl (record { event = event; rest = events; there = rw t refl; halt = by.0; by = by.1 }))
  | inr t ↦ elim (first_stop events) [
    | inl is ↦ inl (record { event = is.event; rest = is.rest; there = rw t is.there; halt = is.halt; by = is.by })
    | inr none ↦ inr (rw t none)
  ]
]

or_else-assoc : (a b c : Option Halt) → or_else a (or_else b c) ≡ or_else (or_else a b) c
or_else-assoc None b c = refl
or_else-assoc (Some halt) b c = refl

halted-append : (xs ys : List Event) → halted (xs ++ ys) ≡ or_else (halted xs) (halted ys)
halted-append [] ys = refl
halted-append (x ∷ xs) ys = ap (or_else (halt_of_reply x.reply)) (halted-append xs ys) ∙ or_else-assoc (halt_of_reply x.reply) (halted xs) (halted ys)

halted-whole : (events : List Event) → halted events ≡ halted (halting events)
halted-whole events = ap halted (sym (parts_are events)) ∙ halted-append (going events) (halting events) ∙ ap (λ h. or_else h (halted (halting events))) (halted-going events)

-- a run is halted by its first stop
halted_first : (events : List Event) (is : IsFirstStop events) → halted events ≡ Some is.halt
halted_first events is = halted-whole events ∙ ap halted is.there ∙ ap (λ r. or_else (halt_of_reply r) (halted is.rest)) is.by

-- 2. who is told that no rank can go on

held_gives : (test : Bool) (stuck : Type 0) (reply : Reply) → IsHeld test stuck reply → reply ≡ Stopped Stuck → stuck
held_gives true stuck reply is h = (let no : NotYet ≡ Stopped Stuck = sym is ∙ h in absurd (cc))
held_gives false stuck reply is h = is.0

not_taken : (long : Option ℕ) (items : List Item) (me : ℕ) (reply : Reply) → reply ≡ taken_reply me long items → reply ≡ Stopped Stuck → ⊥
not_taken None items me reply is h = (let no : Took items ≡ Stopped Stuck = sym is ∙ h in cc)
not_taken (Some k) items me reply is h = (let no : Stopped (Truncated me k) ≡ Stopped Stuck = sym is ∙ h in cc)

take_gives : (condition : Bool) (stuck : Type 0) (n : ℕ) (before : List Event) (me : ℕ) (own : View) (starts : List ℕ) (mode : TakeMode) (reply : Reply)
    → IsTakeAnswer condition stuck (moment_of n before me own) starts mode reply → reply ≡ Stopped Stuck → stuck
take_gives true stuck n before me own starts mode reply is h = absurd (not_taken (first_long own starts is.items) is.items me reply is.reply_is h)
take_gives false stuck n before me own starts mode reply is h = held_gives (is_test mode) stuck reply is h

peek_gives : (found : Bool) (stuck : Type 0) (before : List Event) (me comm : ℕ) (source : Source) (tag : Tag) (wait : Bool) (reply : Reply)
    → IsPeekAnswer found stuck before (probe_of me comm source tag) wait reply → reply ≡ Stopped Stuck → stuck
peek_gives true stuck before me comm source tag wait reply is h = (let no : Peeked is.send.0 is.send.1 is.t (length is.ints) ≡ Stopped Stuck = sym is.reply_is ∙ h in absurd (cc))
peek_gives false stuck before me comm source tag wait reply is h = held_gives (not wait) stuck reply is h

done_gives : (stuck : Type 0) (reply : Reply) → reply ≡ Done → reply ≡ Stopped Stuck → stuck
done_gives stuck reply is h = (let no : Done ≡ Stopped Stuck = sym is ∙ h in absurd (cc))

answer_gives : (stuck : Type 0) (n : ℕ) (before : List Event) (me : ℕ) (own : View) (call : Call) (reply : Reply)
    → IsAnswer stuck (moment_of n before me own) call reply → reply ≡ Stopped Stuck → stuck
answer_gives stuck n before me own (Take starts mode) reply is h = take_gives (mode_holds mode (flags_of (moment_of n before me own) starts)) stuck n before me own starts mode reply is h
answer_gives stuck n before me own (Peek comm source tag wait) reply is h = peek_gives (has_open n before me comm source tag) stuck before me comm source tag wait reply is h
answer_gives stuck n before me own (Send comm dest tag ints sync) reply is h = done_gives stuck reply is h
answer_gives stuck n before me own (Post comm source tag room) reply is h = done_gives stuck reply is h
answer_gives stuck n before me own (Enter comm kind root op count ints) reply is h = done_gives stuck reply is h
answer_gives stuck n before me own (Abort code) reply is h = done_gives stuck reply is h
answer_gives stuck n before me own (Trap fault) reply is h = done_gives stuck reply is h
answer_gives stuck n before me own End reply is h = done_gives stuck reply is h

-- no call brings that halt by itself
brings_none : (n : ℕ) (before : List Event) (me : ℕ) (own : View) (call : Call) → halt_at n before me own call ≡ Some Stuck → ⊥
brings_none n before me own (Abort code) h = cc
brings_none n before me own (Trap fault) h = cc
brings_none n before me own (Enter comm kind root op count ints) h = elim (test_cases (is_mismatched n before own (Enter comm kind root op count ints))) [
  | inl t ↦ (let no : Some (Mismatched me) ≡ Some Stuck = rw t at h in cc)
  | inr t ↦ (let no : None ≡ Some Stuck = rw t at h in cc)
]
brings_none n before me own (Take starts mode) h = elim (option_cases (bad_request own [] starts)) [
  | inl bad ↦ (let no : Some (BadRequest me bad.0) ≡ Some Stuck = rw bad.1 at h in cc)
  | inr good ↦ (let no : None ≡ Some Stuck = rw good at h in cc)
]
brings_none n before me own (Send comm dest tag ints sync) h = cc
brings_none n before me own (Post comm source tag room) h = cc
brings_none n before me own (Peek comm source tag wait) h = cc
brings_none n before me own End h = cc

due_not_stuck : (n : ℕ) (before : List Event) (me : ℕ) (own : View) (call : Call) → halted before ≡ None → due n before me own call ≡ Some Stuck → ⊥
due_not_stuck n before me own call none h = elim (test_cases (is_full before)) [
  | inl t ↦ (let no : Some Limit ≡ Some Stuck = rw (none, t) at h in cc)
  | inr t ↦ brings_none n before me own call (rw (none, t) at h)
]

-- nor is it told late
late_not_stuck : (n : ℕ) (before : List Event) (me : ℕ) (own : View) (call : Call) (reply : Reply)
    → IsLate (moment_of n before me own) call reply → reply ≡ Stopped Stuck → ⊥
late_not_stuck n before me own (Take starts mode) reply is h = elim is [
  | inl not_yet ↦ (let no : NotYet ≡ Stopped Stuck = sym not_yet.2 ∙ h in cc)
  | inr part ↦ not_taken (first_long own starts part.items) part.items me reply part.reply_is h
]
late_not_stuck n before me own (Peek comm source tag wait) reply is h = (let no : NotYet ≡ Stopped Stuck = sym is.1 ∙ h in cc)
late_not_stuck n before me own (Send comm dest tag ints sync) reply is h = is
late_not_stuck n before me own (Post comm source tag room) reply is h = is
late_not_stuck n before me own (Enter comm kind root op count ints) reply is h = is
late_not_stuck n before me own (Abort code) reply is h = is
late_not_stuck n before me own (Trap fault) reply is h = is
late_not_stuck n before me own End reply is h = is

stuck_then : (next : Next) (n : ℕ) (before : List Event) (me : ℕ) (call : Call) (reply : Reply) → halted before ≡ None
    → IsAllowed next n before me call reply → reply ≡ Stopped Stuck → IsDeadlock next n before
stuck_then next n before me call reply none is h =
    let own : View = view_of before me in
    let F : Option Halt → Type 0 = λ x. IsAllowedBy x (IsDeadlock next n before) (moment_of n before me own) call reply in
    elim is [
      | inl given ↦ elim (option_cases (due n before me own call)) [
        | inl some ↦ (
            let stopped : reply ≡ Stopped some.0 = subst F some.1 given.0 in
            let both : Stopped some.0 ≡ Stopped Stuck = sym stopped ∙ h in
            let same : some.0 ≡ Stuck = cc in
            absurd (due_not_stuck n before me own call none (some.1 ∙ ap (λ x. Some x) same)))
        | inr free ↦ answer_gives (IsDeadlock next n before) n before me own call reply (subst F free given.0) h
      ]
      | inr late ↦ absurd (late_not_stuck n before me own call reply late.1 h)
    ]

-- after a halt each reply is that halt
told : (next : Next) (n : ℕ) (before : List Event) (me : ℕ) (call : Call) (reply : Reply) (halt : Halt) → halted before ≡ Some halt
    → IsAllowed next n before me call reply → reply ≡ Stopped halt
told next n before me call reply halt was is =
    let own : View = view_of before me in
    let F : Option Halt → Type 0 = λ x. IsAllowedBy (or_else x (if is_full before then Some Limit else halt_at n before me own call)) (IsDeadlock next n before) (moment_of n before me own) call reply in
    elim is [
      | inl given ↦ subst F was given.0
      | inr late ↦ (let no : Some halt ≡ None = rw was at late.0 in absurd (cc))
    ]

-- 3. a call that can't go is told so

-- among what is listed is a start that is ready
some_ready : (ready : ℕ → Bool) (starts : List ℕ) (index : ℕ) → index < length starts → ready (slice_index starts index) ≡ true
    → list_any (λ (x : Bool). x) (map ready starts) ≡ true
some_ready ready [] index low is = absurd (omega (arith, low))
some_ready ready (k ∷ starts) zero low is = or_left (ready k) (list_any (λ (x : Bool). x) (map ready starts)) is
some_ready ready (k ∷ starts) (suc index) low is =
    let less : suc index < suc (length starts) = low in
    or_right (ready k) (list_any (λ (x : Bool). x) (map ready starts)) (some_ready ready starts index (omega (arith, less)) is)

part_ready : (n : ℕ) (before : List Event) (me : ℕ) (own : View) (starts : List ℕ) (items : List Item) → 0 < length items
    → rise_within 0 (length starts) (map (λ (item : Item). item.index) items) ≡ true
    → list_all (λ (item : Item). is_ready (moment_of n before me own) (slice_index starts item.index) (start_at own (slice_index starts item.index))) items ≡ true
    → list_any (λ (x : Bool). x) (flags_of (moment_of n before me own) starts) ≡ true
part_ready n before me own starts [] some rising ready = absurd (omega (arith, some))
part_ready n before me own starts (item ∷ items) some rising ready =
    let indices : List ℕ = map (λ (item : Item). item.index) items in
    let later = and_parts (nat_le 0 item.index) (nat_lt item.index (length starts) && rise_within (item.index + 1) (length starts) indices) rising in
    let low = and_parts (nat_lt item.index (length starts)) (rise_within (item.index + 1) (length starts) indices) later.1 in
    let test : Item → Bool = λ i. is_ready (moment_of n before me own) (slice_index starts i.index) (start_at own (slice_index starts i.index)) in
    some_ready (λ k. is_ready (moment_of n before me own) k (start_at own k)) starts item.index (ltb-true item.index (length starts) low.0)
    (and_parts (test item) (list_all test items) ready).0

part_goes : (n : ℕ) (before : List Event) (me : ℕ) (own : View) (starts : List ℕ) (mode : TakeMode) (reply : Reply)
    → IsPartReply (moment_of n before me own) starts mode reply → is_prompt n before me own (Take starts mode) ≡ true
part_goes n before me own starts Several reply is = part_ready n before me own starts is.items is.some is.rising is.ready
part_goes n before me own starts TestSeveral reply is = refl
part_goes n before me own starts All reply is = (let no = is.mode_is in absurd (cc))
part_goes n before me own starts AnyOne reply is = (let no = is.mode_is in absurd (cc))
part_goes n before me own starts TestAll reply is = refl
part_goes n before me own starts TestAny reply is = refl

late_goes : (n : ℕ) (before : List Event) (me : ℕ) (own : View) (call : Call) (reply : Reply)
    → IsLate (moment_of n before me own) call reply → is_prompt n before me own call ≡ true
late_goes n before me own (Take starts mode) reply is = elim is [
  | inl not_yet ↦ or_left (is_test mode) (mode_holds mode (flags_of (moment_of n before me own) starts)) not_yet.0
  | inr part ↦ part_goes n before me own starts mode reply part
]
late_goes n before me own (Peek comm source tag wait) reply is = rw is.0 refl
late_goes n before me own (Send comm dest tag ints sync) reply is = absurd is
late_goes n before me own (Post comm source tag room) reply is = absurd is
late_goes n before me own (Enter comm kind root op count ints) reply is = absurd is
late_goes n before me own (Abort code) reply is = absurd is
late_goes n before me own (Trap fault) reply is = absurd is
late_goes n before me own End reply is = absurd is

told_stuck : (next : Next) (n : ℕ) (before : List Event) (me : ℕ) (call : Call) (reply : Reply)
    → can_go n before me (view_of before me) call ≡ false → IsAllowed next n before me call reply → reply ≡ Stopped Stuck
told_stuck next n before me call reply h is =
    let own : View = view_of before me in
    let halt : Option Halt = due n before me own call in
    elim is [
      | inl given ↦ allowed_stuck halt (IsDeadlock next n before) n before own me call reply h given.0
      | inr late ↦ (
          let goes : can_go n before me own call ≡ true = or_right (is_some halt) (is_prompt n before me own call) (late_goes n before me own call reply late.1) in
          let no : true ≡ false = sym goes ∙ h in
          absurd (cc))
    ]

-- 4. a run in which each rank has ended

asked_of : (next : Next) (n : ℕ) (before : List Event) (event : Event) (rank : ℕ) (view : View) (call : Call)
    → next n event.rank (replies_in (view_of before event.rank)) ≡ Some event.call → event.rank ≡ rank → view_of before rank ≡ view → event.call ≡ call
    → next n rank (replies_in view) ≡ Some call
asked_of next n before event rank view call step rank_is view_is call_is = rw (← view_is, ← call_is, ← rank_is) step

module _ (next : Next) (n : ℕ) (events : List Event) (is : IsEndedRun next n events) where
  abbrev G : List Event
  G = going events

  whole_run : (rest : List Event) → halting events ≡ rest → IsRun next n (G ++ rest)
  whole_run rest there =
      let F : List Event → Type 0 = λ l. IsRun next n l in
      subst F (sym (parts_are events) ∙ ap (λ l. G ++ l) there) is.is_run

  first_event : (first : IsFirstStop events) → IsEvent next n G first.event
  first_event first = IsRun-event next n G first.rest first.event (whole_run (first.event ∷ first.rest) first.there)

  view_parts : (rank : ℕ) → view_of events rank ≡ view_of G rank ++ view_of (halting events) rank
  view_parts rank = ap (λ l. view_of l rank) (sym (parts_are events)) ∙ view_of-append G (halting events) rank

  -- a rank that was live has an event from there on
  live_halts : (rank : ℕ) (call : Call) → rank < n → call_after next n G rank ≡ Some call → view_of (halting events) rank ≡ [] → ⊥
  live_halts rank call below live none =
      let same : view_of events rank ≡ view_of G rank = view_parts rank ∙ ap (λ v. view_of G rank ++ v) none ∙ append-nil (view_of G rank) in
      let no : Some call ≡ None = sym live ∙ ap (λ v. next n rank (replies_in v)) (sym same) ∙ is.ended rank below in
      cc

  -- the call with which a rank goes on from there is its next
  asked : (rank : ℕ) (call : Call) (reply : Reply) (rest : View) → view_of (halting events) rank ≡ (call, reply) ∷ rest → call_after next n G rank ≡ Some call
  asked rank call reply rest e =
      let at = place events rank (view_of G rank) call reply rest (view_parts rank ∙ ap (λ v. view_of G rank ++ v) e) in
      let F : List Event → Type 0 = λ l. IsRun next n l in
      let step = IsRun-event next n at.before at.after at.event (subst F at.whole is.is_run) in
      asked_of next n at.before at.event rank (view_of G rank) call step.call at.rank_is at.view_is at.call_is

  stopped_is_by : (rank : ℕ) (view : View) → rank < n → view_of (halting events) rank ≡ view → first_call view ≡ call_after next n G rank
  stopped_is_by rank [] below e = elim (option_cases (call_after next n G rank)) [
    | inl live ↦ absurd (live_halts rank live.0 below live.1 e)
    | inr none ↦ sym none
  ]
  stopped_is_by rank ((call, reply) ∷ view) below e = sym (asked rank call reply view e)

  -- the call at which a rank was stopped is its next one before
  pub stopped_is : (rank : ℕ) → rank < n → stopped_call events rank ≡ call_after next n G rank
  stopped_is rank below = stopped_is_by rank (view_of (halting events) rank) below refl

  -- 5. halted as stuck if and only if no call could go
  dead_if : halted events ≡ Some Stuck → IsDead next n G
  dead_if stuck = elim (first_stop events) [
    | inl first ↦ (
        let step = first_event first in
        let both : Some first.halt ≡ Some Stuck = sym (halted_first events first) ∙ stuck in
        let same : first.halt ≡ Stuck = cc in
        let reply : first.event.reply ≡ Stopped Stuck = first.by ∙ ap (λ h. Stopped h) same in
        record {
          rank = first.event.rank;
          call = first.event.call;
          below = step.rank;
          live = step.call;
          stuck = (stuck_then next n G first.event.rank first.event.call first.event.reply (halted-going events) step.reply reply).0;
        })
    | inr none ↦ (let no : None ≡ Some Stuck = sym (halted-whole events ∙ ap halted none) ∙ stuck in absurd (cc))
  ]

  -- and then no pair can meet
  pub deadlock_if : halted events ≡ Some Stuck → IsDeadlock next n G
  deadlock_if stuck = elim (first_stop events) [
    | inl first ↦ (
        let step = first_event first in
        let both : Some first.halt ≡ Some Stuck = sym (halted_first events first) ∙ stuck in
        let same : first.halt ≡ Stuck = cc in
        let reply : first.event.reply ≡ Stopped Stuck = first.by ∙ ap (λ h. Stopped h) same in
        stuck_then next n G first.event.rank first.event.call first.event.reply (halted-going events) step.reply reply)
    | inr none ↦ (let no : None ≡ Some Stuck = sym (halted-whole events ∙ ap halted none) ∙ stuck in absurd (cc))
  ]

  halted_if : IsDead next n G → halted events ≡ Some Stuck
  halted_if dead = elim (first_stop events) [
    | inl first ↦ (
        let step = first_event first in
        let reply = told_stuck next n G first.event.rank first.event.call first.event.reply (dead.stuck first.event.rank first.event.call step.rank step.call) step.reply in
        let both : Stopped first.halt ≡ Stopped Stuck = sym first.by ∙ reply in
        let same : first.halt ≡ Stuck = cc in
        halted_first events first ∙ ap (λ h. Some h) same)
    | inr none ↦ absurd (live_halts dead.rank dead.call dead.below dead.live (ap (λ l. view_of l dead.rank) none))
  ]

  -- 6. the blocked ranks
  stopped_all : (before rest : List Event) (halt : Halt) (rank : ℕ) (call : Call) (reply : Reply) (view : View) → halted before ≡ Some halt → Along (IsEvent next n) before rest
      → view_of rest rank ≡ (call, reply) ∷ view → reply ≡ Stopped halt
  stopped_all before [] halt rank call reply view was all e = absurd (cc)
  stopped_all before (event ∷ rest) halt rank call reply view was all e =
      let stopped = told next n before event.rank event.call event.reply halt was all.0.reply in
      let was_too : halted (before ++ event ∷ []) ≡ Some halt = halted-append before (event ∷ []) ∙ ap (λ h. or_else h (halted (event ∷ []))) was in
      elim (test_cases (event.rank == rank)) [
        | inl t ↦ (
            let same : (event.call, event.reply) ∷ view_of rest rank ≡ (call, reply) ∷ view = rw t at e in
            let p : Call × Reply = (event.call, event.reply) in
            let q : Call × Reply = (call, reply) in
            let pair : p ≡ q = cc in
            sym (ap (λ (x : Call × Reply). x.1) pair) ∙ stopped)
        | inr t ↦ stopped_all (before ++ event ∷ []) rest halt rank call reply view was_too all.1 (rw t at e)
      ]

  -- each rank that goes on from there is told so
  replies_stuck : halted events ≡ Some Stuck → (rank : ℕ) (call : Call) (reply : Reply) (view : View) → view_of (halting events) rank ≡ (call, reply) ∷ view → reply ≡ Stopped Stuck
  replies_stuck stuck rank call reply view e = elim (first_stop events) [
    | inl first ↦ (
        let both : Some first.halt ≡ Some Stuck = sym (halted_first events first) ∙ stuck in
        let same : first.halt ≡ Stuck = cc in
        let here : view_of (first.event ∷ first.rest) rank ≡ (call, reply) ∷ view = ap (λ l. view_of l rank) (sym first.there) ∙ e in
        let reply_is : first.event.reply ≡ Stopped Stuck = first.by ∙ ap (λ h. Stopped h) same in
        let all = Along-back (IsEvent next n) [] G (first.event ∷ first.rest) (whole_run (first.event ∷ first.rest) first.there).along in
        elim (test_cases (first.event.rank == rank)) [
          | inl t ↦ (
              let one : (first.event.call, first.event.reply) ∷ view_of first.rest rank ≡ (call, reply) ∷ view = rw t at here in
              let p : Call × Reply = (first.event.call, first.event.reply) in
              let q : Call × Reply = (call, reply) in
              let pair : p ≡ q = cc in
              sym (ap (λ (x : Call × Reply). x.1) pair) ∙ reply_is)
          | inr t ↦ (
              let was : halted (G ++ first.event ∷ []) ≡ Some Stuck =
              halted-append G (first.event ∷ []) ∙ ap (λ h. or_else h (halted (first.event ∷ []))) (halted-going events) ∙ ap (λ r. or_else (halt_of_reply r) None) reply_is in
              stopped_all (G ++ first.event ∷ []) first.rest Stuck rank call reply view was all.1 (rw t at here))
        ])
    | inr none ↦ (let no : [] ≡ (call, reply) ∷ view = sym (ap (λ l. view_of l rank) none) ∙ e in absurd (cc))
  ]

  get_seam : (xs : View) (ys : View) → slice_get (xs ++ ys) (length xs) ≡ slice_get ys 0
  get_seam [] ys = refl
  get_seam (x ∷ xs) ys = get_seam xs ys

  seam : (rank : ℕ) → slice_get (view_of events rank) (length (view_of G rank)) ≡ slice_get (view_of (halting events) rank) 0
  seam rank = ap (λ v. slice_get v (length (view_of G rank))) (view_parts rank) ∙ get_seam (view_of G rank) (view_of (halting events) rank)

  blocked_if_by : halted events ≡ Some Stuck → (rank : ℕ) (call : Call) (view : View) → rank < n → call_after next n G rank ≡ Some call
      → view_of (halting events) rank ≡ view → slice_get view 0 ≡ Some (call, Stopped Stuck)
  blocked_if_by stuck rank call [] below live e = absurd (live_halts rank call below live e)
  blocked_if_by stuck rank call ((other, reply) ∷ view) below live e =
      let same : Some other ≡ Some call = sym (asked rank other reply view e) ∙ live in
      let calls : other ≡ call = cc in
      let replies = replies_stuck stuck rank other reply view e in
      ap (λ c. Some (c, reply)) calls ∙ ap (λ r. Some (call, r)) replies

  blocked_back_by : (rank : ℕ) (call : Call) (view : View) → view_of (halting events) rank ≡ view → slice_get view 0 ≡ Some (call, Stopped Stuck)
      → call_after next n G rank ≡ Some call
  blocked_back_by rank call [] e there = absurd (cc)
  blocked_back_by rank call ((other, reply) ∷ view) e there =
      let p : Call × Reply = (other, reply) in
      let q : Call × Reply = (call, Stopped Stuck) in
      let pair : p ≡ q = cc in
      asked rank other reply view e ∙ ap (λ (x : Call × Reply). Some x.0) pair

pub stuck_exactly : (next : Next) (n : ℕ) → StuckExactly next n
stuck_exactly next n events is = (dead_if next n events is, halted_if next n events is)

pub blocked_exactly : (next : Next) (n : ℕ) → BlockedExactly next n
blocked_exactly next n events is stuck rank call below = (
  λ live. record { there = seam next n events is rank ∙ blocked_if_by next n events is stuck rank call (view_of (halting events) rank) below live refl },
  λ blocked. blocked_back_by next n events is rank call (view_of (halting events) rank) refl (sym (seam next n events is rank) ∙ blocked.there),
)
