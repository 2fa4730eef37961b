-- A rank that a halt names has been stopped.
use Rattle.std.proofs.Common.{◌++◌, ◌==◌, ◌||◌, ◌∙◌, ◌∷◌, ◌≡◌, Bool, List, None, Option, Some, [], ap, false, inl, inr, length, not, refl, subst, sym, true, ℕ}
use Rattle.std.proofs.lemmas.Bool.{eqb-true, or_cases, or_left, or_right}
use Rattle.mpi_call.specs.declared.call.Call.{Call}
use Rattle.mpi_call.specs.declared.call.Call.TheVariants.{Abort, End, Enter, Peek, Post, Send, Take, Trap}
use Rattle.mpi_call.specs.declared.call.Halt.{Halt}
use Rattle.mpi_call.specs.declared.call.Halt.TheVariants.{Aborted, BadRequest, Limit, Mismatched, Stuck, Trapped, Truncated}
use Rattle.mpi_call.specs.declared.call.Source.{Source}
use Rattle.mpi_call.specs.declared.call.Tag.{Tag}
use Rattle.mpi_call.specs.declared.call.TakeMode.{TakeMode}
use Rattle.mpi_call.specs.declared.reply.Item.{Item}
use Rattle.mpi_call.specs.declared.reply.Reply.{Reply}
use Rattle.mpi_call.specs.declared.reply.Reply.TheVariants.{Done, NotYet, Peeked, Stopped, Took}
use Rattle.run_model.specs.declared.event.Event.{Event}
use Rattle.run_model.specs.Allowed.{IsAllowed, IsAllowedBy, IsAnswer, IsDeadlock, IsHeld, IsLate, IsPeekAnswer, IsTakeAnswer, first_long, flags_of, has_open, mode_holds, probe_of, taken_reply}
use Rattle.run_model.specs.Due.{bad_request, due, halt_at, halt_of_reply, halted, is_full, is_mismatched, or_else}
use Rattle.run_model.specs.Run.{IsEvent}
use Rattle.run_model.specs.Shape.{is_test}
use Rattle.run_model.specs.Views.{Next, View, moment_of, view_of}
use Rattle.run_model.proofs.Views.{option_cases, test_cases, view_of-append, view_of-mine}

-- the halt names the rank
abbrev pub names : ℕ → Halt → Bool
names me (Aborted rank code) = rank == me
names me (Trapped rank fault) = rank == me
names me (Truncated rank start) = rank == me
names me (Mismatched rank) = rank == me
names me (BadRequest rank start) = rank == me
names me halt = false

-- A rank that a halt names has ended.
-- whoever the halt names is this rank
record OwnHalt (me : ℕ) (halt : Halt) : Type 0 where
  own : (rank : ℕ) → names rank halt ≡ true → me ≡ rank

stopped_same : (a b : Halt) (reply : Reply) (me : ℕ) → reply ≡ Stopped a → reply ≡ Stopped b → OwnHalt me a → OwnHalt me b
stopped_same a b reply me p q own =
    let e : Stopped a ≡ Stopped b = sym p ∙ q in
    let same : a ≡ b = cc in
    subst (OwnHalt me) same own

held_own : (test : Bool) (stuck : Type 0) (reply : Reply) (halt : Halt) (me : ℕ) → IsHeld test stuck reply → reply ≡ Stopped halt
    → OwnHalt me halt
held_own true stuck reply halt me is h = (let no : NotYet ≡ Stopped halt = sym is ∙ h in absurd (cc))
held_own false stuck reply halt me is h = stopped_same Stuck halt reply me is.1 h (record { own = λ rank no. absurd (cc) })

taken_own : (long : Option ℕ) (items : List Item) (reply : Reply) (halt : Halt) (me : ℕ) → reply ≡ taken_reply me long items
    → reply ≡ Stopped halt → OwnHalt me halt
taken_own None items reply halt me is h = (let no : Took items ≡ Stopped halt = sym is ∙ h in absurd (cc))
taken_own (Some k) items reply halt me is h = stopped_same (Truncated me k) halt reply me is h (record { own = λ rank t. eqb-true me rank t })

take_own : (condition : Bool) (stuck : Type 0) (n : ℕ) (before : List Event) (own : View) (me : ℕ) (starts : List ℕ) (mode : TakeMode) (reply : Reply) (halt : Halt)
    → IsTakeAnswer condition stuck (moment_of n before me own) starts mode reply → reply ≡ Stopped halt → OwnHalt me halt
take_own true stuck n before own me starts mode reply halt is h = taken_own (first_long own starts is.items) is.items reply halt me is.reply_is h
take_own false stuck n before own me starts mode reply halt is h = held_own (is_test mode) stuck reply halt me is h

peek_own : (found : Bool) (stuck : Type 0) (before : List Event) (me comm : ℕ) (source : Source) (tag : Tag) (wait : Bool) (reply : Reply) (halt : Halt)
    → IsPeekAnswer found stuck before (probe_of me comm source tag) wait reply → reply ≡ Stopped halt → OwnHalt me halt
peek_own true stuck before me comm source tag wait reply halt is h = (let no : Peeked is.send.0 is.send.1 is.t (length is.ints) ≡ Stopped halt = sym is.reply_is ∙ h in absurd (cc))
peek_own false stuck before me comm source tag wait reply halt is h = held_own (not wait) stuck reply halt me is h

done_own : (reply : Reply) (halt : Halt) (me : ℕ) → reply ≡ Done → reply ≡ Stopped halt → OwnHalt me halt
done_own reply halt me is h = (let no : Done ≡ Stopped halt = sym is ∙ h in absurd (cc))

answer_own : (stuck : Type 0) (n : ℕ) (before : List Event) (own : View) (me : ℕ) (call : Call) (reply : Reply) (halt : Halt)
    → IsAnswer stuck (moment_of n before me own) call reply → reply ≡ Stopped halt → OwnHalt me halt
answer_own stuck n before own me (Take starts mode) reply halt is h = take_own (mode_holds mode (flags_of (moment_of n before me own) starts)) stuck n before own me starts mode reply halt is h
answer_own stuck n before own me (Peek comm source tag wait) reply halt is h = peek_own (has_open n before me comm source tag) stuck before me comm source tag wait reply halt is h
answer_own stuck n before own me (Send comm dest tag ints sync) reply halt is h = done_own reply halt me is h
answer_own stuck n before own me (Post comm source tag room) reply halt is h = done_own reply halt me is h
answer_own stuck n before own me (Enter comm kind root op count ints) reply halt is h = done_own reply halt me is h
answer_own stuck n before own me (Abort code) reply halt is h = done_own reply halt me is h
answer_own stuck n before own me (Trap fault) reply halt is h = done_own reply halt me is h
answer_own stuck n before own me End reply halt is h = done_own reply halt me is h

late_own : (n : ℕ) (before : List Event) (own : View) (me : ℕ) (call : Call) (reply : Reply) (halt : Halt)
    → IsLate (moment_of n before me own) call reply → reply ≡ Stopped halt → OwnHalt me halt
late_own n before own me (Take starts mode) reply halt is h = elim is [
  | inl not_yet ↦ (let no : NotYet ≡ Stopped halt = sym not_yet.2 ∙ h in absurd (cc))
  | inr part ↦ taken_own (first_long own starts part.items) part.items reply halt me part.reply_is h
]
late_own n before own me (Peek comm source tag wait) reply halt is h = (let no : NotYet ≡ Stopped halt = sym is.1 ∙ h in absurd (cc))
late_own n before own me (Send comm dest tag ints sync) reply halt is h = absurd is
late_own n before own me (Post comm source tag room) reply halt is h = absurd is
late_own n before own me (Enter comm kind root op count ints) reply halt is h = absurd is
late_own n before own me (Abort code) reply halt is h = absurd is
late_own n before own me (Trap fault) reply halt is h = absurd is
late_own n before own me End reply halt is h = absurd is

halt_at-own : (n : ℕ) (before : List Event) (own : View) (me : ℕ) (call : Call) (halt : Halt)
    → halt_at n before me own call ≡ Some halt → OwnHalt me halt
halt_at-own n before own me (Abort code) halt h = (let e : Aborted me code ≡ halt = cc in subst (OwnHalt me) e (record { own = λ rank t. eqb-true me rank t }))
halt_at-own n before own me (Trap fault) halt h = (let e : Trapped me fault ≡ halt = cc in subst (OwnHalt me) e (record { own = λ rank t. eqb-true me rank t }))
halt_at-own n before own me (Enter comm kind root op count ints) halt h =
    elim (test_cases (is_mismatched n before own (Enter comm kind root op count ints))) [
      | inl t ↦ (let some : Some (Mismatched me) ≡ Some halt = rw t at h in let e : Mismatched me ≡ halt = cc in subst (OwnHalt me) e (record { own = λ rank u. eqb-true me rank u }))
      | inr t ↦ (let no : None ≡ Some halt = rw t at h in absurd (cc))
    ]
halt_at-own n before own me (Take starts mode) halt h =
    elim (option_cases (bad_request own [] starts)) [
      | inl bad ↦ (let some : Some (BadRequest me bad.0) ≡ Some halt = rw bad.1 at h in let e : BadRequest me bad.0 ≡ halt = cc in subst (OwnHalt me) e (record { own = λ rank u. eqb-true me rank u }))
      | inr good ↦ (let no : None ≡ Some halt = rw good at h in absurd (cc))
    ]
halt_at-own n before own me (Send comm dest tag ints sync) halt h = absurd (cc)
halt_at-own n before own me (Post comm source tag room) halt h = absurd (cc)
halt_at-own n before own me (Peek comm source tag wait) halt h = absurd (cc)
halt_at-own n before own me End halt h = absurd (cc)

first_own : (n : ℕ) (before : List Event) (own : View) (me : ℕ) (call : Call) (halt : Halt) → halted before ≡ None
    → due n before me own call ≡ Some halt → OwnHalt me halt
first_own n before own me call halt none h =
    elim (test_cases (is_full before)) [
      | inl t ↦ (let some : Some Limit ≡ Some halt = rw (none, t) at h in let e : Limit ≡ halt = cc in subst (OwnHalt me) e (record { own = λ rank u. absurd (cc) }))
      | inr t ↦ halt_at-own n before own me call halt (rw (none, t) at h)
    ]

allowed_own : (next : Next) (n : ℕ) (before : List Event) (me : ℕ) (call : Call) (reply : Reply) (halt : Halt)
    → halted before ≡ None → IsAllowed next n before me call reply → reply ≡ Stopped halt → OwnHalt me halt
allowed_own next n before me call reply halt none is h =
    let own : View = view_of before me in
    let F : Option Halt → Type 0 = λ x. IsAllowedBy x (IsDeadlock next n before) (moment_of n before me own) call reply in
    elim is [
      | inl given ↦ elim (option_cases (due n before me own call)) [
        | inl some ↦ (let stopped : reply ≡ Stopped some.0 = subst F some.1 given.0 in stopped_same some.0 halt reply me stopped h (first_own n before own me call some.0 none some.1))
        | inr free ↦ answer_own (IsDeadlock next n before) n before own me call reply halt (subst F free given.0) h
      ]
      | inr late ↦ late_own n before own me call reply halt late.1 h
    ]

-- a rank that was stopped
abbrev pub is_stopped : Reply → Bool
is_stopped (Stopped halt) = true
is_stopped reply = false

abbrev pub was_stopped : View → Bool
was_stopped [] = false
was_stopped ((call, reply) ∷ view) = is_stopped reply || was_stopped view

was_stopped-front : (xs ys : View) → was_stopped xs ≡ true → was_stopped (xs ++ ys) ≡ true
was_stopped-front [] ys h = absurd (cc)
was_stopped-front ((call, reply) ∷ xs) ys h =
    elim (or_cases (is_stopped reply) (was_stopped xs) h) [
      | inl t ↦ or_left _ _ t
      | inr t ↦ or_right _ _ (was_stopped-front xs ys t)
    ]

was_stopped-last : (xs : View) (call : Call) (reply : Reply) → is_stopped reply ≡ true
    → was_stopped (xs ++ (call, reply) ∷ []) ≡ true
was_stopped-last [] call reply h = or_left _ _ h
was_stopped-last ((c, r) ∷ xs) call reply h = or_right _ _ (was_stopped-last xs call reply h)

or_else-assoc : (a b c : Option Halt) → or_else a (or_else b c) ≡ or_else (or_else a b) c
or_else-assoc None b c = refl
or_else-assoc (Some halt) b c = refl

or_else-none : (a : Option Halt) → or_else a None ≡ a
or_else-none None = refl
or_else-none (Some halt) = refl

halted-push : (before : List Event) (event : Event)
    → halted (before ++ event ∷ []) ≡ or_else (halted before) (halt_of_reply event.reply)
halted-push [] event = or_else-none (halt_of_reply event.reply)
halted-push (x ∷ before) event = rw (halted-push before event) (or_else-assoc (halt_of_reply x.reply) (halted before) (halt_of_reply event.reply))

halt_in-stopped : (reply : Reply) (halt : Halt) → halt_of_reply reply ≡ Some halt → reply ≡ Stopped halt
halt_in-stopped (Stopped other) halt h = (let e : other ≡ halt = cc in ap (λ x. Stopped x) e)
halt_in-stopped Done halt h = absurd (cc)
halt_in-stopped NotYet halt h = absurd (cc)
halt_in-stopped (Took items) halt h = absurd (cc)
halt_in-stopped (Peeked source start tag count) halt h = absurd (cc)

pub record NamedStopped (events : List Event) : Type 0 where
  pub each : (halt : Halt) (rank : ℕ) → halted events ≡ Some halt → names rank halt ≡ true → was_stopped (view_of events rank) ≡ true

pub named_more : (next : Next) (n : ℕ) (before : List Event) (event : Event) → NamedStopped before → IsEvent next n before event
    → NamedStopped (before ++ event ∷ [])
named_more next n before event all step =
    record {
      each = λ halt rank h named. elim (option_cases (halted before)) [
        | inl some ↦ (
            let now : or_else (halted before) (halt_of_reply event.reply) ≡ Some halt = sym (halted-push before event) ∙ h in
            let e : Some some.0 ≡ Some halt = rw some.1 at now in
            let same : halted before ≡ Some halt = some.1 ∙ e in
            rw (view_of-append before (event ∷ []) rank) (was_stopped-front (view_of before rank) (view_of (event ∷ []) rank) (all.each halt rank same named)))
        | inr none ↦ (
            let now : or_else (halted before) (halt_of_reply event.reply) ≡ Some halt = sym (halted-push before event) ∙ h in
            let last : halt_of_reply event.reply ≡ Some halt = rw none at now in
            let stopped = halt_in-stopped event.reply halt last in
            let mine : event.rank ≡ rank = (allowed_own next n before event.rank event.call event.reply halt none step.reply stopped).own rank named in
            rw (view_of-mine before event rank mine) (was_stopped-last (view_of before rank) event.call event.reply (rw stopped)))
      ];
    }
