-- The halts that are due, and replies that are answered at once.
use Rattle.std.proofs.Common.{◌≡◌, ◌||◌, ◌&&◌, if◌then◌else◌, ◌∙◌, Bool, List, None, Option, Some, [], false, is_some, not, refl, sym, true, ℕ, ℤ, inl, inr}
use Rattle.std.proofs.lemmas.Bool.{and_parts, or_left, or_right}
use Rattle.mpi_call.specs.declared.call.Call.{Call}
use Rattle.mpi_call.specs.declared.call.Call.TheVariants.{Abort, End, Enter, Peek, Post, Send, Take, Trap}
use Rattle.mpi_call.specs.declared.call.Fault.{Fault}
use Rattle.mpi_call.specs.declared.call.Halt.{Halt}
use Rattle.mpi_call.specs.declared.call.Halt.TheVariants.{Aborted, BadRequest, Limit, Mismatched, Trapped}
use Rattle.mpi_call.specs.declared.call.Source.{Source}
use Rattle.mpi_call.specs.declared.call.Tag.{Tag}
use Rattle.mpi_call.specs.declared.call.TakeMode.{TakeMode}
use Rattle.mpi_call.specs.declared.reply.Reply.{Reply}
use Rattle.mpi_call.specs.declared.reply.Reply.TheVariants.{Done, Stopped}
use Rattle.mpi_call.specs.Calls.{is_enter, is_starting}
use Rattle.run_model.specs.declared.event.Event.{Event}
use Rattle.run_model.specs.Allowed.{can_go, flags_of, has_open, mode_holds, is_prompt}
use Rattle.run_model.specs.Choice.{choice}
use Rattle.run_model.specs.Chosen.{chosen_answer, chosen_reply}
use Rattle.run_model.specs.Due.{bad_request, due, halt_at, halted, is_full, is_mismatched, or_else}
use Rattle.run_model.specs.Serial.{is_stuck, others_wait}
use Rattle.run_model.specs.Shape.{is_test}
use Rattle.run_model.specs.Views.{Next, View, moment_at, view_of}
use Rattle.run_model.proofs.ChosenProbes.{peek_missed, peek_there}
use Rattle.run_model.proofs.Origins.{AllBelow}
use Rattle.run_model.proofs.Views.{option_cases}
use Rattle.mpi_machine.specs.Courses.{bound_of}
use Rattle.mpi_machine.specs.Turns.{HasReply, IsAsked, IsHeldBack, stage_of}
use Rattle.mpi_machine.specs.Waits.{is_awaited_there, waits}

pub record Unbound (events : List Event) : Type 0 where
  pub none : halted events ≡ None
  pub within : is_full events ≡ false

unbound_by : (halt : Option Halt) (full : Bool) → or_else halt (if full then Some Limit else None) ≡ None → (halt ≡ None) × (full ≡ false)
unbound_by (Some halt) full e = absurd (cc)
unbound_by None true e = absurd (cc)
unbound_by None false e = (refl, refl)

pub unbound : (events : List Event) → bound_of events ≡ None → Unbound events
unbound events e = (let u = unbound_by (halted events) (is_full events) e in record { none = u.0; within = u.1 })

pub due_free : (n : ℕ) (events : List Event) (own : View) (me : ℕ) (call : Call) → bound_of events ≡ None
    → due n events me own call ≡ halt_at n events me own call
due_free n events own me call e = (let u = unbound events e in rw (u.none, u.within) refl)

pub bound_due : (halt : Option Halt) (full : Bool) (rest : Option Halt) (found : Halt) → or_else halt (if full then Some Limit else None) ≡ Some found
    → or_else halt (if full then Some Limit else rest) ≡ Some found
bound_due (Some halt) full rest found e = e
bound_due None true rest found e = e
bound_due None false rest found e = absurd (cc)

-- a call that is answered at once, and its reply
pub record Answered (n : ℕ) (events : List Event) (me : ℕ) (call : Call) (reply : Reply) : Type 0 where
  pub go : can_go n events me (view_of events me) call ≡ true
  pub reply_is : chosen_reply n events me call ≡ reply

pub due_answered : (n : ℕ) (events : List Event) (me : ℕ) (call : Call) (halt : Halt) → due n events me (view_of events me) call ≡ Some halt
    → Answered n events me call (Stopped halt)
due_answered n events me call halt e = record { go = rw e refl; reply_is = rw e refl }

pub bound_answered : (n : ℕ) (events : List Event) (me : ℕ) (call : Call) (halt : Halt) → bound_of events ≡ Some halt
    → Answered n events me call (Stopped halt)
bound_answered n events me call halt e =
    due_answered n events me call halt (bound_due (halted events) (is_full events) (halt_at n events me (view_of events me) call) halt e)

pub halt_answered : (n : ℕ) (events : List Event) (me : ℕ) (call : Call) (halt : Halt) → bound_of events ≡ None
    → halt_at n events me (view_of events me) call ≡ Some halt → Answered n events me call (Stopped halt)
halt_answered n events me call halt free e = due_answered n events me call halt (due_free n events (view_of events me) me call free ∙ e)

pub free_answered : (n : ℕ) (events : List Event) (me : ℕ) (call : Call) (reply : Reply) → due n events me (view_of events me) call ≡ None
    → is_prompt n events me (view_of events me) call ≡ true → chosen_answer n events me (view_of events me) call ≡ reply
    → Answered n events me call reply
free_answered n events me call reply d p a = record { go = rw (d, p) refl; reply_is = rw d a }

-- a start is answered at once: an Enter that agrees with those of its instance, a Send and a Post
pub start_answered : (n : ℕ) (events : List Event) (me : ℕ) (call : Call) → bound_of events ≡ None → is_starting call ≡ true
    → (is_enter call ≡ true → is_mismatched n events (view_of events me) call ≡ false) → Answered n events me call Done
start_answered n events me (Send comm dest tag ints sync) free h agrees =
    free_answered n events me (Send comm dest tag ints sync) Done (due_free n events (view_of events me) me (Send comm dest tag ints sync) free) refl refl
start_answered n events me (Post comm source tag room) free h agrees =
    free_answered n events me (Post comm source tag room) Done (due_free n events (view_of events me) me (Post comm source tag room) free) refl refl
start_answered n events me (Enter comm kind root op count ints) free h agrees =
    let same : is_mismatched n events (view_of events me) (Enter comm kind root op count ints) ≡ false = agrees refl in
    free_answered n events me (Enter comm kind root op count ints) Done
    (due_free n events (view_of events me) me (Enter comm kind root op count ints) free ∙ rw same refl) refl refl
start_answered n events me (Take starts mode) free h agrees = absurd (cc)
start_answered n events me (Peek comm source tag wait) free h agrees = absurd (cc)
start_answered n events me (Abort code) free h agrees = absurd (cc)
start_answered n events me (Trap fault) free h agrees = absurd (cc)
start_answered n events me End free h agrees = absurd (cc)

pub mismatch_answered : (n : ℕ) (events : List Event) (me : ℕ) (call : Call) → bound_of events ≡ None → is_enter call ≡ true
    → is_mismatched n events (view_of events me) call ≡ true → Answered n events me call (Stopped (Mismatched me))
mismatch_answered n events me (Enter comm kind root op count ints) free h other =
    halt_answered n events me (Enter comm kind root op count ints) (Mismatched me) free (rw other refl)
mismatch_answered n events me (Send comm dest tag ints sync) free h other = absurd (cc)
mismatch_answered n events me (Post comm source tag room) free h other = absurd (cc)
mismatch_answered n events me (Take starts mode) free h other = absurd (cc)
mismatch_answered n events me (Peek comm source tag wait) free h other = absurd (cc)
mismatch_answered n events me (Abort code) free h other = absurd (cc)
mismatch_answered n events me (Trap fault) free h other = absurd (cc)
mismatch_answered n events me End free h other = absurd (cc)

pub end_answered : (n : ℕ) (events : List Event) (me : ℕ) → bound_of events ≡ None → Answered n events me End Done
end_answered n events me free = free_answered n events me End Done (due_free n events (view_of events me) me End free) refl refl

pub abort_answered : (n : ℕ) (events : List Event) (me : ℕ) (code : ℤ) → bound_of events ≡ None → Answered n events me (Abort code) (Stopped (Aborted me code))
abort_answered n events me code free = halt_answered n events me (Abort code) (Aborted me code) free refl

pub trap_answered : (n : ℕ) (events : List Event) (me : ℕ) (fault : Fault) → bound_of events ≡ None → Answered n events me (Trap fault) (Stopped (Trapped me fault))
trap_answered n events me fault free = halt_answered n events me (Trap fault) (Trapped me fault) free refl

pub bad_answered : (n : ℕ) (events : List Event) (me : ℕ) (starts : List ℕ) (mode : TakeMode) (k : ℕ) → bound_of events ≡ None
    → bad_request (view_of events me) [] starts ≡ Some k → Answered n events me (Take starts mode) (Stopped (BadRequest me k))
bad_answered n events me starts mode k free e = halt_answered n events me (Take starts mode) (BadRequest me k) free (rw e refl)

pub take_free : (n : ℕ) (events : List Event) (me : ℕ) (starts : List ℕ) (mode : TakeMode) → bound_of events ≡ None
    → bad_request (view_of events me) [] starts ≡ None → due n events me (view_of events me) (Take starts mode) ≡ None
take_free n events me starts mode free e = due_free n events (view_of events me) me (Take starts mode) free ∙ rw e refl

pub take_answered : (n : ℕ) (events : List Event) (me : ℕ) (starts : List ℕ) (mode : TakeMode) (reply : Reply) → bound_of events ≡ None
    → bad_request (view_of events me) [] starts ≡ None → mode_holds mode (flags_of (moment_at n events me) starts) ≡ true
    → chosen_answer n events me (view_of events me) (Take starts mode) ≡ reply → Answered n events me (Take starts mode) reply
take_answered n events me starts mode reply free e h a =
    free_answered n events me (Take starts mode) reply (take_free n events me starts mode free e)
    (or_right (is_test mode) (mode_holds mode (flags_of (moment_at n events me) starts)) h) a

or_none : (x y : Bool) → y ≡ false → (x || y) ≡ x
or_none true y e = refl
or_none false y e = e

and_yes : (x : Bool) → (not x && true) ≡ not x
and_yes true = refl
and_yes false = refl

pub take_held : (n : ℕ) (events : List Event) (me : ℕ) (starts : List ℕ) (mode : TakeMode) → bound_of events ≡ None
    → bad_request (view_of events me) [] starts ≡ None → mode_holds mode (flags_of (moment_at n events me) starts) ≡ false
    → IsHeldBack n events me (Take starts mode) (is_test mode)
take_held n events me starts mode free e h =
    let d = take_free n events me starts mode free e in
    record {
      go = rw d (or_none (is_test mode) (mode_holds mode (flags_of (moment_at n events me) starts)) h);
      reply_is = rw (d, h) refl;
      waiting = rw e (and_yes (is_test mode));
    }

pub peek_free : (n : ℕ) (events : List Event) (me comm : ℕ) (source : Source) (tag : Tag) (wait : Bool) → bound_of events ≡ None
    → due n events me (view_of events me) (Peek comm source tag wait) ≡ None
peek_free n events me comm source tag wait free = due_free n events (view_of events me) me (Peek comm source tag wait) free

pub not_not : (b : Bool) → not (not b) ≡ b
not_not true = refl
not_not false = refl

pub peek_held : (n : ℕ) (events : List Event) (me comm : ℕ) (source : Source) (tag : Tag) (wait : Bool) → bound_of events ≡ None
    → choice events me (Peek comm source tag wait) ≡ None → IsHeldBack n events me (Peek comm source tag wait) (not wait)
peek_held n events me comm source tag wait free e =
    let d = peek_free n events me comm source tag wait free in
    record {
      go = rw d (or_none (not wait) (has_open n events me comm source tag) (peek_missed n events me comm source tag wait e));
      reply_is = rw (d, e) refl;
      waiting = sym (not_not wait);
    }

pub peek_answered : (n : ℕ) (events : List Event) (me comm : ℕ) (source : Source) (tag : Tag) (wait : Bool) (at : ℕ) (reply : Reply) → AllBelow n events
    → bound_of events ≡ None → choice events me (Peek comm source tag wait) ≡ Some at
    → chosen_answer n events me (view_of events me) (Peek comm source tag wait) ≡ reply → Answered n events me (Peek comm source tag wait) reply
peek_answered n events me comm source tag wait at reply all free e a =
    free_answered n events me (Peek comm source tag wait) reply (peek_free n events me comm source tag wait free)
    (or_right (not wait) (has_open n events me comm source tag) (peek_there n events me comm source tag wait at all e)) a

pub has_reply : (next : Next) (n : ℕ) (events : List Event) (kept : List (Option Call)) (rank : ℕ) (call : Call) (reply : Reply)
    → IsAsked next n events rank call → Answered n events rank call reply → HasReply next (moment_at n events rank) kept call reply
has_reply next n events kept rank call reply asked a =
    record {
      asked = asked;
      answered = or_left (can_go n events rank (view_of events rank) call) (is_stuck next n events && others_wait next n (stage_of events kept) rank) a.go;
      reply_is = a.reply_is;
    }

-- a waiting call can go where what it waits for is there
pub not_true : (b : Bool) → not b ≡ true → b ≡ false
not_true true h = absurd (cc)
not_true false h = refl

pub no_some : {A : Type 0} (o : Option A) → is_some o ≡ false → o ≡ None
no_some None h = refl
no_some (Some x) h = absurd (cc)

pub waits_go : (n : ℕ) (events : List Event) (me : ℕ) (call : Call) → AllBelow n events → bound_of events ≡ None
    → waits (view_of events me) call ≡ true → can_go n events me (view_of events me) call ≡ is_awaited_there n events me call
waits_go n events me (Take starts mode) all free h =
    let parts = and_parts (not (is_test mode)) (not (is_some (bad_request (view_of events me) [] starts))) h in
    let bad = no_some (bad_request (view_of events me) [] starts) (not_true (is_some (bad_request (view_of events me) [] starts)) parts.1) in
    let d = take_free n events me starts mode free bad in
    rw (d, not_true (is_test mode) parts.0) refl
waits_go n events me (Peek comm source tag wait) all free h =
    let d = peek_free n events me comm source tag wait free in
    elim (option_cases (choice events me (Peek comm source tag wait))) [
      | inl some ↦ rw (d, h, some.1) (peek_there n events me comm source tag wait some.0 all some.1)
      | inr none ↦ rw (d, h, none) (peek_missed n events me comm source tag wait none)
    ]
waits_go n events me (Send comm dest tag ints sync) all free h = absurd (cc)
waits_go n events me (Post comm source tag room) all free h = absurd (cc)
waits_go n events me (Enter comm kind root op count ints) all free h = absurd (cc)
waits_go n events me (Abort code) all free h = absurd (cc)
waits_go n events me (Trap fault) all free h = absurd (cc)
waits_go n events me End all free h = absurd (cc)
