-- What an allowed reply says of the events before it.
use Rattle.std.proofs.Common.{◌≡◌, Bool, List, None, Option, Some, false, inl, inr, length, not, refl, true, ℕ, ℤ}
use Rattle.mpi_call.specs.declared.call.Call.{Call}
use Rattle.mpi_call.specs.declared.call.Call.TheVariants.{Abort, End, Enter, Peek, Post, Send, Take, Trap}
use Rattle.mpi_call.specs.declared.call.Halt.{Halt}
use Rattle.mpi_call.specs.declared.call.Source.{Source}
use Rattle.mpi_call.specs.declared.call.Tag.{Tag}
use Rattle.mpi_call.specs.declared.call.TakeMode.{TakeMode}
use Rattle.mpi_call.specs.declared.reply.Item.{Item}
use Rattle.mpi_call.specs.declared.reply.Reply.{Reply}
use Rattle.mpi_call.specs.declared.reply.Reply.TheVariants.{Done, NotYet, Peeked, Stopped, Took}
use Rattle.mpi_call.specs.Acceptance.{accepts}
use Rattle.mpi_call.specs.Calls.{listed_by}
use Rattle.run_model.specs.declared.event.Event.{Event}
use Rattle.run_model.specs.Allowed.{IsAllowed, IsAllowedBy, IsAnswer, IsDeadlock, IsHeld, IsLate, IsPeekAnswer, IsTakeAnswer, first_long, flags_of, has_open, mode_holds, probe_of, taken_reply}
use Rattle.run_model.specs.Readiness.{AreGots}
use Rattle.run_model.specs.Due.{due}
use Rattle.run_model.specs.Shape.{is_test}
use Rattle.run_model.specs.Views.{Next, View, moment_of, start_at, view_of}

-- a probe accepts a message
abbrev pub probe_accepts : ℕ → Call → ℕ → Call → Bool
probe_accepts me (Peek comm source tag wait) sender sent = accepts me comm source tag sender sent
probe_accepts me call sender sent = false

-- what a reply says of the events before it
pub record IsPeekedSend (before : List Event) (me : ℕ) (call : Call) (source start tag count : ℕ) : Type 0 where
  pub comm : ℕ
  pub dest : ℕ
  pub ints : List ℤ
  pub sync : Bool
  pub sent : start_at (view_of before source) start ≡ Some (Send comm dest tag ints sync)
  pub counted : count ≡ length ints
  pub accepted : probe_accepts me call source (Send comm dest tag ints sync) ≡ true

abbrev pub IsTrueReply : ℕ → List Event → View → ℕ → Call → Reply → Type 0
IsTrueReply n before own me call Done = Unit {0}
IsTrueReply n before own me call NotYet = Unit {0}
IsTrueReply n before own me call (Stopped halt) = Unit {0}
IsTrueReply n before own me call (Took items) = AreGots (moment_of n before me own) (listed_by call) items
IsTrueReply n before own me call (Peeked source start tag count) = IsPeekedSend before me call source start tag count

-- an allowed reply is true
taken_true : (n : ℕ) (before : List Event) (own : View) (me : ℕ) (starts : List ℕ) (mode : TakeMode) (long : Option ℕ) (items : List Item) (reply : Reply)
    → AreGots (moment_of n before me own) starts items → reply ≡ taken_reply me long items
    → IsTrueReply n before own me (Take starts mode) reply
taken_true n before own me starts mode None items reply are is = rw is are
taken_true n before own me starts mode (Some k) items reply are is = rw is tt

held_true : (n : ℕ) (before : List Event) (own : View) (me : ℕ) (call : Call) (test : Bool) (stuck : Type 0) (reply : Reply)
    → IsHeld test stuck reply → IsTrueReply n before own me call reply
held_true n before own me call true stuck reply is = rw is tt
held_true n before own me call false stuck reply is = rw is.1 tt

take_true : (n : ℕ) (before : List Event) (own : View) (me : ℕ) (starts : List ℕ) (mode : TakeMode) (condition : Bool) (stuck : Type 0) (reply : Reply)
    → IsTakeAnswer condition stuck (moment_of n before me own) starts mode reply → IsTrueReply n before own me (Take starts mode) reply
take_true n before own me starts mode true stuck reply is =
    taken_true n before own me starts mode (first_long own starts is.items) is.items reply is.gots is.reply_is
take_true n before own me starts mode false stuck reply is = held_true n before own me (Take starts mode) (is_test mode) stuck reply is

peek_true : (n : ℕ) (before : List Event) (own : View) (me comm : ℕ) (source : Source) (tag : Tag) (wait found : Bool) (stuck : Type 0) (reply : Reply)
    → IsPeekAnswer found stuck before (probe_of me comm source tag) wait reply
    → IsTrueReply n before own me (Peek comm source tag wait) reply
peek_true n before own me comm source tag wait true stuck reply is =
    rw is.reply_is (record { comm = is.c; dest = is.dest; ints = is.ints; sync = is.sync; sent = is.sent; counted = refl; accepted = is.accepted })
peek_true n before own me comm source tag wait false stuck reply is = held_true n before own me (Peek comm source tag wait) (not wait) stuck reply is

answer_true : (stuck : Type 0) (n : ℕ) (before : List Event) (own : View) (me : ℕ) (call : Call) (reply : Reply)
    → IsAnswer stuck (moment_of n before me own) call reply → IsTrueReply n before own me call reply
answer_true stuck n before own me (Take starts mode) reply is = take_true n before own me starts mode (mode_holds mode (flags_of (moment_of n before me own) starts)) stuck reply is
answer_true stuck n before own me (Peek comm source tag wait) reply is = peek_true n before own me comm source tag wait (has_open n before me comm source tag) stuck reply is
answer_true stuck n before own me (Send comm dest tag ints sync) reply is = rw is tt
answer_true stuck n before own me (Post comm source tag room) reply is = rw is tt
answer_true stuck n before own me (Enter comm kind root op count ints) reply is = rw is tt
answer_true stuck n before own me (Abort code) reply is = rw is tt
answer_true stuck n before own me (Trap fault) reply is = rw is tt
answer_true stuck n before own me End reply is = rw is tt

pub allowed_true : (halt : Option Halt) (stuck : Type 0) (n : ℕ) (before : List Event) (own : View) (me : ℕ) (call : Call) (reply : Reply)
    → IsAllowedBy halt stuck (moment_of n before me own) call reply → IsTrueReply n before own me call reply
allowed_true None stuck n before own me call reply is = answer_true stuck n before own me call reply is
allowed_true (Some halt) stuck n before own me call reply is = rw is tt

late_true : (n : ℕ) (before : List Event) (own : View) (me : ℕ) (call : Call) (reply : Reply)
    → IsLate (moment_of n before me own) call reply → IsTrueReply n before own me call reply
late_true n before own me (Take starts mode) reply is = elim is [
  | inl not_yet ↦ rw not_yet.2 tt
  | inr part ↦ taken_true n before own me starts mode (first_long own starts part.items) part.items reply part.gots part.reply_is
]
late_true n before own me (Peek comm source tag wait) reply is = rw is.1 tt
late_true n before own me (Send comm dest tag ints sync) reply is = absurd is
late_true n before own me (Post comm source tag room) reply is = absurd is
late_true n before own me (Enter comm kind root op count ints) reply is = absurd is
late_true n before own me (Abort code) reply is = absurd is
late_true n before own me (Trap fault) reply is = absurd is
late_true n before own me End reply is = absurd is

pub reply_true : (next : Next) (n : ℕ) (before : List Event) (me : ℕ) (call : Call) (reply : Reply)
    → IsAllowed next n before me call reply → IsTrueReply n before (view_of before me) me call reply
reply_true next n before me call reply is = elim is [
  | inl given ↦ allowed_true (due n before me (view_of before me) call) (IsDeadlock next n before) n before (view_of before me) me call reply given.0
  | inr late ↦ late_true n before (view_of before me) me call reply late.1
]
