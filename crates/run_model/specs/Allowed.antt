-- The replies that are allowed to a call, after the events before it.
-- (MPI 3.1, "Multiple Completions", "Probe and Cancel".)
use Rattle.std.specs.Prelude.{◌≡◌, ◌⊎◌, ◌+◌, ◌<◌, ℕ, ℤ, List, [], ◌∷◌, Option, Some, None, Bool, true, false, not, ◌&&◌, ◌||◌, if◌then◌else◌, nat_lt, map, length, slice_get, slice_index, is_some, IsTrue}
use Rattle.std.specs.List.{list_any, list_all}
use Rattle.mpi_call.specs.declared.call.Call.{Call}
use Rattle.mpi_call.specs.declared.call.Call.TheVariants.{Send, Post, Take, Peek}
use Rattle.mpi_call.specs.declared.call.Halt.{Halt}
use Rattle.mpi_call.specs.declared.call.Halt.TheVariants.{Truncated, Stuck}
use Rattle.mpi_call.specs.declared.call.Source.{Source}
use Rattle.mpi_call.specs.declared.call.Tag.{Tag}
use Rattle.mpi_call.specs.declared.call.TakeMode.{TakeMode}
use Rattle.mpi_call.specs.declared.call.TakeMode.TheVariants.{All, Any as AnyOne, Several, TestAll, TestAny, TestSeveral}
use Rattle.mpi_call.specs.declared.reply.Got.{Got}
use Rattle.mpi_call.specs.declared.reply.Got.TheVariants.{Message}
use Rattle.mpi_call.specs.declared.reply.Item.{Item}
use Rattle.mpi_call.specs.declared.reply.Reply.{Reply}
use Rattle.mpi_call.specs.declared.reply.Reply.TheVariants.{Done, Took, NotYet, Peeked, Stopped}
use Rattle.mpi_call.specs.Acceptance.{accepts}
use Rattle.mpi_call.specs.Lists.{IsIn}
use Rattle.run_model.specs.declared.event.Event.{Event}
use Rattle.run_model.specs.Lists.{world}
use Rattle.run_model.specs.Views.{Moment, View, Next, moment_at, moment_of, view_of, replies_in, starts_of, start_at}
use Rattle.run_model.specs.Pairs.{Name, NothingWaits, PostAccepts, named, pairs_of, partner_of}
use Rattle.run_model.specs.Shape.{is_test, rise_within}
use Rattle.run_model.specs.Readiness.{is_ready, AreGots}
use Rattle.run_model.specs.Due.{due}

-- for each listed start, whether it is ready
abbrev pub flags_of : Moment → List ℕ → List Bool
flags_of moment starts = map (λ k. is_ready moment k (start_at moment.own k)) starts

-- the modes that complete all listed starts
abbrev pub takes_all : TakeMode → Bool
takes_all All = true
takes_all TestAll = true
takes_all mode = false

-- a mode's condition: every listed start is ready, or one is
abbrev pub mode_holds : TakeMode → List Bool → Bool
mode_holds mode flags = if takes_all mode then list_all (λ x. x) flags else list_any (λ x. x) flags

-- the places of the flags that are true, rising; the first flag has place `at`
abbrev pub true_places : ℕ → List Bool → List ℕ
true_places at [] = []
true_places at (flag ∷ flags) = if flag then at ∷ true_places (at + 1) flags else true_places (at + 1) flags

-- one place alone, whose flag is true
abbrev pub IsOne : List Bool → List ℕ → Type 0
IsOne flags indices = (index : ℕ) × (indices ≡ index ∷ []) × (slice_get flags index ≡ Some true)

-- the chosen starts, by their places: any one that is ready, or all that are, rising
abbrev pub AreChosen : TakeMode → List Bool → List ℕ → Type 0
AreChosen AnyOne flags indices = IsOne flags indices
AreChosen TestAny flags indices = IsOne flags indices
AreChosen mode flags indices = indices ≡ true_places 0 flags

-- what a receive gives is a message longer than its room
abbrev pub is_long : Option Call → Got → Bool
is_long (Some (Post comm source tag room)) (Message sender start t ints) = nat_lt room (length ints)
is_long call got = false

-- the first chosen receive whose message is longer than its room
abbrev pub first_long : View → List ℕ → List Item → Option ℕ
first_long own starts [] = None
first_long own starts (item ∷ items) =
    if is_long (start_at own (slice_index starts item.index)) item.got
    then Some (slice_index starts item.index) else first_long own starts items

-- the chosen items, or Truncated where a message is too long
abbrev pub taken_reply : ℕ → Option ℕ → List Item → Reply
taken_reply me None items = Took items
taken_reply me (Some k) items = Stopped (Truncated me k)

-- the reply to a completion whose condition holds
pub record IsCompletionReply (moment : Moment) (starts : List ℕ) (mode : TakeMode) (reply : Reply) : Type 0 where
  pub items : List Item
  pub chosen : AreChosen mode (flags_of moment starts) (map (λ (item : Item). item.index) items)
  pub gots : AreGots moment starts items
  pub reply_is : reply ≡ taken_reply moment.me (first_long moment.own starts items) items

-- what a probe looks for: the rank that asks, the communicator, and the source and tag that it names
pub record Probe : Type 0 where
  pub me : ℕ
  pub comm : ℕ
  pub source : Source
  pub tag : Tag

-- the probe with these parts
abbrev pub probe_of : ℕ → ℕ → Source → Tag → Probe
probe_of me comm source tag = record { me = me; comm = comm; source = source; tag = tag }

-- a probe finds an unpaired Send that it accepts, with no earlier unpaired one of that sender that it accepts
pub record IsPeeked (before : List Event) (probe : Probe) (reply : Reply) : Type 0 where
  pub send : Name
  pub c : ℕ
  pub dest : ℕ
  pub t : ℕ
  pub ints : List ℤ
  pub sync : Bool
  pub sent : named before send ≡ Some (Send c dest t ints sync)
  pub accepted : accepts probe.me probe.comm probe.source probe.tag send.0 (Send c dest t ints sync) ≡ true
  pub unpaired : partner_of (pairs_of before) send ≡ None
  pub first : (start : ℕ) (call : Call) → start < send.1 → named before (send.0, start) ≡ Some call → accepts probe.me probe.comm probe.source probe.tag send.0 call ≡ true → IsTrue (is_some (partner_of (pairs_of before) (send.0, start)))
  pub reply_is : reply ≡ Peeked send.0 send.1 t (length ints)

-- among these starts of a sender, numbered from `start` on, is an unpaired Send that the probe accepts
abbrev pub open_in : List (Name × Name) → Probe → ℕ → ℕ → List Call → Bool
open_in pairs probe sender start [] = false
open_in pairs probe sender start (call ∷ calls) =
    (accepts probe.me probe.comm probe.source probe.tag sender call && not (is_some (partner_of pairs (sender, start))))
    || open_in pairs probe sender (start + 1) calls

-- there is an unpaired Send that the probe accepts
abbrev pub has_open : ℕ → List Event → ℕ → ℕ → Source → Tag → Bool
has_open n before me comm source tag =
    list_any (λ sender. open_in (pairs_of before) (probe_of me comm source tag) sender 0 (starts_of (view_of before sender))) (world n 0)

-- where no halt is due, the call is answered at once, other than by Stuck
abbrev pub is_prompt : ℕ → List Event → ℕ → View → Call → Bool
is_prompt n before me own (Take starts mode) = is_test mode || mode_holds mode (flags_of (moment_of n before me own) starts)
is_prompt n before me own (Peek comm source tag wait) = not wait || has_open n before me comm source tag
is_prompt n before me own call = true

-- a halt is due to the call, or it is answered at once
abbrev pub can_go : ℕ → List Event → ℕ → View → Call → Bool
can_go n before me own call = is_some (due n before me own call) || is_prompt n before me own call

-- no live rank's next call can go
abbrev pub IsStuck : Next → ℕ → List Event → Type 0
IsStuck next n before =
    (rank : ℕ) (call : Call) → rank < n → next n rank (replies_in (view_of before rank)) ≡ Some call
    → can_go n before rank (view_of before rank) call ≡ false

-- the reply where the condition fails: NotYet to a test; Stuck, where nothing can go, to a call that waits
abbrev pub IsHeld : Bool → Type 0 → Reply → Type 0
IsHeld true stuck reply = reply ≡ NotYet
IsHeld false stuck reply = stuck × (reply ≡ Stopped Stuck)

-- the reply to a completion, by whether its condition holds
abbrev pub IsTakeAnswer : Bool → Type 0 → Moment → List ℕ → TakeMode → Reply → Type 0
IsTakeAnswer true stuck moment starts mode reply = IsCompletionReply moment starts mode reply
IsTakeAnswer false stuck moment starts mode reply = IsHeld (is_test mode) stuck reply

-- the reply to a probe, by whether there is a message for it
abbrev pub IsPeekAnswer : Bool → Type 0 → List Event → Probe → Bool → Reply → Type 0
IsPeekAnswer true stuck before probe wait reply = IsPeeked before probe reply
IsPeekAnswer false stuck before probe wait reply = IsHeld (not wait) stuck reply

-- the replies where no halt is due
abbrev pub IsAnswer : Type 0 → Moment → Call → Reply → Type 0
IsAnswer stuck moment (Take starts mode) reply =
    IsTakeAnswer (mode_holds mode (flags_of moment starts)) stuck moment starts mode reply
IsAnswer stuck moment (Peek comm source tag wait) reply =
    IsPeekAnswer (has_open moment.ranks moment.before moment.me comm source tag) stuck moment.before (probe_of moment.me comm source tag) wait reply
IsAnswer stuck moment call reply = reply ≡ Done

-- a halt that is due is the reply; else the call is answered
abbrev pub IsAllowedBy : Option Halt → Type 0 → Moment → Call → Reply → Type 0
IsAllowedBy (Some halt) stuck moment call reply = reply ≡ Stopped halt
IsAllowedBy None stuck moment call reply = IsAnswer stuck moment call reply

-- the replies that are given at once to the call of rank `me`: where what it waits for is there, that
abbrev pub IsPrompt : Next → ℕ → List Event → ℕ → Call → Reply → Type 0
IsPrompt next n before me call reply =
    IsAllowedBy (due n before me (view_of before me) call) (IsStuck next n before) (moment_at n before me) call reply

-- no live rank's next call can go, and no pair can meet (progress: while a receive and a send can meet, the run is not stuck)
abbrev pub IsDeadlock : Next → ℕ → List Event → Type 0
IsDeadlock next n before = IsStuck next n before × NothingWaits (named before) (pairs_of before)

-- a probe finds no message that an earlier receive of its rank accepts, unless that has another: it finds what a receive "executed at
-- the same point in the program" could get
abbrev pub IsPassed : List Event → ℕ → Reply → Type 0
IsPassed before me (Peeked source start tag count) =
    (number : ℕ) → PostAccepts (named before) (me, number) (source, start) → is_some (partner_of (pairs_of before) (me, number)) ≡ true
IsPassed before me reply = Unit {0}

-- Waitsome and Testsome
abbrev pub is_some_mode : TakeMode → Bool
is_some_mode Several = true
is_some_mode TestSeveral = true
is_some_mode mode = false

-- some of the listed starts that are ready, at least one
pub record IsPartReply (moment : Moment) (starts : List ℕ) (mode : TakeMode) (reply : Reply) : Type 0 where
  pub items : List Item
  pub mode_is : is_some_mode mode ≡ true
  pub some : 0 < length items
  pub rising : rise_within 0 (length starts) (map (λ (item : Item). item.index) items) ≡ true
  pub ready : list_all (λ (item : Item). is_ready moment (slice_index starts item.index) (start_at moment.own (slice_index starts item.index))) items ≡ true
  pub gots : AreGots moment starts items
  pub reply_is : reply ≡ taken_reply moment.me (first_long moment.own starts items) items

-- a message that an earlier probe of the rank found is there still: this probe accepts it, it is unpaired, and no earlier receive
-- of the rank accepts it, unless that has another
pub record IsFound (moment : Moment) (comm : ℕ) (source : Source) (tag : Tag) : Type 0 where
  pub send : Name
  pub call : Call
  pub t : ℕ
  pub count : ℕ
  pub found : IsIn (Peeked send.0 send.1 t count) (replies_in moment.own)
  pub sent : named moment.before send ≡ Some call
  pub accepted : accepts moment.me comm source tag send.0 call ≡ true
  pub unpaired : partner_of (pairs_of moment.before) send ≡ None
  pub passed : IsPassed moment.before moment.me (Peeked send.0 send.1 t count)

-- the replies that may be given although there is more: NotYet to a test, or to a probe that does not wait and whose rank has found
-- no such message; a part to Waitsome
-- (MPI 3.1, "Communication Completion", "Multiple Completions", "Probe": a test succeeds in the end, not at once)
abbrev pub IsLate : Moment → Call → Reply → Type 0
IsLate moment (Take starts mode) reply =
    ((is_test mode ≡ true) × (0 < length starts) × (reply ≡ NotYet)) ⊎ IsPartReply moment starts mode reply
IsLate moment (Peek comm source tag wait) reply = (wait ≡ false) × (reply ≡ NotYet) × (IsFound moment comm source tag → ⊥)
IsLate moment call reply = ⊥

-- the allowed replies to the call of rank `me`
abbrev pub IsAllowed : Next → ℕ → List Event → ℕ → Call → Reply → Type 0
IsAllowed next n before me call reply =
    (IsAllowedBy (due n before me (view_of before me) call) (IsDeadlock next n before) (moment_at n before me) call reply × IsPassed before me reply)
    ⊎ ((due n before me (view_of before me) call ≡ None) × IsLate (moment_at n before me) call reply)
