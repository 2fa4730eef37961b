-- Attempts that pick an index.
use Rattle.std.proofs.Common.{◌≡◌, ◌≢◌, ◌∙◌, Bool, List, None, Option, Some, [], ap, is_some, not, refl, true, ℕ}
use Rattle.std.proofs.lemmas.Bool.{and_parts}
use Rattle.mpi_call.specs.declared.call.Call.{Call}
use Rattle.mpi_call.specs.declared.call.Call.TheVariants.{Take}
use Rattle.mpi_call.specs.declared.call.Halt.{Halt}
use Rattle.mpi_call.specs.declared.call.TakeMode.{TakeMode}
use Rattle.mpi_call.specs.declared.call.TakeMode.TheVariants.{All, Any as AnyOne, Several, TestAll, TestAny, TestSeveral}
use Rattle.mpi_call.specs.declared.reply.Item.{Item}
use Rattle.mpi_call.specs.declared.reply.Reply.{Reply}
use Rattle.run_model.specs.declared.event.Event.{Event}
use Rattle.run_model.specs.Allowed.{flags_of}
use Rattle.run_model.specs.Chosen.{halt_or}
use Rattle.run_model.specs.Due.{bad_request, due}
use Rattle.run_model.specs.Views.{Next, moment_at, view_of}
use Rattle.picked_runs.specs.declared.turn.Pick.{Pick}
use Rattle.picked_runs.specs.declared.turn.Pick.TheVariants.{First, Index}
use Rattle.picked_runs.specs.Picks.{completes_one, has_pick, is_ready_at, picked_answer, picked_reply}
use Rattle.picked_runs.proofs.Making.{has_it}
use Rattle.requests.specs.declared.requests.TakeAnswer.{TakeAnswer}
use Rattle.requests.specs.declared.requests.TakeAnswer.TheVariants.{Took, NotReady, TooLong, BadStart}
use Rattle.requests.specs.Histories.{AnswersAt, IsTakenAt}
use Rattle.requests.specs.Taking.{takes_one}
use Rattle.mpi_machine.specs.Courses.{bound_of}
use Rattle.mpi_machine.specs.Made.{IsMadeByPicks}
use Rattle.mpi_machine.specs.Picking.{HasPicked, IsWritten}
use Rattle.mpi_machine.specs.Turns.{IsAsked}
use Rattle.mpi_machine.proofs.Answering.{no_some, not_true, take_free}
use Rattle.mpi_machine.proofs.Picking.{both}
use Rattle.mpi_machine.proofs.Written.{has_written}

pub index_apart : (index : ℕ) → Index index ≢ First
index_apart index = λ e. (let no : Index index ≡ First = e in cc)

completes : (starts : List ℕ) (mode : TakeMode) → completes_one (Take starts mode) ≡ takes_one mode
completes starts All = refl
completes starts AnyOne = refl
completes starts Several = refl
completes starts TestAll = refl
completes starts TestAny = refl
completes starts TestSeveral = refl

at_free : (n : ℕ) (events : List Event) (rank : ℕ) (starts : List ℕ) (mode : TakeMode) (index : ℕ) (reply : Reply) → bound_of events ≡ None
    → IsTakenAt n events rank starts index reply → due n events rank (view_of events rank) (Take starts mode) ≡ None
at_free n events rank starts mode index reply free taken =
    let bad : Option ℕ = bad_request (view_of events rank) [] starts in
    let parts = and_parts (not (is_some bad)) (is_ready_at (flags_of (moment_at n events rank) starts) index) taken.can in
    take_free n events rank starts mode free (no_some bad (not_true (is_some bad) parts.0))

pub at_offered : (n : ℕ) (events : List Event) (rank : ℕ) (starts : List ℕ) (mode : TakeMode) (index : ℕ) (reply : Reply) → bound_of events ≡ None
    → takes_one mode ≡ true → IsTakenAt n events rank starts index reply → has_pick n events rank (Take starts mode) (Index index) ≡ true
at_offered n events rank starts mode index reply free one taken =
    let call : Call = Take starts mode in
    let ready : Bool = is_ready_at (flags_of (moment_at n events rank) starts) index in
    let parts = and_parts (not (is_some (bad_request (view_of events rank) [] starts))) ready taken.can in
    has_it n events rank call (Index index) (at_free n events rank starts mode index reply free taken) (both (completes_one call) ready (completes starts mode ∙ one) parts.1)

-- what its completion answers
pub at_reply : (n : ℕ) (events : List Event) (rank : ℕ) (starts : List ℕ) (mode : TakeMode) (index : ℕ) (reply : Reply) → bound_of events ≡ None
    → takes_one mode ≡ true → IsTakenAt n events rank starts index reply → picked_reply n events rank (Take starts mode) (Index index) ≡ reply
at_reply n events rank starts mode index reply free one taken =
    ap (λ (o : Option Halt). halt_or o (picked_answer n events rank (view_of events rank) (Take starts mode) (Index index))) (at_free n events rank starts mode index reply free taken)
    ∙ taken.reply_is mode one

-- a start that can be taken is what the call picks, with what is written down of it
pub at_picks : (next : Next) (n : ℕ) (picks : List Pick) (events : List Event) (rank : ℕ) (starts : List ℕ) (mode : TakeMode) (index : ℕ) (written : Pick) (reply : Reply) → IsMadeByPicks next n picks events
    → IsAsked next n events rank (Take starts mode) → bound_of events ≡ None → takes_one mode ≡ true → IsTakenAt n events rank starts index reply
    → (has_pick n events rank (Take starts mode) (Index index) ≡ true → IsWritten n events rank (Take starts mode) (Index index) written)
    → HasPicked next (moment_at n events rank) (Take starts mode) written reply
at_picks next n picks events rank starts mode index written reply made asked free one taken is =
    let offered = at_offered n events rank starts mode index reply free one taken in
    has_written next n picks events rank (Take starts mode) (Index index) written reply made asked (index_apart index) offered
    (at_reply n events rank starts mode index reply free one taken) (is offered)

-- there is no answer but these
pub no_other : (n : ℕ) (events : List Event) (rank : ℕ) (starts : List ℕ) (index : ℕ) (answer : TakeAnswer) → AnswersAt n events rank starts index (Some answer)
    → ((items : List Item) → answer ≡ Took items → ⊥) → ((start : ℕ) → answer ≡ TooLong start → ⊥) → ⊥
no_other n events rank starts index (Took items) is took long = took items refl
no_other n events rank starts index (TooLong start) is took long = long start refl
no_other n events rank starts index NotReady is took long = is
no_other n events rank starts index (BadStart start) is took long = is
