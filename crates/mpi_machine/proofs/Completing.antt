-- What a completion answers, and which of its answers take memory.
use Rattle.std.proofs.Common.{◌≡◌, Err, IsOk, List, None, Ok, Option, Result, false, refl, subst, true, ℕ}
use Rattle.mpi_call.specs.declared.call.Call.{Call}
use Rattle.mpi_call.specs.declared.call.Call.TheVariants.{Take}
use Rattle.mpi_call.specs.declared.call.Halt.TheVariants.{BadRequest, Truncated}
use Rattle.mpi_call.specs.declared.call.TakeMode.{TakeMode}
use Rattle.mpi_call.specs.declared.reply.Item.{Item}
use Rattle.mpi_call.specs.declared.reply.Reply.TheVariants.{Stopped, Took as TookReply}
use Rattle.requests.specs.declared.requests.TakeAnswer.{TakeAnswer}
use Rattle.requests.specs.declared.requests.TakeAnswer.TheVariants.{Took, NotReady, TooLong, BadStart}
use Rattle.requests.specs.Histories.{Answers, KnowsHistory}
use Rattle.requests.specs.States.{MatchingState}
use Rattle.requests.specs.Taking.{answer_in, hands_out}
use Rattle.requests.proofs.Taking.{answers_are}
use Rattle.run_model.specs.declared.event.Event.{Event}
use Rattle.run_model.specs.Chosen.{chosen_reply}
use Rattle.run_model.specs.Shape.{is_test}
use Rattle.run_model.specs.Views.{Next, moment_at}
use Rattle.mpi_machine.specs.Courses.{bound_of}
use Rattle.mpi_machine.specs.Turns.{HasReply, IsAsked, IsHeldBack, takes_no_memory}
use Rattle.mpi_machine.proofs.Answering.{bad_answered, has_reply, take_answered, take_held}
use Rattle.mpi_machine.proofs.Moving.{more_takes}

pub took_has : (next : Next) (n : ℕ) (events : List Event) (kept : List (Option Call)) (rank : ℕ) (starts : List ℕ) (mode : TakeMode) (items : List Item)
    → IsAsked next n events rank (Take starts mode) → bound_of events ≡ None → Answers n events rank starts mode (Took items)
    → HasReply next (moment_at n events rank) kept (Take starts mode) (TookReply items)
took_has next n events kept rank starts mode items asked free a =
    has_reply next n events kept rank (Take starts mode) (TookReply items) asked
    (take_answered n events rank starts mode (TookReply items) free a.0 a.1 a.2)

pub long_has : (next : Next) (n : ℕ) (events : List Event) (kept : List (Option Call)) (rank : ℕ) (starts : List ℕ) (mode : TakeMode) (k : ℕ)
    → IsAsked next n events rank (Take starts mode) → bound_of events ≡ None → Answers n events rank starts mode (TooLong k)
    → HasReply next (moment_at n events rank) kept (Take starts mode) (Stopped (Truncated rank k))
long_has next n events kept rank starts mode k asked free a =
    has_reply next n events kept rank (Take starts mode) (Stopped (Truncated rank k)) asked
    (take_answered n events rank starts mode (Stopped (Truncated rank k)) free a.0 a.1 a.2)

pub bad_has : (next : Next) (n : ℕ) (events : List Event) (kept : List (Option Call)) (rank : ℕ) (starts : List ℕ) (mode : TakeMode) (k : ℕ)
    → IsAsked next n events rank (Take starts mode) → bound_of events ≡ None → Answers n events rank starts mode (BadStart k)
    → HasReply next (moment_at n events rank) kept (Take starts mode) (Stopped (BadRequest rank k))
bad_has next n events kept rank starts mode k asked free a =
    has_reply next n events kept rank (Take starts mode) (Stopped (BadRequest rank k)) asked (bad_answered n events rank starts mode k free a)

pub unready_held : (n : ℕ) (events : List Event) (rank : ℕ) (starts : List ℕ) (mode : TakeMode) → bound_of events ≡ None → Answers n events rank starts mode NotReady
    → IsHeldBack n events rank (Take starts mode) (is_test mode)
unready_held n events rank starts mode free a = take_held n events rank starts mode free a.0 a.1

sure_by : (n : ℕ) (events : List Event) (rank : ℕ) (starts : List ℕ) (mode : TakeMode) (answer : TakeAnswer) → Answers n events rank starts mode answer
    → bound_of events ≡ None → takes_no_memory events (Take starts mode) (chosen_reply n events rank (Take starts mode)) ≡ true → hands_out answer ≡ false
sure_by n events rank starts mode (Took items) a free t =
    let is = (take_answered n events rank starts mode (TookReply items) free a.0 a.1 a.2).reply_is in
    let no = more_takes events (Take starts mode) (TookReply items) (chosen_reply n events rank (Take starts mode)) is refl t in
    absurd (cc)
sure_by n events rank starts mode NotReady a free t = refl
sure_by n events rank starts mode (TooLong k) a free t = refl
sure_by n events rank starts mode (BadStart k) a free t = refl

pub take_sure : (n : ℕ) (events : List Event) (state : MatchingState) (rank : ℕ) (starts : List ℕ) (mode : TakeMode) → KnowsHistory n events state → bound_of events ≡ None
    → takes_no_memory events (Take starts mode) (chosen_reply n events rank (Take starts mode)) ≡ true → hands_out (answer_in state.table rank starts mode) ≡ false
take_sure n events state rank starts mode knows free t =
    sure_by n events rank starts mode (answer_in state.table rank starts mode) (answers_are n events state rank starts mode knows) free t

pub took_sure : (n : ℕ) (events : List Event) (state : MatchingState) (rank : ℕ) (starts : List ℕ) (mode : TakeMode) (items : List Item)
    → KnowsHistory n events state → bound_of events ≡ None → answer_in state.table rank starts mode ≡ Took items
    → takes_no_memory events (Take starts mode) (chosen_reply n events rank (Take starts mode)) ≡ true → true ≡ false
took_sure n events state rank starts mode items knows free answer t =
    let F : TakeAnswer → Type 0 = λ a. hands_out a ≡ false in
    subst F answer (take_sure n events state rank starts mode knows free t)

pub no_ok : {T E : Type 0} (result : Result T E) (error : E) → result ≡ Err error → IsOk result → false ≡ true
no_ok (Ok value) error is ok = absurd (cc)
no_ok (Err other) error is ok = ok
