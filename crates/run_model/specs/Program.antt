-- What every program keeps, and what a rank that runs one stands for.
use Rattle.std.specs.Prelude.{◌≡◌, ◌<◌, ◌≤◌, ◌^◌, ◌↔◌, ℕ, List, [], ◌++◌, Option, Some, None, Bool, true, false, All, IfSome, length}
use Rattle.std.specs.List.{list_any}
use Rattle.mpi_call.specs.declared.call.Call.{Call}
use Rattle.mpi_call.specs.declared.call.Call.TheVariants.{Send, Post, Enter, Take, Peek, End}
use Rattle.mpi_call.specs.declared.call.Source.{Source}
use Rattle.mpi_call.specs.declared.call.Source.TheVariants.{From}
use Rattle.mpi_call.specs.declared.call.Tag.{Tag}
use Rattle.mpi_call.specs.declared.call.Tag.TheVariants.{Is}
use Rattle.mpi_call.specs.declared.reply.Reply.{Reply}
use Rattle.mpi_call.specs.declared.reply.Reply.TheVariants.{Done, Stopped}
use Rattle.mpi_call.specs.declared.limits.TheConstants.{MOST_INTS, MOST_RANKS, MOST_RESULT_INTS, MOST_STARTS}
use Rattle.mpi_call.specs.Collectives.{IsEnterOf, result_length}
use Rattle.run_model.specs.declared.event.Event.{Event}
use Rattle.run_model.specs.declared.program.Want.{Want}
use Rattle.run_model.specs.declared.program.Want.TheVariants.{Ask, Ended}
use Rattle.run_model.specs.Lists.{Along, IsPrefixOf}
use Rattle.run_model.specs.Views.{View, Next, replies_in, view_of}
use Rattle.run_model.specs.Communicators.{known_in}
use Rattle.run_model.specs.Shape.{has_shape}

-- one more call of a rank: the program's next, with a reply in its shape
pub record IsNextSeen (next : Next) (n rank : ℕ) (before : View) (seen : Call × Reply) : Type 0 where
  pub asked : next n rank (replies_in before) ≡ Some seen.0
  pub shaped : has_shape n rank before seen.0 seen.1 ≡ true

-- a view that the program's rank can come to: replies in shape
abbrev pub IsViewOf : Next → ℕ → ℕ → View → Type 0
IsViewOf next n rank view = Along (IsNextSeen next n rank) [] view

-- what ends a rank
abbrev pub ends : Call × Reply → Bool
ends (call, Stopped halt) = true
ends (End, Done) = true
ends (call, reply) = false

-- the number of ranks and a rank
abbrev pub IsRankOf : ℕ → ℕ → Type 0
IsRankOf n rank = (0 < n) × (n ≤ MOST_RANKS) × (rank < n)

-- first law: a rank makes no call if and only if it ended by Done to End or was Stopped
abbrev pub EndsExactly : Next → Type 0
EndsExactly next =
    (n rank : ℕ) (view : View) → IsRankOf n rank → IsViewOf next n rank view
    → (next n rank (replies_in view) ≡ None) ↔ (list_any ends view ≡ true)

-- second law: what is printed stays printed
abbrev pub PrintsOn : Next → (ℕ → ℕ → List Reply → List ℕ) → Type 0
PrintsOn next output =
    (n rank : ℕ) (view more : View) → IsRankOf n rank → IsViewOf next n rank (view ++ more)
    → IsPrefixOf (output n rank (replies_in view)) (output n rank (replies_in (view ++ more)))

-- a rank that is named as a source is below n
abbrev pub IsSourceBelow : ℕ → Source → Type 0
IsSourceBelow n (From rank) = rank < n
IsSourceBelow n source = Unit {0}

-- a tag that is asked for is in bounds
abbrev pub IsTagInBounds : Tag → Type 0
IsTagInBounds (Is tag) = tag < 2 ^ 31
IsTagInBounds tag = Unit {0}

-- ranks are below n, tags are below 2 ^ 31 (that is, at most `GREATEST_TAG`), a message is not too long; a Take lists at
-- least one start and not too many, and each number is small while the rank got few replies
abbrev pub IsCallInBounds : ℕ → ℕ → Call → Type 0
IsCallInBounds n got (Send comm dest tag ints sync) = (dest < n) × (tag < 2 ^ 31) × (length ints ≤ MOST_INTS)
IsCallInBounds n got (Post comm source tag room) = IsSourceBelow n source × IsTagInBounds tag
IsCallInBounds n got (Enter comm kind root op count ints) = IfSome root (λ rank. rank < n)
IsCallInBounds n got (Take starts mode) =
    (0 < length starts) × (length starts ≤ MOST_STARTS) × (got < MOST_STARTS → All (λ k. k < MOST_STARTS) starts)
IsCallInBounds n got (Peek comm source tag wait) = IsSourceBelow n source × IsTagInBounds tag
IsCallInBounds n got call = Unit {0}

-- third law: calls are in bounds
abbrev pub AsksInBounds : Next → Type 0
AsksInBounds next =
    (n rank : ℕ) (view : View) (call : Call) → IsRankOf n rank → IsViewOf next n rank view
    → next n rank (replies_in view) ≡ Some call → IsCallInBounds n (length view) call

-- an Enter's communicator is known to the rank, the Enter is as the tables state for it, and its result is not too long
abbrev pub IsInForm : ℕ → ℕ → View → Call → Type 0
IsInForm n me own (Enter comm kind root op count ints) =
    (members : List ℕ) × (known_in n own comm ≡ Some members)
    × IsEnterOf (Enter comm kind root op count ints) members me
    × (result_length (Enter comm kind root op count ints) members me ≤ MOST_RESULT_INTS)
IsInForm n me own call = Unit {0}

-- fourth law: each Enter is in form
abbrev pub EntersInForm : Next → Type 0
EntersInForm next =
    (n rank : ℕ) (view : View) (call : Call) → IsRankOf n rank → IsViewOf next n rank view
    → next n rank (replies_in view) ≡ Some call → IsInForm n rank view call

-- what is wanted is this call, or that there is none
abbrev pub Says : Want → Option Call → Type 0
Says (Ask call) next = next ≡ Some call
Says Ended next = next ≡ None

-- a rank that runs a program: `asked` tells that its next call was handed out since the last reply
pub record Standing (P : Type 0) : Type 0 where
  pub program : P
  pub ranks : ℕ
  pub rank : ℕ
  pub replies : List Reply
  pub asked : Bool

-- the reply may be given: the rank came here by replies in shape, and this one has the shape of its next call
pub record MayGive (next : Next) (n rank : ℕ) (replies : List Reply) (reply : Reply) : Type 0 where
  pub view : View
  pub call : Call
  pub replies_are : replies_in view ≡ replies
  pub came : IsViewOf next n rank view
  pub asked : next n rank replies ≡ Some call
  pub shaped : has_shape n rank view call reply ≡ true

-- the rank of this program after these events
pub record IsAfter {P : Type 0} (program : P) (n rank : ℕ) (events : List Event) (standing : Standing P) : Type 0 where
  pub same_program : standing.program ≡ program
  pub ranks : standing.ranks ≡ n
  pub rank_is : standing.rank ≡ rank
  pub replies_are : standing.replies ≡ replies_in (view_of events rank)
