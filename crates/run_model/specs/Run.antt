-- The runs that the matching rules allow.
use Rattle.std.specs.Prelude.{◌≡◌, ◌<◌, ◌≤◌, ℕ, List, [], ◌∷◌, ◌++◌, Some, None, false, ◌==◌, slice_index, IsTrue}
use Rattle.mpi_call.specs.declared.call.Call.{Call}
use Rattle.mpi_call.specs.declared.reply.Got.{Got}
use Rattle.mpi_call.specs.declared.reply.Got.TheVariants.{Made}
use Rattle.mpi_call.specs.declared.reply.Item.{Item}
use Rattle.mpi_call.specs.declared.reply.Reply.{Reply}
use Rattle.mpi_call.specs.declared.reply.Reply.TheVariants.{Took}
use Rattle.mpi_call.specs.declared.limits.TheConstants.{MOST_RANKS}
use Rattle.mpi_call.specs.Calls.{comm_of, listed_by}
use Rattle.mpi_call.specs.Collectives.{colour_of}
use Rattle.mpi_call.specs.Lists.{IsIn}
use Rattle.run_model.specs.declared.event.Event.{Event}
use Rattle.run_model.specs.Lists.{Along}
use Rattle.run_model.specs.Views.{View, Next, view_of, replies_in, start_at, is_start}
use Rattle.run_model.specs.Communicators.{instance_of}
use Rattle.run_model.specs.Pairs.{Name, MeetInTurn, IsAllMatched, mated, name_at, named, pairs_of, partner_of}
use Rattle.run_model.specs.Allowed.{IsAllowed, IsPrompt}

-- the communicators that a view made: each number, with the number of the Enter that made it
abbrev pub numbers_made : ℕ → Got → List (ℕ × ℕ)
numbers_made k (Made comm members) = (comm, k) ∷ []
numbers_made k got = []

-- the same, of the items of a completion
abbrev pub numbers_in_items : List ℕ → List Item → List (ℕ × ℕ)
numbers_in_items starts [] = []
numbers_in_items starts (item ∷ items) = numbers_made (slice_index starts item.index) item.got ++ numbers_in_items starts items

-- the same, of a reply
abbrev pub numbers_in_reply : Call → Reply → List (ℕ × ℕ)
numbers_in_reply call (Took items) = numbers_in_items (listed_by call) items
numbers_in_reply call reply = []

-- the same, of a view
abbrev pub numbers_in_view : View → List (ℕ × ℕ)
numbers_in_view [] = []
numbers_in_view ((call, reply) ∷ view) = numbers_in_reply call reply ++ numbers_in_view view

-- an Enter of a rank: the rank, its number among the rank's starts, and the call
pub record Entrance : Type 0 where
  pub rank : ℕ
  pub start : ℕ
  pub enter : Call

-- the Enter with these parts
abbrev pub entrance_of : ℕ → ℕ → Call → Entrance
entrance_of rank start enter = record { rank = rank; start = start; enter = enter }

-- two Enters are of one instance and, for Split, of one colour
pub record SameOrigin (views : ℕ → View) (one other : Entrance) : Type 0 where
  pub comm : comm_of one.enter ≡ comm_of other.enter
  pub instance : instance_of (views one.rank) one.start (comm_of one.enter) ≡ instance_of (views other.rank) other.start (comm_of other.enter)
  pub colour : colour_of one.enter ≡ colour_of other.enter

-- two Made replies, with numbers above 0, for an Enter and for another
pub record MadeTwo (views : ℕ → View) (one : Entrance) (number : ℕ) (other : Entrance) (number' : ℕ) : Type 0 where
  pub first : IsIn (number, one.start) (numbers_in_view (views one.rank))
  pub second : IsIn (number', other.start) (numbers_in_view (views other.rank))
  pub first_new : (number == 0) ≡ false
  pub second_new : (number' == 0) ≡ false
  pub first_enter : start_at (views one.rank) one.start ≡ Some one.enter
  pub second_enter : start_at (views other.rank) other.start ≡ Some other.enter

-- they have the same number if and only if they have the same origin
pub record AreNumbered (views : ℕ → View) : Type 0 where
  pub origin : (rank number start rank' number' start' : ℕ) (enter enter' : Call)
      → MadeTwo views (entrance_of rank start enter) number (entrance_of rank' start' enter') number'
      → number ≡ number' → SameOrigin views (entrance_of rank start enter) (entrance_of rank' start' enter')
  pub number : (rank number start rank' number' start' : ℕ) (enter enter' : Call)
      → MadeTwo views (entrance_of rank start enter) number (entrance_of rank' start' enter') number'
      → SameOrigin views (entrance_of rank start enter) (entrance_of rank' start' enter') → number ≡ number'

-- a mate is the position of an earlier unpaired start, and only a start has one
abbrev pub HasMate : List Event → Event → Type 0
HasMate before event = elim event.mate [
  | None ↦ Unit {0}
  | Some at ↦ (name : Name) × (name_at before at ≡ Some name) × (partner_of (pairs_of before) name ≡ None) × IsTrue (is_start (event.call, event.reply))
]

-- an event after others: the call is the program's next (the run is faithful), the reply is allowed, its pairs meet one after the
-- other, and after it the new communicators are numbered
pub record IsEvent (next : Next) (n : ℕ) (before : List Event) (event : Event) : Type 0 where
  pub rank : event.rank < n
  pub call : next n event.rank (replies_in (view_of before event.rank)) ≡ Some event.call
  pub reply : IsAllowed next n before event.rank event.call event.reply
  pub mate : HasMate before event
  pub meets : MeetInTurn (named (before ++ event ∷ [])) (pairs_of before ++ mated before event) event.met
  pub numbered : AreNumbered (view_of (before ++ event ∷ []))

-- a run, finished or not, of a program on n ranks
pub record IsRun (next : Next) (n : ℕ) (events : List Event) : Type 0 where
  pub some : 0 < n
  pub few : n ≤ MOST_RANKS
  pub along : Along (IsEvent next n) [] events

-- an event in which nothing is late: the reply is the one at once, a start meets at once what accepts it, and nothing else meets
pub record IsPromptEvent (next : Next) (n : ℕ) (before : List Event) (event : Event) : Type 0 where
  pub rank : event.rank < n
  pub call : next n event.rank (replies_in (view_of before event.rank)) ≡ Some event.call
  pub reply : IsPrompt next n before event.rank event.call event.reply
  pub mate : HasMate before event
  pub alone : event.met ≡ []
  pub matched : IsAllMatched (before ++ event ∷ [])
  pub numbered : AreNumbered (view_of (before ++ event ∷ []))

-- a run in which nothing is late
pub record IsPromptRun (next : Next) (n : ℕ) (events : List Event) : Type 0 where
  pub some : 0 < n
  pub few : n ≤ MOST_RANKS
  pub along : Along (IsPromptEvent next n) [] events
