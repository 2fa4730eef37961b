-- What holds of every drawing: it reads from left to right, and it is the same for every order in which the ranks ran.
use Rattle.std.specs.Prelude.{◌≡◌, ◌<◌, ℕ, ℤ, List, Option, Some, Bool, true, false, slice_get}
use Rattle.mpi_call.specs.declared.call.Call.{Call}
use Rattle.mpi_call.specs.declared.call.Call.TheVariants.{Send}
use Rattle.mpi_call.specs.declared.reply.Got.TheVariants.{Message as GotMessage}
use Rattle.mpi_call.specs.declared.reply.Item.{Item}
use Rattle.mpi_call.specs.declared.reply.Reply.TheVariants.{Took}
use Rattle.mpi_call.specs.Lists.{IsIn}
use Rattle.mpi_call.specs.Members.{is_member}
use Rattle.run_model.specs.declared.event.Event.{Event}
use Rattle.run_model.specs.Due.{stops}
use Rattle.run_model.specs.Pairs.{pairs_of, partner_of}
use Rattle.run_model.specs.Run.{IsRun}
use Rattle.run_model.specs.Views.{Next, start_at, taken_of, view_of}
use Rattle.group_plan.specs.Plans.{number_of_ranks}
use Rattle.causes.specs.Before.{IsBefore}
use Rattle.run_drawing.specs.declared.drawing.Arrow.{Arrow}
use Rattle.run_drawing.specs.declared.drawing.DrawnCollective.{DrawnCollective}
use Rattle.run_drawing.specs.declared.drawing.DrawnMark.{DrawnMark}
use Rattle.run_drawing.specs.declared.drawing.DrawnMessage.{DrawnMessage}
use Rattle.run_drawing.specs.declared.drawing.Point.{Point}
use Rattle.run_drawing.specs.declared.drawing.DrawnReceive.{DrawnReceive}
use Rattle.run_drawing.specs.Basis.{Basis}
use Rattle.run_drawing.specs.Columns.{column}
use Rattle.run_drawing.specs.Depths.{AreDepths}
use Rattle.run_drawing.specs.Drawings.{IsDrawing}
use Rattle.run_drawing.specs.Drawn.{Drawn}

-- an event stands to the left of those that it is before, unless it stops its rank; so events of one column are not before each other
abbrev pub ColumnsRise : Type 0
ColumnsRise =
    (basis : Basis) (t u : ℕ) (event : Event) → AreDepths basis.ranks basis.events basis.depths
    → slice_get basis.events t ≡ Some event → stops event.reply ≡ false → IsBefore basis.ranks basis.events t u
    → column basis t < column basis u

-- messages, collectives and probes go right
pub record GoesRight (drawing : Drawn) : Type 0 where
  pub messages : (receive : DrawnReceive) (message : DrawnMessage) → IsIn receive drawing.receives → receive.message ≡ Some message → message.sender.column < receive.to
  pub collectives : (collective : DrawnCollective) (latest : Point) → IsIn collective drawing.collectives → collective.latest ≡ Some latest → latest.column < collective.to
  pub probes : (probe : Arrow) → IsIn probe drawing.probes → probe.from.column < probe.to.column

-- each arrow of a drawing goes right
abbrev pub ArrowsGoRight : Type 0
ArrowsGoRight = (plan : List (List ℕ)) (events : List Event) (drawing : Drawn) → IsDrawing plan events drawing → GoesRight drawing

-- in a run of the program each call of a rank stands to the right of its earlier ones
abbrev pub LanesRise : Next → Type 0
LanesRise next =
    (plan : List (List ℕ)) (events : List Event) (drawing : Drawn) (one other : DrawnMark) → IsRun next (number_of_ranks plan) events → IsDrawing plan events drawing
    → IsIn one drawing.marks → IsIn other drawing.marks → one.rank ≡ other.rank → one.number < other.number → one.column < other.column

-- each rank has seen the same in both
abbrev pub HaveSameViews : List Event → List Event → Type 0
HaveSameViews one other = (rank : ℕ) → view_of one rank ≡ view_of other rank

-- a synchronous send
abbrev pub is_synchronous : Option Call → Bool
is_synchronous (Some (Send comm dest tag ints true)) = true
is_synchronous call = false

-- a rank's start is a synchronous send that some reply completed
pub record IsAwaited (events : List Event) (rank start : ℕ) : Type 0 where
  pub synchronous : is_synchronous (start_at (view_of events rank) start) ≡ true
  pub completed : is_member (taken_of (view_of events rank)) start ≡ true

-- each such send is paired with the same receive in both. Views do not tell it where that receive was not completed: its Post alone
-- let the send complete
abbrev pub HaveSameMates : List Event → List Event → Type 0
HaveSameMates one other =
    (rank start : ℕ) → IsAwaited one rank start → partner_of (pairs_of one) (rank, start) ≡ partner_of (pairs_of other) (rank, start)

-- some reply gives the message of this send
pub record IsReceived (events : List Event) (rank start : ℕ) : Type 0 where
  pub event : Event
  pub items : List Item
  pub item : Item
  pub tag : ℕ
  pub ints : List ℤ
  pub among : IsIn event events
  pub reply : event.reply ≡ Took items
  pub listed : IsIn item items
  pub gives : item.got ≡ GotMessage rank start tag ints

-- the message of each synchronous send that was completed was received
abbrev pub HasAllReceived : List Event → Type 0
HasAllReceived events = (rank start : ℕ) → IsAwaited events rank start → IsReceived events rank start

-- two runs of the program with the same views and the same mates have one drawing
abbrev pub SameDrawing : Next → Type 0
SameDrawing next =
    (plan : List (List ℕ)) (one other : List Event) (drawing another : Drawn) → IsRun next (number_of_ranks plan) one → IsRun next (number_of_ranks plan) other
    → HaveSameViews one other → HaveSameMates one other → IsDrawing plan one drawing → IsDrawing plan other another → drawing ≡ another

-- where all such messages were received, two runs with the same views have the same mates
abbrev pub SameMates : Next → Type 0
SameMates next =
    (n : ℕ) (one other : List Event) → IsRun next n one → IsRun next n other → HaveSameViews one other → HasAllReceived one → HaveSameMates one other
