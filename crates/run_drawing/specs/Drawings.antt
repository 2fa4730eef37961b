-- The drawing of a history: lanes of calls, and what joins them.
use Rattle.std.specs.Prelude.{◌≡◌, ◌+◌, ◌==◌, ℕ, List, [], ◌∷◌, Option, Some, None, Bool, true, false, flat_map, if◌then◌else◌, slice_get, slice_index}
use Rattle.std.specs.List.{list_any}
use Rattle.mpi_call.specs.declared.call.Call.{Call}
use Rattle.mpi_call.specs.declared.call.Call.TheVariants.{Enter, Post, Send}
use Rattle.mpi_call.specs.declared.call.Source.{Source}
use Rattle.mpi_call.specs.declared.call.Source.TheVariants.{Any, Null}
use Rattle.mpi_call.specs.declared.reply.Item.{Item}
use Rattle.mpi_call.specs.declared.reply.Reply.{Reply}
use Rattle.mpi_call.specs.declared.reply.Reply.TheVariants.{Peeked, Took}
use Rattle.mpi_call.specs.Calls.{is_wildcard, listed_by}
use Rattle.run_model.specs.declared.event.Event.{Event}
use Rattle.run_model.specs.Views.{rank_of_event}
use Rattle.causes.specs.Clocks.{TellsBefore}
use Rattle.causes.specs.Positions.{is_event_of, is_start_of, positions, start_position}
use Rattle.group_plan.specs.Plans.{group_of, number_of_ranks}
use Rattle.msg_races.specs.Listing.{lists_below}
use Rattle.run_drawing.specs.declared.choices.Posted.{Posted}
use Rattle.run_drawing.specs.declared.drawing.Arrow.{Arrow}
use Rattle.run_drawing.specs.declared.drawing.DrawnCollective.{DrawnCollective}
use Rattle.run_drawing.specs.declared.drawing.DrawnMark.{DrawnMark}
use Rattle.run_drawing.specs.declared.drawing.DrawnMessage.{DrawnMessage}
use Rattle.run_drawing.specs.declared.drawing.Point.{Point}
use Rattle.run_drawing.specs.declared.drawing.DrawnReceive.{DrawnReceive}
use Rattle.run_drawing.specs.declared.drawing.Unreceived.{Unreceived}
use Rattle.run_drawing.specs.declared.links.CompletedStart.{CompletedStart}
use Rattle.run_drawing.specs.Basis.{Basis}
use Rattle.run_drawing.specs.Choices.{choices, posted_at}
use Rattle.run_drawing.specs.Columns.{column, columns_of, point}
use Rattle.run_drawing.specs.Depths.{AreDepths}
use Rattle.run_drawing.specs.Drawn.{Drawn}
use Rattle.run_drawing.specs.Links.{cause_at, completion_in, last_position, links, taker_in}

-- the same, where there is an event
abbrev pub is_wildcard_in : Option Event → Bool
is_wildcard_in None = false
is_wildcard_in (Some event) = is_wildcard event.call

-- the same, of the start at a position
abbrev pub is_wildcard_at : List Event → Option ℕ → Bool
is_wildcard_at events None = false
is_wildcard_at events (Some p) = is_wildcard_in (slice_get events p)

-- a reply of a rank completes a receive from any source
abbrev pub takes_wildcard : List Event → ℕ → Call → Reply → Bool
takes_wildcard events rank call (Took items) =
    list_any (λ (item : Item). is_wildcard_at events (start_position events rank (slice_index (listed_by call) item.index))) items
takes_wildcard events rank call reply = false

-- the same, of an event
abbrev pub takes_wildcard_in : List Event → Option Event → Bool
takes_wildcard_in events None = false
takes_wildcard_in events (Some event) = takes_wildcard events event.rank event.call event.reply

-- the mark of the event at a position
abbrev pub mark_at : Basis → ℕ → ℕ → ℕ → DrawnMark
mark_at basis rank number p =
    record { rank = rank; number = number; column = column basis p; is_wild = takes_wildcard_in basis.events (slice_get basis.events p) }

-- the marks of a rank's events at these positions, numbered from `number` on
abbrev pub marks_from : Basis → ℕ → ℕ → List ℕ → List DrawnMark
marks_from basis rank number [] = []
marks_from basis rank number (p ∷ places) = mark_at basis rank number p ∷ marks_from basis rank (number + 1) places

-- a mark for each event of a rank
abbrev pub drawn_marks : Basis → ℕ → List DrawnMark
drawn_marks basis rank = marks_from basis rank 0 (positions (is_event_of rank) 0 basis.events)

-- the column of a position, where there is one
abbrev pub column_in : Basis → Option ℕ → ℕ
column_in basis None = 0
column_in basis (Some p) = column basis p

-- the column where the bar of a rank's receive ends: at its completion, else at the rank's last event
abbrev pub bar_end : Basis → ℕ → Option CompletedStart → ℕ
bar_end basis rank None = column_in basis (last_position basis.events rank)
bar_end basis rank (Some link) = column basis link.at

-- a source is any
abbrev pub is_any : Source → Bool
is_any Any = true
is_any source = false

-- what a receive could have taken instead, where it is from any source
abbrev pub wildcard_choices : Basis → Posted → ℕ → ℕ → List Point
wildcard_choices basis posted at took = if is_any posted.source then choices basis posted at took else []

-- the message of the Send at a position, that a receive took
abbrev pub drawn_message : Basis → Posted → ℕ → Option ℕ → Option DrawnMessage
drawn_message basis posted at None = None
drawn_message basis posted at (Some s) =
    Some (record {
      sender = point basis s;
      choices = wildcard_choices basis posted at (rank_of_event (slice_get basis.events s));
    })

-- the message of a completed receive
abbrev pub completed_message : Basis → Posted → Option CompletedStart → Option DrawnMessage
completed_message basis posted None = None
completed_message basis posted (Some link) = drawn_message basis posted link.at link.cause

-- a receive that was posted
abbrev pub drawn_receive : Basis → Posted → Option CompletedStart → DrawnReceive
drawn_receive basis posted completion = record {
  rank = posted.rank;
  from = column basis posted.place;
  to = bar_end basis posted.rank completion;
  is_wild = is_any posted.source;
  message = completed_message basis posted completion;
}

-- the same, where the call is a receive, but for one from the null process
abbrev pub receive_by : Basis → ℕ → ℕ → Call → List DrawnReceive
receive_by basis p rank (Post comm Null tag room) = []
receive_by basis p rank (Post comm source tag room) = drawn_receive basis (posted_at p rank comm source tag) (completion_in (links basis) p) ∷ []
receive_by basis p rank call = []

-- the same, of the event at a position
abbrev pub receive_in : Basis → ℕ → Option Event → List DrawnReceive
receive_in basis p None = []
receive_in basis p (Some event) = receive_by basis p event.rank event.call

-- the receive that the event at a position completes
abbrev pub receive_at : Basis → ℕ → List DrawnReceive
receive_at basis p = receive_in basis p (slice_get basis.events p)

-- the last Enter that a completion had to wait for, unless it is the rank's own, at position p
abbrev pub latest_of : Basis → ℕ → Option ℕ → Option Point
latest_of basis p None = None
latest_of basis p (Some q) = if q == p then None else Some (point basis q)

-- a collective that a rank entered at position p and completed
abbrev pub collective_of : Basis → ℕ → ℕ → Option CompletedStart → List DrawnCollective
collective_of basis p rank None = []
collective_of basis p rank (Some link) = (record {
  rank = rank;
  from = column basis p;
  to = column basis link.at;
  latest = latest_of basis p link.cause;
}) ∷ []

-- the same, where the call is a collective
abbrev pub collective_by : Basis → ℕ → ℕ → Call → List DrawnCollective
collective_by basis p rank (Enter comm kind root op count ints) = collective_of basis p rank (completion_in (links basis) p)
collective_by basis p rank call = []

-- the same, of the event at a position
abbrev pub collective_in : Basis → ℕ → Option Event → List DrawnCollective
collective_in basis p None = []
collective_in basis p (Some event) = collective_by basis p event.rank event.call

-- the collective call that the event at a position completes
abbrev pub collective_at : Basis → ℕ → List DrawnCollective
collective_at basis p = collective_in basis p (slice_get basis.events p)

-- a Send whose message no receive took
abbrev pub unreceived_of : Basis → ℕ → ℕ → ℕ → Option CompletedStart → List Unreceived
unreceived_of basis p rank receiver None = (record { rank = rank; column = column basis p; receiver = receiver }) ∷ []
unreceived_of basis p rank receiver (Some link) = []

-- the same, where the call is a Send
abbrev pub unreceived_by : Basis → ℕ → ℕ → Call → List Unreceived
unreceived_by basis p rank (Send comm dest tag ints sync) = unreceived_of basis p rank dest (taker_in (links basis) p)
unreceived_by basis p rank call = []

-- the same, of the event at a position
abbrev pub unreceived_in : Basis → ℕ → Option Event → List Unreceived
unreceived_in basis p None = []
unreceived_in basis p (Some event) = unreceived_by basis p event.rank event.call

-- the message that the event at a position sends and that nobody took
abbrev pub unreceived_at : Basis → ℕ → List Unreceived
unreceived_at basis p = unreceived_in basis p (slice_get basis.events p)

-- an arrow from one position to another, where there is one
abbrev pub arrow_from : Basis → Option ℕ → ℕ → List Arrow
arrow_from basis None p = []
arrow_from basis (Some s) p = (record { from = point basis s; to = point basis p }) ∷ []

-- a message that a probe found
abbrev pub probe_by : Basis → ℕ → Reply → List Arrow
probe_by basis p (Peeked source start tag count) = arrow_from basis (cause_at basis.ranks basis.events basis.depths p) p
probe_by basis p reply = []

-- the same, of the event at a position
abbrev pub probe_in : Basis → ℕ → Option Event → List Arrow
probe_in basis p None = []
probe_in basis p (Some event) = probe_by basis p event.reply

-- the message that the event at a position finds
abbrev pub probe_at : Basis → ℕ → List Arrow
probe_at basis p = probe_in basis p (slice_get basis.events p)

-- what a function gives for the starts of a rank
abbrev pub of_starts : {A : Type 0} → (ℕ → List A) → List Event → ℕ → List A
of_starts at events rank = flat_map at (positions (is_start_of rank) 0 events)

-- what a function gives for the events of a rank
abbrev pub of_events : {A : Type 0} → (ℕ → List A) → List Event → ℕ → List A
of_events at events rank = flat_map at (positions (is_event_of rank) 0 events)

-- the group of each rank
abbrev pub rank_groups : List (List ℕ) → List ℕ
rank_groups plan = lists_below (λ rank. group_of rank plan ∷ []) (number_of_ranks plan)

-- the drawing
abbrev pub drawn : List (List ℕ) → Basis → Drawn
drawn plan basis = record {
  groups = rank_groups plan;
  columns = columns_of basis.events basis.depths;
  marks = lists_below (drawn_marks basis) basis.ranks;
  receives = lists_below (of_starts (receive_at basis) basis.events) basis.ranks;
  collectives = lists_below (of_starts (collective_at basis) basis.events) basis.ranks;
  probes = lists_below (of_events (probe_at basis) basis.events) basis.ranks;
  unreceived = lists_below (of_starts (unreceived_at basis) basis.events) basis.ranks;
}

-- the drawing of a history of ranks in groups: by the depths of its events, and by what is before what
pub record IsDrawing (plan : List (List ℕ)) (events : List Event) (drawing : Drawn) : Type 0 where
  pub depths : List ℕ
  pub before : ℕ → ℕ → Bool
  pub are_depths : AreDepths (number_of_ranks plan) events depths
  pub tells : TellsBefore before (number_of_ranks plan) events
  pub is : drawing ≡ drawn plan (record { ranks = number_of_ranks plan; events = events; depths = depths; before = before })
