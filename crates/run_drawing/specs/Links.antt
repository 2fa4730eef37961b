-- Links: the starts that were completed, where, and the last event that each had to wait for.
use Rattle.std.specs.Prelude.{◌==◌, ◌-◌, ℕ, suc, List, [], ◌∷◌, ◌++◌, Option, Some, None, find, if◌then◌else◌, length, nat_lt, slice_get, slice_index, take}
use Rattle.mpi_call.specs.declared.call.Call.{Call}
use Rattle.mpi_call.specs.declared.reply.Item.{Item}
use Rattle.mpi_call.specs.declared.reply.Reply.{Reply}
use Rattle.mpi_call.specs.declared.reply.Reply.TheVariants.{Took}
use Rattle.mpi_call.specs.Calls.{listed_by}
use Rattle.run_model.specs.declared.event.Event.{Event}
use Rattle.causes.specs.Positions.{is_event_of, is_at_position, positions, start_position}
use Rattle.causes.specs.Steps.{completed_from, rests_on}
use Rattle.msg_races.specs.Listing.{lists_below}
use Rattle.run_drawing.specs.declared.links.CompletedStart.{CompletedStart}
use Rattle.run_drawing.specs.Basis.{Basis}

-- the deeper of two positions, the first where they are equally deep
abbrev pub deeper : List ℕ → Option ℕ → Option ℕ → Option ℕ
deeper depths None other = other
deeper depths (Some p) None = Some p
deeper depths (Some p) (Some q) = if nat_lt (slice_index depths p) (slice_index depths q) then Some q else Some p

-- a position that has a depth
abbrev pub with_depth : List ℕ → ℕ → Option ℕ
with_depth depths p = if nat_lt p (length depths) then Some p else None

-- the deepest of these positions, the first of those that are equally deep
abbrev pub deepest : List ℕ → List ℕ → Option ℕ
deepest depths [] = None
deepest depths (p ∷ places) = deeper depths (with_depth depths p) (deepest depths places)

-- one more than the depth of a position, where there is one
abbrev pub depth_after : List ℕ → Option ℕ → ℕ
depth_after depths None = 0
depth_after depths (Some p) = suc (slice_index depths p)

-- the last of a rank's events
abbrev pub last_position : List Event → ℕ → Option ℕ
last_position events rank = slice_get (positions (is_event_of rank) 0 events) (length (positions (is_event_of rank) 0 events) - 1)

-- the link of the start at a position, where there is one
abbrev pub link_by : Option ℕ → ℕ → Option ℕ → List CompletedStart
link_by None at cause = []
link_by (Some start) at cause = (record { start = start; at = at; cause = cause }) ∷ []

-- the links of a rank's starts that these items complete, after the events before, whose depths are given
abbrev pub links_in : ℕ → List ℕ → List Event → ℕ → List ℕ → List Item → List CompletedStart
links_in n depths before me starts [] = []
links_in n depths before me starts (item ∷ items) =
    link_by (start_position before me (slice_index starts item.index)) (length before)
    (deepest depths (completed_from n before me (slice_index starts item.index) item.got))
    ++ links_in n depths before me starts items

-- the same, of a reply
abbrev pub links_by : ℕ → List ℕ → List Event → ℕ → Call → Reply → List CompletedStart
links_by n depths before me call (Took items) = links_in n depths before me (listed_by call) items
links_by n depths before me call reply = []

-- the same, of an event
abbrev pub event_links : ℕ → List ℕ → List Event → Option Event → List CompletedStart
event_links n depths before None = []
event_links n depths before (Some event) = links_by n depths before event.rank event.call event.reply

-- the same, of the event at a position
abbrev pub links_at : ℕ → List Event → List ℕ → ℕ → List CompletedStart
links_at n events depths p = event_links n (take p depths) (take p events) (slice_get events p)

-- all links
abbrev pub links : Basis → List CompletedStart
links basis = lists_below (links_at basis.ranks basis.events basis.depths) (length basis.events)

-- the completion of the start at a position
abbrev pub completion_in : List CompletedStart → ℕ → Option CompletedStart
completion_in list p = find (λ (link : CompletedStart). link.start == p) list

-- the completion that had to wait for the event at a position: of a Send the one that took its message
abbrev pub taker_in : List CompletedStart → ℕ → Option CompletedStart
taker_in list p = find (λ (link : CompletedStart). is_at_position link.cause p) list

-- the last event that a reply had to wait for
abbrev pub cause_in : ℕ → List ℕ → List Event → Option Event → Option ℕ
cause_in n depths before None = None
cause_in n depths before (Some event) = deepest depths (rests_on n before event.rank event.call event.reply)

-- the same, of the event at a position
abbrev pub cause_at : ℕ → List Event → List ℕ → ℕ → Option ℕ
cause_at n events depths p = cause_in n (take p depths) (take p events) (slice_get events p)
