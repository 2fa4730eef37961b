-- Choices: the messages that a receive from any source could have taken in place of the one that it took, the first of each other sender.
use Rattle.std.specs.Prelude.{◌==◌, ℕ, List, [], ◌∷◌, Option, Some, None, Bool, false, not, find, if◌then◌else◌, map, nat_lt}
use Rattle.mpi_call.specs.declared.call.Source.{Source}
use Rattle.mpi_call.specs.declared.call.Tag.{Tag}
use Rattle.mpi_call.specs.Acceptance.{tag_named}
use Rattle.causes.specs.Positions.{positions}
use Rattle.msg_races.specs.declared.sends.Way.{Way}
use Rattle.msg_races.specs.Listing.{lists_below}
use Rattle.msg_races.specs.Ways.{goes_way}
use Rattle.run_drawing.specs.declared.choices.Posted.{Posted}
use Rattle.run_drawing.specs.declared.drawing.Point.{Point}
use Rattle.run_drawing.specs.declared.links.CompletedStart.{CompletedStart}
use Rattle.run_drawing.specs.Basis.{Basis}
use Rattle.run_drawing.specs.Columns.{point}
use Rattle.run_drawing.specs.Links.{links, taker_in}

-- a completion stands before a position
abbrev pub is_done_before : ℕ → Option CompletedStart → Bool
is_done_before p None = false
is_done_before p (Some link) = nat_lt link.at p

-- the message of the Send at position s was not taken before position p
abbrev pub is_untaken : Basis → ℕ → ℕ → Bool
is_untaken basis p s = not (is_done_before p (taker_in (links basis) s))

-- the first of these Sends that was not taken before position p
abbrev pub first_untaken : Basis → ℕ → List ℕ → Option ℕ
first_untaken basis p sent = find (is_untaken basis p) sent

-- the way of a sender's messages to a rank, on a communicator and with a tag
abbrev pub message_way : ℕ → ℕ → Tag → ℕ → Way
message_way rank comm tag sender = record { sender = sender; comm = comm; receiver = rank; tag = tag_named tag }

-- a Send, unless it is late
abbrev pub unless_late : (ℕ → Bool) → Option ℕ → List ℕ
unless_late is_late None = []
unless_late is_late (Some s) = if is_late s then [] else s ∷ []

-- the receive that a rank posted at position p
abbrev pub posted_at : ℕ → ℕ → ℕ → Source → Tag → Posted
posted_at p rank comm source tag = record { place = p; rank = rank; comm = comm; source = source; tag = tag }

-- of a sender the first Send that a receive accepts and that was not taken before it was posted; none if the completion, at position `at`,
-- is before it
abbrev pub choice_of : Basis → Posted → ℕ → ℕ → List ℕ
choice_of basis posted at sender =
    unless_late (basis.before at) (first_untaken basis posted.place (positions (goes_way (message_way posted.rank posted.comm posted.tag sender)) 0 basis.events))

-- the same, of a sender other than the one whose message was taken
abbrev pub choice_beside : Basis → Posted → ℕ → ℕ → ℕ → List Point
choice_beside basis posted at took sender =
    if sender == took then [] else map (point basis) (choice_of basis posted at sender)

-- of each other sender
abbrev pub choices : Basis → Posted → ℕ → ℕ → List Point
choices basis posted at took = lists_below (choice_beside basis posted at took) basis.ranks
