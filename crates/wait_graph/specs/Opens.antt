-- Messages to a rank that nobody has received, and in what they differ from those that it waits for.
use Rattle.std.specs.Prelude.{◌≡◌, ◌≢◌, ◌<◌, ◌&&◌, ◌==◌, ℕ, ℤ, suc, List, [], ◌∷◌, ◌++◌, Bool, false, not, Option, Some, None, if◌then◌else◌, is_some}
use Rattle.mpi_call.specs.declared.call.Call.{Call}
use Rattle.mpi_call.specs.declared.call.Call.TheVariants.{Post, Send}
use Rattle.mpi_call.specs.declared.call.Source.{Source}
use Rattle.mpi_call.specs.declared.call.Tag.{Tag}
use Rattle.mpi_call.specs.Acceptance.{source_agrees, tag_agrees}
use Rattle.msg_races.specs.declared.names.Name.{Name as StartName}
use Rattle.run_model.specs.declared.event.Event.{Event}
use Rattle.run_model.specs.Allowed.{has_open}
use Rattle.run_model.specs.Lists.{world}
use Rattle.run_model.specs.Pairs.{Name, IsAllMatched, named, pairs_of, partner_of}
use Rattle.run_model.specs.Views.{starts_of, view_of}
use Rattle.wait_graph.specs.declared.difference.Difference.{Difference}
use Rattle.wait_graph.specs.declared.difference.Difference.TheVariants.{Comm, Source as BySource, Tag as ByTag}
use Rattle.wait_graph.specs.declared.message.Open.{Open}

-- a difference, unless two agree
abbrev pub difference_unless : Bool → Difference → List Difference
difference_unless agree difference = if agree then [] else difference ∷ []

-- in what a message on communicator c, of a sender, with a tag, differs from those that a receive or a probe accepts
abbrev pub differences : ℕ → Source → Tag → ℕ → ℕ → ℕ → List Difference
differences comm source tag c sender sent =
    difference_unless (c == comm) Comm ++ (difference_unless (source_agrees source sender) BySource ++ difference_unless (tag_agrees tag sent) ByTag)

-- a start with this name and call, where it is a Send to a rank and is not paired
abbrev pub open_send : Bool → ℕ → StartName → Call → Option Open
open_send paired receiver name (Send comm dest tag ints sync) =
    if (dest == receiver) && not paired then Some (record { name = name; comm = comm; tag = tag }) else None
open_send paired receiver name call = None

-- the first of two, where there is one
abbrev pub or_open : Option Open → Option Open → Option Open
or_open None other = other
or_open (Some first) other = Some first

-- the first unpaired Send to a rank among these starts of a sender, numbered from `start` on
abbrev pub open_send_from : List Event → ℕ → ℕ → ℕ → List Call → Option Open
open_send_from G sender receiver start [] = None
open_send_from G sender receiver start (call ∷ calls) =
    or_open (open_send (is_some (partner_of (pairs_of G) (sender, start))) receiver (record { rank = sender; start = start }) call)
    (open_send_from G sender receiver (suc start) calls)

-- the first unpaired Send of a sender to a rank
abbrev pub first_open_send : List Event → ℕ → ℕ → Option Open
first_open_send G sender receiver = open_send_from G sender receiver 0 (starts_of (view_of G sender))

-- one or none, as a list
abbrev pub listed_open : Option Open → List Open
listed_open None = []
listed_open (Some first) = first ∷ []

-- of each of these senders its first unpaired Send to a rank
abbrev pub opens_of : List Event → List ℕ → ℕ → List Open
opens_of G [] receiver = []
opens_of G (sender ∷ senders) receiver = listed_open (first_open_send G sender receiver) ++ opens_of G senders receiver

-- of each rank its first unpaired Send to a rank
abbrev pub opens_to : ℕ → List Event → ℕ → List Open
opens_to n G receiver = opens_of G (world n 0) receiver

-- where no pair can meet, no message that nobody has received fits a receive that waits: it differs in something
abbrev pub NoneFits : List Event → Type 0
NoneFits G =
    (post send : Name) (comm room c sent : ℕ) (source : Source) (tag : Tag) (ints : List ℤ) (sync : Bool) → IsAllMatched G
    → named G post ≡ Some (Post comm source tag room) → partner_of (pairs_of G) post ≡ None
    → named G send ≡ Some (Send c post.0 sent ints sync) → partner_of (pairs_of G) send ≡ None
    → differences comm source tag c send.0 sent ≢ []

-- no message that nobody has received fits a probe that finds nothing
abbrev pub NoneFound : ℕ → List Event → Type 0
NoneFound n G =
    (me comm c sent : ℕ) (send : Name) (source : Source) (tag : Tag) (ints : List ℤ) (sync : Bool) → has_open n G me comm source tag ≡ false
    → send.0 < n → named G send ≡ Some (Send c me sent ints sync) → partner_of (pairs_of G) send ≡ None
    → differences comm source tag c send.0 sent ≢ []
