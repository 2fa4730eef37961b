-- Which sends and receives are paired, and the conditions on pairs.
-- (MPI 3.1, Point-to-Point Communication, "Semantics of Point-to-Point Communication": order and progress.)
use Rattle.std.specs.Prelude.{◌≡◌, ◌<◌, ◌⊎◌, ℕ, List, [], ◌∷◌, ◌++◌, Option, Some, None, Bool, true, false, ◌&&◌, ◌==◌, if◌then◌else◌, is_some, length, slice_get, take}
use Rattle.mpi_call.specs.declared.call.Call.{Call}
use Rattle.mpi_call.specs.declared.call.Call.TheVariants.{Post}
use Rattle.mpi_call.specs.Acceptance.{accepts}
use Rattle.run_model.specs.declared.event.Event.{Event}
use Rattle.run_model.specs.Views.{view_of, starts_of, start_at, is_start}

-- the name of a start: its rank and its number there
abbrev pub Name : Type 0
Name = ℕ × ℕ

-- two names are the same
abbrev pub same_name : Name → Name → Bool
same_name a b = (a.0 == b.0) && (a.1 == b.1)

-- the call that a name names
abbrev pub named : List Event → Name → Option Call
named events name = start_at (view_of events name.0) name.1

-- the name of an event that is a start, by the events before it
abbrev pub name_of_start : List Event → Option Event → Option Name
name_of_start before None = None
name_of_start before (Some event) =
    if is_start (event.call, event.reply) then Some (event.rank, length (starts_of (view_of before event.rank))) else None

-- the name of the start at a position
abbrev pub name_at : List Event → ℕ → Option Name
name_at events at = name_of_start (take at events) (slice_get events at)

-- one pair, where there is an earlier start
abbrev pub pair_with : Option Name → Name → List (Name × Name)
pair_with None later = []
pair_with (Some earlier) later = (earlier, later) ∷ []

-- the pair that an event makes with the start at its mate's position, the earlier one first
abbrev pub mated : List Event → Event → List (Name × Name)
mated before event = elim event.mate [
  | None ↦ []
  | Some at ↦ pair_with (name_at before at) (event.rank, length (starts_of (view_of before event.rank)))
]

-- the pairs that an event makes: with its mate, and then those that meet after it and before the next event
abbrev pub pair_of : List Event → Event → List (Name × Name)
pair_of before event = mated before event ++ event.met

-- the pairs that these events make, one after the other, after those before
abbrev pub pairs_from : List Event → List Event → List (Name × Name)
pairs_from before [] = []
pairs_from before (event ∷ events) = pair_of before event ++ pairs_from (before ++ event ∷ []) events

-- the pairs of a history
abbrev pub pairs_of : List Event → List (Name × Name)
pairs_of events = pairs_from [] events

-- the other start of the pair that a start is in
abbrev pub partner_of : List (Name × Name) → Name → Option Name
partner_of [] name = None
partner_of (pair ∷ pairs) name =
    if same_name pair.0 name then Some pair.1 else if same_name pair.1 name then Some pair.0 else partner_of pairs name

-- a Post of `rank` accepts this call of `sender`
abbrev pub post_accepts : ℕ → Call → ℕ → Call → Bool
post_accepts rank (Post comm source tag room) sender call = accepts rank comm source tag sender call
post_accepts rank other sender call = false

-- `post` names a Post that accepts the Send that `send` names; N looks starts up
pub record PostAccepts (N : Name → Option Call) (post send : Name) : Type 0 where
  pub post_call : Call
  pub send_call : Call
  pub post_is : N post ≡ Some post_call
  pub send_is : N send ≡ Some send_call
  pub accepted : post_accepts post.0 post_call send.0 send_call ≡ true

-- the four conditions. Earlier starts of one rank are those with lower numbers.
-- pairs_accept: a pair is a Send and a Post that accepts it
-- one_partner: a start is in one pair at most: its partner has no other partner
-- no_overtaking: the paired Send's rank has no earlier unpaired Send that the Post accepts ("this operation cannot receive the second
-- message if the first one is still pending")
-- earliest_receive: the paired Post's rank has no earlier unpaired Post that accepts the Send ("the second receive operation cannot be
-- satisfied by this message, if the first one is still pending")
pub record AreMatched (N : Name → Option Call) (pairs : List (Name × Name)) : Type 0 where
  pub pairs_accept : (a b : Name) → partner_of pairs a ≡ Some b → PostAccepts N a b ⊎ PostAccepts N b a
  pub one_partner : (a b : Name) → partner_of pairs a ≡ Some b → partner_of pairs b ≡ Some a
  pub no_overtaking : (post send : Name) → partner_of pairs post ≡ Some send → (start : ℕ) → start < send.1 → PostAccepts N post (send.0, start) → is_some (partner_of pairs (send.0, start)) ≡ true
  pub earliest_receive : (post send : Name) → partner_of pairs post ≡ Some send → (start : ℕ) → start < post.1 → PostAccepts N (post.0, start) send → is_some (partner_of pairs (post.0, start)) ≡ true

-- the pairs of a history meet the four conditions
abbrev pub IsMatched : List Event → Type 0
IsMatched events = AreMatched (named events) (pairs_of events)

-- no unpaired Post accepts an unpaired Send (progress: of a send and a receive that match "at least one of these two operations will
-- complete")
abbrev pub NothingWaits : (Name → Option Call) → List (Name × Name) → Type 0
NothingWaits N pairs = (post send : Name) → PostAccepts N post send → partner_of pairs post ≡ None → partner_of pairs send ≡ None → ⊥

-- pairs that meet one after the other: each of two unpaired starts, and the conditions hold before, between and after them
abbrev pub MeetInTurn : (Name → Option Call) → List (Name × Name) → List (Name × Name) → Type 0
MeetInTurn N pairs [] = AreMatched N pairs
MeetInTurn N pairs (pair ∷ more) =
    AreMatched N pairs × (partner_of pairs pair.0 ≡ None) × (partner_of pairs pair.1 ≡ None) × MeetInTurn N (pairs ++ pair ∷ []) more

-- the conditions, and nothing is left waiting
pub record AreAllMatched (N : Name → Option Call) (pairs : List (Name × Name)) : Type 0 where
  pub matched : AreMatched N pairs
  pub nothing_waits : NothingWaits N pairs

-- so are the pairs of a history
abbrev pub IsAllMatched : List Event → Type 0
IsAllMatched events = AreAllMatched (named events) (pairs_of events)
