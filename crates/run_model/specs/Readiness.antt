-- Which starts are ready, and what a ready start gives.
-- (MPI 3.1, "Communication Completion"; Collective Communication.)
use Rattle.std.specs.Prelude.{◌≡◌, ℕ, ℤ, List, [], ◌∷◌, Option, Some, None, Bool, true, false, not, ◌||◌, ◌==◌, Ok, is_some, slice_index}
use Rattle.mpi_call.specs.declared.call.Call.{Call}
use Rattle.mpi_call.specs.declared.call.Call.TheVariants.{Send, Post, Enter}
use Rattle.mpi_call.specs.declared.call.Source.TheVariants.{Null}
use Rattle.mpi_call.specs.declared.reply.Got.{Got}
use Rattle.mpi_call.specs.declared.reply.Got.TheVariants.{Sent, Nothing, Message, Made}
use Rattle.mpi_call.specs.declared.reply.Item.{Item}
use Rattle.mpi_call.specs.Calls.{makes}
use Rattle.mpi_call.specs.Collectives.{is_uncoloured}
use Rattle.run_model.specs.declared.event.Event.{Event}
use Rattle.run_model.specs.Views.{Moment, View, view_of, start_at}
use Rattle.run_model.specs.Inputs.{communicator_for_rank, inputs_of, is_gathered, result_for_rank}
use Rattle.run_model.specs.Pairs.{Name, named, pairs_of, partner_of}

-- start k of rank `me`. A standard send is always buffered, so it is ready at once; a synchronous send (`sync`) is ready when
-- a receive has matched it, that is, when it is paired. A receive from the null process is ready at once, another receive when it
-- is paired, a collective when each member that its result needs has entered.
-- (MPI 3.1, "Communication Modes": a synchronous send completes only when a matching receive has started to receive.)
abbrev pub is_ready : Moment → ℕ → Option Call → Bool
is_ready moment k None = false
is_ready moment k (Some (Send comm dest tag ints sync)) = not sync || is_some (partner_of (pairs_of moment.before) (moment.me, k))
is_ready moment k (Some (Post comm Null tag room)) = true
is_ready moment k (Some (Post comm source tag room)) = is_some (partner_of (pairs_of moment.before) (moment.me, k))
is_ready moment k (Some (Enter comm kind root op count ints)) =
    is_gathered (inputs_of moment.ranks (view_of moment.before) moment.me moment.own k (Enter comm kind root op count ints))
is_ready moment k (Some call) = false

-- the paired Send's message
pub record IsMessage (before : List Event) (me k : ℕ) (got : Got) : Type 0 where
  pub send : Name
  pub comm : ℕ
  pub dest : ℕ
  pub tag : ℕ
  pub ints : List ℤ
  pub sync : Bool
  pub paired : partner_of (pairs_of before) (me, k) ≡ Some send
  pub sent : named before send ≡ Some (Send comm dest tag ints sync)
  pub got_is : got ≡ Message send.0 send.1 tag ints

-- a new communicator: some number above 0, with the members of the table
pub record IsMadeCommunicator (n : ℕ) (me : ℕ) (own : View) (enter : Call) (inputs : List (List ℤ)) (got : Got) : Type 0 where
  pub comm : ℕ
  pub is_new : (comm == 0) ≡ false
  pub got_is : got ≡ communicator_for_rank comm n me own enter inputs

-- by whether the collective makes a communicator, and whether its colour is undefined
abbrev pub IsFrom : Bool → Bool → ℕ → ℕ → View → Call → List (List ℤ) → Got → Type 0
IsFrom true true n me own enter inputs got = got ≡ Made 0 []
IsFrom true false n me own enter inputs got = IsMadeCommunicator n me own enter inputs got
IsFrom false uncoloured n me own enter inputs got = got ≡ result_for_rank n me own enter inputs

-- the result of a collective, from what the members entered
pub record IsCollected (moment : Moment) (k : ℕ) (enter : Call) (got : Got) : Type 0 where
  pub inputs : List (List ℤ)
  pub gathered : inputs_of moment.ranks (view_of moment.before) moment.me moment.own k enter ≡ Ok inputs
  pub given : IsFrom (makes enter) (is_uncoloured enter) moment.ranks moment.me moment.own enter inputs got

-- what the ready start k of rank `me` gives
abbrev pub IsGot : Moment → ℕ → Option Call → Got → Type 0
IsGot moment k None got = ⊥
IsGot moment k (Some (Send comm dest tag ints sync)) got = got ≡ Sent
IsGot moment k (Some (Post comm Null tag room)) got = got ≡ Nothing
IsGot moment k (Some (Post comm source tag room)) got = IsMessage moment.before moment.me k got
IsGot moment k (Some (Enter comm kind root op count ints)) got =
    IsCollected moment k (Enter comm kind root op count ints) got
IsGot moment k (Some call) got = ⊥

-- each item gives what its start gives
abbrev pub AreGots : Moment → List ℕ → List Item → Type 0
AreGots moment starts [] = Unit {0}
AreGots moment starts (item ∷ items) =
    IsGot moment (slice_index starts item.index) (start_at moment.own (slice_index starts item.index)) item.got
    × AreGots moment starts items
