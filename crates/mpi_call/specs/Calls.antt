-- What the parts of a call are, and which calls are starts.
use Rattle.std.specs.Prelude.{ℕ, ℤ, List, [], Bool, true, false}
use Rattle.mpi_call.specs.declared.call.Call.{Call}
use Rattle.mpi_call.specs.declared.call.Call.TheVariants.{Send, Post, Enter, Take}
use Rattle.mpi_call.specs.declared.call.Kind.TheVariants.{Split, Dup}
use Rattle.mpi_call.specs.declared.call.Source.TheVariants.{Any}

-- the communicator of a collective
abbrev pub comm_of : Call → ℕ
comm_of (Enter comm kind root op count ints) = comm
comm_of call = 0

-- the ints that a call carries: a message's, or those entered
abbrev pub ints_of : Call → List ℤ
ints_of (Send comm dest tag ints sync) = ints
ints_of (Enter comm kind root op count ints) = ints
ints_of call = []

-- the starts that a Take lists
abbrev pub listed_by : Call → List ℕ
listed_by (Take starts mode) = starts
listed_by call = []

-- a Send
abbrev pub is_send : Call → Bool
is_send (Send comm dest tag ints sync) = true
is_send call = false

-- a receive from any source
abbrev pub is_wildcard : Call → Bool
is_wildcard (Post comm Any tag room) = true
is_wildcard call = false

-- a collective
abbrev pub is_enter : Call → Bool
is_enter (Enter comm kind root op count ints) = true
is_enter call = false

-- the collectives that make a communicator
abbrev pub makes : Call → Bool
makes (Enter comm Split root op count ints) = true
makes (Enter comm Dup root op count ints) = true
makes call = false

-- the calls that begin an operation: a send, a receive or a collective
abbrev pub is_starting : Call → Bool
is_starting (Send comm dest tag ints sync) = true
is_starting (Post comm source tag room) = true
is_starting (Enter comm kind root op count ints) = true
is_starting call = false
