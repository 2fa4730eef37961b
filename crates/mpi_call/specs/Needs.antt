-- Which members a rank's result of a collective needs, which Enters agree, and how many ints go in and come out.
-- (MPI 3.1, Collective Communication.) `c` is the count, `m` the number of members.
use Rattle.std.specs.Prelude.{◌≡◌, ℕ, ◌*◌, ℤ, List, [], ◌∷◌, length, Bool, true, false, not, ◌&&◌, ◌||◌, ◌==◌, nat_le, if◌then◌else◌, Option, None, Some}
use Rattle.std.specs.Ordering.{int_eq}
use Rattle.mpi_call.specs.Calls.{ints_of}
use Rattle.mpi_call.specs.Members.{is_member, place_of}
use Rattle.mpi_call.specs.declared.call.Call.{Call}
use Rattle.mpi_call.specs.declared.call.Call.TheVariants.{Enter}
use Rattle.mpi_call.specs.declared.call.Kind.{Kind}
use Rattle.mpi_call.specs.declared.call.Kind.TheVariants.{Barrier, Bcast, Reduce, Allreduce, Gather, Allgather, Scatter, Alltoall, Scan, Split, Dup}
use Rattle.mpi_call.specs.declared.call.Op.{Op}
use Rattle.mpi_call.specs.declared.needs.TheConstants.{UNDEFINED}
use Rattle.mpi_call.specs.declared.call.Op.TheVariants.{Max, Min, Sum, Prod, Land, Band, Lor, Bor, Lxor, Bxor}

-- `MPI_UNDEFINED`: the colour of a member that gets no communicator
abbrev pub undefined_colour : ℤ
undefined_colour = UNDEFINED

-- the colour that was entered; none is the undefined one
abbrev pub colour_in : List ℤ → ℤ
colour_in [] = undefined_colour
colour_in (colour ∷ ints) = colour

-- the colour of a Split
abbrev pub colour_of : Call → List ℤ
colour_of (Enter comm Split root op count (colour ∷ ints)) = colour ∷ []
colour_of call = []

-- a Split whose colour is undefined
abbrev pub is_uncoloured : Call → Bool
is_uncoloured (Enter comm Split root op count ints) = int_eq (colour_in ints) undefined_colour
is_uncoloured call = false

-- a rank is the root
abbrev pub is_root : Option ℕ → ℕ → Bool
is_root None rank = false
is_root (Some root) rank = root == rank

-- the result of `me` needs what `who` entered; `me` is always needed
abbrev pub needs : Call → List ℕ → ℕ → ℕ → Bool
-- all members ("Barrier Synchronization", "All-Reduce", "Gather-to-all", "All-to-All Scatter/Gather", "Communicator Constructors")
needs (Enter comm Barrier root op count ints) members me who = true
needs (Enter comm Allreduce root op count ints) members me who = true
needs (Enter comm Allgather root op count ints) members me who = true
needs (Enter comm Alltoall root op count ints) members me who = true
needs (Enter comm Dup root op count ints) members me who = true
-- the root ("Broadcast", "Scatter")
needs (Enter comm Bcast root op count ints) members me who = is_root root who || who == me
needs (Enter comm Scatter root op count ints) members me who = is_root root who || who == me
-- all members at the root, else me alone ("Reduce", "Gather")
needs (Enter comm Reduce root op count ints) members me who = is_root root me || who == me
needs (Enter comm Gather root op count ints) members me who = is_root root me || who == me
-- the members up to me ("Inclusive Scan")
needs (Enter comm Scan root op count ints) members me who = nat_le (place_of members who) (place_of members me)
-- all members, but for an undefined colour me alone
needs (Enter comm Split root op count ints) members me who = not (is_uncoloured (Enter comm Split root op count ints)) || who == me
needs call members me who = false

-- how many ints `me` enters
abbrev pub input_length : Call → List ℕ → ℕ → ℕ
input_length (Enter comm Barrier root op count ints) members me = 0
input_length (Enter comm Bcast root op count ints) members me = if is_root root me then count else 0
input_length (Enter comm Reduce root op count ints) members me = count
input_length (Enter comm Allreduce root op count ints) members me = count
input_length (Enter comm Gather root op count ints) members me = count
input_length (Enter comm Allgather root op count ints) members me = count
input_length (Enter comm Scatter root op count ints) members me = if is_root root me then length members * count else 0
input_length (Enter comm Alltoall root op count ints) members me = length members * count
input_length (Enter comm Scan root op count ints) members me = count
input_length (Enter comm Split root op count ints) members me = 2
input_length call members me = 0

-- how many ints `me` gets
abbrev pub result_length : Call → List ℕ → ℕ → ℕ
result_length (Enter comm Barrier root op count ints) members me = 0
result_length (Enter comm Bcast root op count ints) members me = count
result_length (Enter comm Reduce root op count ints) members me = if is_root root me then count else 0
result_length (Enter comm Allreduce root op count ints) members me = count
result_length (Enter comm Gather root op count ints) members me = if is_root root me then length members * count else 0
result_length (Enter comm Allgather root op count ints) members me = length members * count
result_length (Enter comm Scatter root op count ints) members me = count
result_length (Enter comm Alltoall root op count ints) members me = length members * count
result_length (Enter comm Scan root op count ints) members me = count
result_length call members me = 0

-- the place of a kind in the list of kinds
abbrev pub kind_number : Kind → ℕ
kind_number Barrier = 0
kind_number Bcast = 1
kind_number Reduce = 2
kind_number Allreduce = 3
kind_number Gather = 4
kind_number Allgather = 5
kind_number Scatter = 6
kind_number Alltoall = 7
kind_number Scan = 8
kind_number Split = 9
kind_number Dup = 10

-- the place of an operation in the list of operations
abbrev pub op_number : Op → ℕ
op_number Max = 0
op_number Min = 1
op_number Sum = 2
op_number Prod = 3
op_number Land = 4
op_number Band = 5
op_number Lor = 6
op_number Bor = 7
op_number Lxor = 8
op_number Bxor = 9

-- two Enters name the same root, or none
abbrev pub same_root : Option ℕ → Option ℕ → Bool
same_root None None = true
same_root (Some a) (Some b) = a == b
same_root a b = false

-- two Enters name the same operation, or none
abbrev pub same_op : Option Op → Option Op → Bool
same_op None None = true
same_op (Some a) (Some b) = op_number a == op_number b
same_op a b = false

-- two Enters have the same kind, root, operation and count
abbrev pub agree : Call → Call → Bool
agree (Enter comm kind root op count ints) (Enter comm' kind' root' op' count' ints') =
    (kind_number kind == kind_number kind') && (same_root root root' && (same_op op op' && (count == count')))
agree a b = false

-- the kinds that have a root
abbrev pub takes_root : Kind → Bool
takes_root Bcast = true
takes_root Reduce = true
takes_root Gather = true
takes_root Scatter = true
takes_root kind = false

-- the kinds that have an operation
abbrev pub takes_op : Kind → Bool
takes_op Reduce = true
takes_op Allreduce = true
takes_op Scan = true
takes_op kind = false

-- the kinds whose count need not be 0
abbrev pub takes_count : Kind → Bool
takes_count Barrier = false
takes_count Split = false
takes_count Dup = false
takes_count kind = true

-- a root is there where the kind has one, and is a member
abbrev pub is_root_for : Kind → Option ℕ → List ℕ → Bool
is_root_for kind None members = not (takes_root kind)
is_root_for kind (Some root) members = takes_root kind && is_member members root

-- an operation is there where the kind has one
abbrev pub is_op_for : Kind → Option Op → Bool
is_op_for kind None = not (takes_op kind)
is_op_for kind (Some op) = takes_op kind

-- the count is 0 where the kind has none
abbrev pub is_count_for : Kind → ℕ → Bool
is_count_for kind count = takes_count kind || count == 0

-- the parts of an Enter are as its kind wants them
abbrev pub has_form : Call → List ℕ → Bool
has_form (Enter comm kind root op count ints) members = is_root_for kind root members && (is_op_for kind op && is_count_for kind count)
has_form call members = false

-- an Enter that `me` may make on a communicator with these members: its root, operation and count are as its kind wants them,
-- and it has as many ints as `me` enters
pub record IsEnterOf (call : Call) (members : List ℕ) (me : ℕ) : Type 0 where
  pub form : has_form call members ≡ true
  pub ints : length (ints_of call) ≡ input_length call members me
