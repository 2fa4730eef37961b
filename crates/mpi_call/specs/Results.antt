-- What a collective gives to a rank. (MPI 3.1, Collective Communication.)
use Rattle.std.specs.Prelude.{◌≡◌, ℕ, suc, ◌*◌, ◌<◌, ℤ, List, [], true, flat_map, length, take, drop, if◌then◌else◌, Option, None, Some, slice_index}
use Rattle.std.specs.List.{slice_index_or}
use Rattle.mpi_call.specs.Members.{place_of}
use Rattle.mpi_call.specs.Needs.{is_root, needs, input_length}
use Rattle.mpi_call.specs.Operations.{folds_of}
use Rattle.mpi_call.specs.declared.call.Call.{Call}
use Rattle.mpi_call.specs.declared.call.Call.TheVariants.{Enter}
use Rattle.mpi_call.specs.declared.call.Kind.TheVariants.{Bcast, Reduce, Allreduce, Gather, Allgather, Scatter, Alltoall, Scan}
use Rattle.mpi_call.specs.declared.call.Op.{Op}

-- `inputs` has one list per member, in member order, and the list of each member that the result of `me` needs is as long as
-- what that member enters
pub record AreInputsOf (call : Call) (members : List ℕ) (inputs : List (List ℤ)) (me : ℕ) : Type 0 where
  pub as_many : length inputs ≡ length members
  pub lengths : (place : ℕ) → place < length members → needs call members me (slice_index members place) ≡ true
      → length (slice_index_or inputs place []) ≡ input_length call members (slice_index members place)

-- what a member entered
abbrev pub input_of : List ℕ → List (List ℤ) → ℕ → List ℤ
input_of members inputs rank = slice_index_or inputs (place_of members rank) []

-- what the root entered
abbrev pub root_input : Option ℕ → List ℕ → List (List ℤ) → List ℤ
root_input None members inputs = []
root_input (Some root) members inputs = input_of members inputs root

-- all members' pieces, in member order
abbrev pub pieces_of : List (List ℤ) → List ℤ
pieces_of inputs = flat_map (λ ints. ints) inputs

-- the piece of `count` ints for the member at a place
abbrev pub piece_at : ℕ → ℕ → List ℤ → List ℤ
piece_at count place ints = take count (drop (place * count) ints)

-- the fold of the members' ints by the operation that was set
abbrev pub reduced : Option Op → ℕ → List (List ℤ) → List ℤ
reduced None count inputs = []
reduced (Some op) count inputs = folds_of op count inputs

-- the result of `me`, from the ints of each member in member order
abbrev pub result_of : Call → List ℕ → List (List ℤ) → ℕ → List ℤ
-- "Broadcast": the root's ints
result_of (Enter comm Bcast root op count ints) members inputs me = root_input root members inputs
-- "Reduce": the fold, at the root
result_of (Enter comm Reduce root op count ints) members inputs me = if is_root root me then reduced op count inputs else []
-- "All-Reduce": the fold
result_of (Enter comm Allreduce root op count ints) members inputs me = reduced op count inputs
-- "Gather": all pieces, at the root
result_of (Enter comm Gather root op count ints) members inputs me = if is_root root me then pieces_of inputs else []
-- "Gather-to-all": all pieces
result_of (Enter comm Allgather root op count ints) members inputs me = pieces_of inputs
-- "Scatter": my piece of the root's ints
result_of (Enter comm Scatter root op count ints) members inputs me = piece_at count (place_of members me) (root_input root members inputs)
-- "All-to-All Scatter/Gather": each member's piece for me
result_of (Enter comm Alltoall root op count ints) members inputs me = flat_map (piece_at count (place_of members me)) inputs
-- "Inclusive Scan": the fold over the members up to me
result_of (Enter comm Scan root op count ints) members inputs me = reduced op count (take (suc (place_of members me)) inputs)
-- "Barrier Synchronization" gives nothing
result_of call members inputs me = []
