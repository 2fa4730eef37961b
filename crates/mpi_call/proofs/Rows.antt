-- The tables on worked examples: each computes to what MPI gives.
use Rattle.std.proofs.Common.{◌≡◌, ℕ, ℤ, pos, negsuc, List, [], ◌∷◌, true, false, Option, Some, None, refl}
use Rattle.mpi_call.specs.Collectives.{needs, result_of, members_made, agree, is_uncoloured, IsEnterOf}
use Rattle.mpi_call.specs.declared.call.Call.{Call}
use Rattle.mpi_call.specs.declared.call.Call.TheVariants.{Enter}
use Rattle.mpi_call.specs.declared.call.Kind.{Kind}
use Rattle.mpi_call.specs.declared.call.Kind.TheVariants.{Bcast, Reduce, Allreduce, Gather, Scatter, Alltoall, Scan, Split}
use Rattle.mpi_call.specs.declared.call.Op.{Op}
use Rattle.mpi_call.specs.declared.call.Op.TheVariants.{Max, Sum, Prod, Lxor, Land, Band}

abbrev three : List ℕ
three = 0 ∷ 1 ∷ 2 ∷ []

-- an Enter on the world, and a list of one and of two ints
abbrev enter : Kind → Option ℕ → Option Op → ℕ → List ℤ → Call
enter kind root op count ints = Enter 0 kind root op count ints

abbrev one : ℕ → List ℤ
one a = pos a ∷ []

abbrev two : ℕ → ℕ → List ℤ
two a b = pos a ∷ pos b ∷ []

-- a product up to the second of three members
scan_row : result_of (enter Scan None (Some Prod) 1 (one 3)) three (one 2 ∷ one 3 ∷ [] ∷ []) 1 ≡ one 6
scan_row = refl

scan_needs : needs (enter Scan None (Some Prod) 1 (one 3)) three 1 2 ≡ false
scan_needs = refl

-- logical exclusive or gives 0 or 1: 0, 7 is 1, and with 5 again 0
lxor_row : result_of (enter Allreduce None (Some Lxor) 1 (one 0)) three (one 0 ∷ one 7 ∷ one 5 ∷ []) 0 ≡ one 0
lxor_row = refl

-- a logical fold of one member is its own int
land_alone : result_of (enter Allreduce None (Some Land) 1 (one 7)) (0 ∷ []) (one 7 ∷ []) 0 ≡ one 7
land_alone = refl

band_row : result_of (enter Allreduce None (Some Band) 1 (negsuc 0 ∷ [])) (0 ∷ 1 ∷ []) ((negsuc 0 ∷ []) ∷ (negsuc 7 ∷ []) ∷ []) 0 ≡ negsuc 7 ∷ []
band_row = refl

-- a sum wraps
sum_row : result_of (enter Allreduce None (Some Sum) 1 (one 0)) three (one 2147483647 ∷ one 1 ∷ one 0 ∷ []) 2 ≡ negsuc 2147483647 ∷ []
sum_row = refl

scatter_row : result_of (enter Scatter (Some 0) None 2 []) three ((pos 1 ∷ pos 2 ∷ pos 3 ∷ pos 4 ∷ pos 5 ∷ pos 6 ∷ []) ∷ [] ∷ [] ∷ []) 1 ≡ two 3 4
scatter_row = refl

gather_row : result_of (enter Gather (Some 2) None 1 (one 6)) three (one 4 ∷ one 5 ∷ one 6 ∷ []) 2 ≡ pos 4 ∷ pos 5 ∷ pos 6 ∷ []
gather_row = refl

alltoall_row : result_of (enter Alltoall None None 1 (two 3 4)) (0 ∷ 1 ∷ []) (two 1 2 ∷ two 3 4 ∷ []) 1 ≡ two 2 4
alltoall_row = refl

-- away from the root a reduction gives nothing, and needs none but me
reduce_row : result_of (enter Reduce (Some 0) (Some Max) 1 (one 9)) three ([] ∷ one 9 ∷ [] ∷ []) 1 ≡ []
reduce_row = refl

reduce_needs : needs (enter Reduce (Some 0) (Some Max) 1 (one 9)) three 1 0 ≡ false
reduce_needs = refl

-- the lower key comes first, and equal keys by place
split_row : members_made (enter Split None None 0 (two 0 5)) three (two 0 5 ∷ two 0 1 ∷ two 0 5 ∷ []) 0 ≡ 1 ∷ 0 ∷ 2 ∷ []
split_row = refl

-- rank 1 gives no colour
abbrev uncoloured : List ℤ
uncoloured = negsuc 32765 ∷ pos 0 ∷ []

split_of_two : members_made (enter Split None None 0 (two 1 0)) three (two 1 0 ∷ uncoloured ∷ two 1 0 ∷ []) 2 ≡ 0 ∷ 2 ∷ []
split_of_two = refl

split_of_none : members_made (enter Split None None 0 uncoloured) three ([] ∷ uncoloured ∷ [] ∷ []) 1 ≡ []
split_of_none = refl

split_needs : needs (enter Split None None 0 uncoloured) three 1 0 ≡ false
split_needs = refl

no_colour : is_uncoloured (enter Split None None 0 uncoloured) ≡ true
no_colour = refl

-- other ints do not matter, another count does
agree_row : agree (enter Bcast (Some 0) None 1 (one 5)) (enter Bcast (Some 0) None 1 []) ≡ true
agree_row = refl

disagree_row : agree (enter Bcast (Some 0) None 1 []) (enter Bcast (Some 0) None 2 []) ≡ false
disagree_row = refl

-- the root of a broadcast enters its ints, others none
root_enters : IsEnterOf (enter Bcast (Some 0) None 1 (one 5)) three 0
root_enters = record { form = refl; ints = refl }

other_enters : IsEnterOf (enter Bcast (Some 0) None 1 []) three 1
other_enters = record { form = refl; ints = refl }
