-- What changes that may fail leave.
use Rattle.std.specs.Prelude.{◌≡◌, ◌+◌, ℕ, Bool, true, false, List, [], ◌∷◌, Option, Some, None, option_map}
use Rattle.mpi_call.specs.declared.call.Fault.TheVariants.{OutOfBounds}
use Rattle.c_program.specs.Courses.{trapped}
use Rattle.c_program.specs.Meaning.{Passing}
use Rattle.mpi_call.specs.declared.call.Source.{Source}
use Rattle.mpi_call.specs.declared.call.Source.TheVariants.{Null}
use Rattle.mpi_call.specs.declared.reply.Got.{Got}
use Rattle.c_program.specs.Performing.{Active, Completing, item_completed}
use Rattle.c_program.specs.State.{State, null, put}

-- whether there is a state that a change leads to; else the state stays as it was
abbrev pub IsChanged : Option State → State → State → Bool → Type 0
IsChanged None s t done = (done ≡ false) × (t ≡ s)
IsChanged (Some u) s t done = (done ≡ true) × (t ≡ u)

-- an item's message and status, and null in its handle
abbrev pub item_put : Completing → Active → ℕ → Got → State → Option State
item_put call one number got s = option_map (put (call.requests.from + one.place) null) (item_completed call one number got s)

-- `MPI_PROC_NULL`
abbrev pub is_null_source : Source → Bool
is_null_source Null = true
is_null_source source = false

-- goes on where cells stand, or traps
abbrev pub if_stood : Bool → Passing
if_stood true s go = go s
if_stood false s go = trapped OutOfBounds s

-- whether there is any
abbrev pub is_more : {A : Type 0} → List A → Bool
is_more [] = false
is_more (x ∷ xs) = true
