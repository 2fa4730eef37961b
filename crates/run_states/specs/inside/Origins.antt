-- What is looked up to tell which communicators a history made.
use Rattle.std.specs.Prelude.{ℕ, ℤ, List, [], ◌∷◌, Option, Some, None, Result, Ok, Err, filter, map}
use Rattle.mpi_call.specs.declared.call.Call.{Call}
use Rattle.mpi_call.specs.declared.call.Kind.{Kind}
use Rattle.mpi_call.specs.declared.call.Kind.TheVariants.{Split, Dup}
use Rattle.run_model.specs.Communicators.{is_on}
use Rattle.run_model.specs.Numbers.{Origin, colours_entered}
use Rattle.run_model.specs.Views.{View, starts_of}

-- the Enters of a view on a communicator, in order
abbrev pub enter_calls_on : ℕ → View → List Call
enter_calls_on comm view = filter (is_on comm) (starts_of view)

-- what was entered, where nothing is missing
abbrev pub if_entered : Result (List (List ℤ)) ℕ → Option (List (List ℤ))
if_entered (Ok inputs) = Some inputs
if_entered (Err missing) = None

-- an origin for each of these colours
abbrev pub colour_origins : ℕ → ℕ → List ℤ → List Origin
colour_origins comm instance colours = map (λ colour. record { comm = comm; instance = instance; colour = colour ∷ [] }) colours

-- the communicators that an instance of this kind makes, by what its members entered
abbrev pub origins_made : Kind → ℕ → ℕ → List (List ℤ) → List Origin
origins_made Split comm instance inputs = colour_origins comm instance (colours_entered inputs)
origins_made Dup comm instance inputs = (record { comm = comm; instance = instance; colour = [] }) ∷ []
origins_made kind comm instance inputs = []
