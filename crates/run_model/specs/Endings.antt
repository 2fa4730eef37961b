-- How a run ended.
use Rattle.std.specs.Prelude.{List, Option, Some, None}
use Rattle.mpi_call.specs.declared.call.Halt.{Halt}
use Rattle.run_model.specs.declared.ending.Ending.{Ending}
use Rattle.run_model.specs.declared.ending.Ending.TheVariants.{Finished, Halted}
use Rattle.run_model.specs.declared.event.Event.{Event}
use Rattle.run_model.specs.Due.{halted}

-- by the halt, if there is one
abbrev pub ending_by : Option Halt → Ending
ending_by None = Finished
ending_by (Some halt) = Halted halt

-- of a run in which every rank has ended: the first halt stopped all that had not ended
abbrev pub ending_of : List Event → Ending
ending_of events = ending_by (halted events)
