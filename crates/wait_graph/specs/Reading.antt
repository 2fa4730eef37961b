-- A run that is read up to where it was halted.
use Rattle.std.specs.Prelude.{◌≡◌, ℕ, List}
use Rattle.run_model.specs.declared.event.Event.{Event}
use Rattle.wait_graph.specs.declared.reading.Run.{Run}
use Rattle.wait_graph.specs.Register.{IsRegister}
use Rattle.wait_graph.specs.Going.{going, halting}

-- what is kept of these events
pub record IsRunRead (n : ℕ) (events : List Event) (run : Run) : Type 0 where
  pub register : IsRegister n (going events) run.register
  pub stopped : run.stopped.now ≡ halting events
