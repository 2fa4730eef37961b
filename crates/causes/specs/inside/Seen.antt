-- What is kept beside the events so far.
use Rattle.std.specs.Prelude.{◌≡◌, ℕ, List}
use Rattle.run_model.specs.declared.event.Event.{Event}
use Rattle.causes.specs.declared.causes.CausesSoFar.{CausesSoFar}
use Rattle.causes.specs.Beside.{AreTables}
use Rattle.causes.specs.Clocks.{AreClocks, AreNumbers}

-- the tables, clocks and numbers of these events of so many ranks
pub record IsSeenByCauses (n : ℕ) (events : List Event) (seen : CausesSoFar) : Type 0 where
  pub ranks : seen.tables.ranks ≡ n
  pub tables : AreTables events seen.tables
  pub clocks : AreClocks n events seen.clocks.items
  pub numbers : AreNumbers events seen.numbers.items
