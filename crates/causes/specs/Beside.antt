-- The tables beside the events.
use Rattle.std.specs.Prelude.{◌≡◌, [], List}
use Rattle.run_model.specs.declared.event.Event.{Event}
use Rattle.run_model.specs.Lists.{world}
use Rattle.causes.specs.declared.tables.Tables.{Tables}
use Rattle.causes.specs.PairTables.{IsPairTable}
use Rattle.causes.specs.Tables.{IsKnownTable, IsPlaceTable}

-- the tables stand for these events
pub record AreTables (before : List Event) (tables : Tables) : Type 0 where
  pub places : IsPlaceTable before tables.places
  pub pairs : IsPairTable before tables.pairs
  pub known : IsKnownTable before tables.known
  pub world_is : tables.world ≡ world tables.ranks 0
  pub nobody_is : tables.nobody ≡ []
