-- What is looked up in the events of a history.
use Rattle.msg_races.specs.declared.seen.SeenHistory.{SeenHistory}
use Rattle.msg_races.specs.inside.Completions.{AreCompletions}
use Rattle.msg_races.specs.Ways.{AreSends}

-- the Sends and the completions of the events whose clocks are known
pub record IsSeenByRaces (seen : SeenHistory) : Type 0 where
  pub sends : AreSends seen.causes.events seen.sends
  pub completions : AreCompletions seen.causes.events seen.completions
