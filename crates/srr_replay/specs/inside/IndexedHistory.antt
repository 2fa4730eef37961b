-- What a replay has seen so far.
use Rattle.std.specs.Prelude.{ℕ, List, option_map}
use Rattle.run_model.specs.declared.event.Event.{Event}
use Rattle.run_model.specs.Communicators.{Entered}
use Rattle.srr_replay.specs.declared.clash.Clash.{Clash}
use Rattle.srr_replay.specs.declared.indexed_history.Enter.{Enter}
use Rattle.replay_model.specs.declared.step.Found.{Found}

-- the number of ranks, and the events
pub record EventsSoFar : Type 0 where
  pub ranks : ℕ
  pub events : List Event

-- an Enter that was found
abbrev pub entered_of : Enter → Entered
entered_of found = record { number = found.number; call = found.call.now; members = option_map (λ members. members.now) found.members }

-- a start that disagrees
abbrev pub found_of : Clash → Found
found_of clash = record { rank = clash.rank; start = clash.start; call = clash.call.now }
