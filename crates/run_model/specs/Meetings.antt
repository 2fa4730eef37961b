-- What may meet after a history.
use Rattle.std.specs.Prelude.{◌≡◌, List, [], ◌∷◌, ◌++◌, None}
use Rattle.run_model.specs.declared.event.Event.{Event}
use Rattle.run_model.specs.Pairs.{AreMatched, Name, named, pairs_of, partner_of}

-- two starts can meet after a history: neither is paired, and with their pair the conditions hold
pub record CanMeet (events : List Event) (pair : Name × Name) : Type 0 where
  pub one_free : partner_of (pairs_of events) pair.0 ≡ None
  pub other_free : partner_of (pairs_of events) pair.1 ≡ None
  pub matched : AreMatched (named events) (pairs_of events ++ pair ∷ [])

-- an event after which this pair meets too, last
abbrev pub then_meets : Event → Name × Name → Event
then_meets event pair = record { rank = event.rank; call = event.call; reply = event.reply; mate = event.mate; met = event.met ++ pair ∷ [] }
