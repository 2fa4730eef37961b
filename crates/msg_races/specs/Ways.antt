-- Where Sends go, and the positions of the Sends that go a way.
use Rattle.std.specs.Prelude.{◌≡◌, ◌&&◌, ◌==◌, ℕ, Bool, List, Option, Some, None, nat_eq}
use Rattle.std.specs.Option.{option_eq}
use Rattle.std.specs.Ordering.{eq_of_both, on}
use Rattle.mpi_call.specs.declared.call.Source.TheVariants.{Any}
use Rattle.mpi_call.specs.declared.call.Tag.{Tag}
use Rattle.mpi_call.specs.declared.call.Tag.TheVariants.{Any as AnyTag, Is}
use Rattle.mpi_call.specs.Acceptance.{accepts}
use Rattle.run_model.specs.declared.event.Event.{Event}
use Rattle.run_model.specs.Views.{is_start}
use Rattle.causes.specs.Positions.{positions}
use Rattle.causes.specs.PositionTables.{positions_by}
use Rattle.msg_races.specs.declared.sends.Way.{Way}

-- all parts of two ways are equal
abbrev pub same_way : Way → Way → Bool
same_way =
    eq_of_both (on (λ (w : Way). w.sender) ◌==◌)
    (eq_of_both (on (λ (w : Way). w.comm) ◌==◌)
    (eq_of_both (on (λ (w : Way). w.receiver) ◌==◌)
    (on (λ (w : Way). w.tag) (option_eq nat_eq))))

-- the receive's tag that names this
abbrev pub named_tag : Option ℕ → Tag
named_tag None = AnyTag
named_tag (Some tag) = Is tag

-- the event is a Send that goes the way: a receive there from any sender accepts it
abbrev pub goes_way : Way → Event → Bool
goes_way way event =
    is_start (event.call, event.reply) && ((event.rank == way.sender) && accepts way.receiver way.comm Any (named_tag way.tag) event.rank event.call)

-- the positions that a table has for a way
abbrev pub sent_at : List (Way × List ℕ) → Way → List ℕ
sent_at = positions_by same_way

-- the positions of the Sends of these events, by their ways
pub record AreSends (events : List Event) (table : List (Way × List ℕ)) : Type 0 where
  pub each : (way : Way) → sent_at table way ≡ positions (goes_way way) 0 events
