-- What a matcher finds for a receive.
use Rattle.std.proofs.Common.{◌≡◌, ◌∙◌, ◌&&◌, ℕ, List, Option, None, Bool, false, inl, inr, is_some, not, ap, sym}
use Rattle.mpi_call.specs.declared.call.Call.TheVariants.{Post, Peek}
use Rattle.mpi_call.specs.declared.call.Halt.{Halt}
use Rattle.mpi_call.specs.declared.call.Source.{Source}
use Rattle.mpi_call.specs.declared.call.Source.TheVariants.{Any, From}
use Rattle.mpi_call.specs.declared.call.Tag.{Tag}
use Rattle.run_model.specs.declared.event.Event.{Event}
use Rattle.run_model.specs.Choice.{choice}
use Rattle.run_model.specs.Due.{due}
use Rattle.run_model.specs.Views.{view_of}
use Rattle.run_model.proofs.Choosing.{IsOpenAt, choice_is, choice_is_none, choice_none, choice_some}
use Rattle.run_model.proofs.Views.{option_cases}
use Rattle.picked_runs.specs.declared.turn.Pick.TheVariants.{Sender}
use Rattle.picked_runs.specs.Picks.{has_pick, picked_choice}

as_post : (before : List Event) (rank comm : ℕ) (source : Source) (tag : Tag) (wait : Bool) (room at : ℕ) → IsOpenAt before rank (Peek comm source tag wait) at
    → IsOpenAt before rank (Post comm source tag room) at
as_post before rank comm source tag wait room at o =
    record { name = o.name; start = o.start; there = o.there; made = o.made; free = o.free; suited = o.suited }

as_probe : (before : List Event) (rank comm : ℕ) (source : Source) (tag : Tag) (wait : Bool) (room at : ℕ) → IsOpenAt before rank (Post comm source tag room) at
    → IsOpenAt before rank (Peek comm source tag wait) at
as_probe before rank comm source tag wait room at o =
    record { name = o.name; start = o.start; there = o.there; made = o.made; free = o.free; suited = o.suited }

-- a probe finds what a receive would take, whatever its room
found_same : (before : List Event) (rank comm : ℕ) (source : Source) (tag : Tag) (wait : Bool) (room : ℕ)
    → is_some (choice before rank (Post comm source tag room)) ≡ is_some (choice before rank (Peek comm source tag wait))
found_same before rank comm source tag wait room =
    elim (option_cases (choice before rank (Peek comm source tag wait))) [
      | inl some ↦ (
          let c = choice_some before rank (Peek comm source tag wait) some.0 some.1 in
          ap is_some (choice_is before rank (Post comm source tag room) some.0 (record {
            chosen = as_post before rank comm source tag wait room some.0 c.chosen;
            first = λ other o. c.first other (as_probe before rank comm source tag wait room other o);
          }))
          ∙ sym (ap is_some some.1))
      | inr none ↦
          ap is_some (choice_is_none before rank (Post comm source tag room) (λ at o.
          choice_none before rank (Peek comm source tag wait) none at (as_probe before rank comm source tag wait room at o)))
          ∙ sym (ap is_some none)
    ]

-- a receive from any source could have picked a sender of whom a probe finds a message for it
pub offered_by : (n : ℕ) (before : List Event) (rank comm : ℕ) (tag : Tag) (room sender : ℕ) → due n before rank (view_of before rank) (Post comm Any tag room) ≡ None
    → has_pick n before rank (Post comm Any tag room) (Sender sender) ≡ is_some (choice before rank (Peek comm (From sender) tag false))
offered_by n before rank comm tag room sender none =
    ap (λ (halt : Option Halt). not (is_some halt) && is_some (picked_choice before rank (Post comm Any tag room) (Sender sender))) none
    ∙ found_same before rank comm (From sender) tag false room
