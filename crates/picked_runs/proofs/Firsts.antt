-- Where nothing is picked, the event is a recording machine's.
use Rattle.std.proofs.Common.{◌≡◌, ◌∙◌, if◌then◌else◌, ◌++◌, ◌∷◌, ℕ, List, [], Bool, refl, ap, sym}
use Rattle.mpi_call.specs.declared.call.Call.{Call}
use Rattle.mpi_call.specs.declared.call.Call.TheVariants.{Send, Post, Enter, Take, Peek, Abort, Trap, End}
use Rattle.mpi_call.specs.declared.call.TakeMode.{TakeMode}
use Rattle.mpi_call.specs.declared.call.TakeMode.TheVariants.{All, Any as AnyOne, Several, TestAll, TestAny, TestSeveral}
use Rattle.mpi_call.specs.declared.reply.Item.{Item}
use Rattle.mpi_call.specs.declared.reply.Reply.{Reply}
use Rattle.run_model.specs.declared.event.Event.{Event}
use Rattle.run_model.specs.Allowed.{first_long, flags_of, mode_holds, taken_reply}
use Rattle.run_model.specs.Choice.{chosen_places, chosen_mate}
use Rattle.run_model.specs.Chosen.{IsChosenEvent, chosen_answer, chosen_event, halt_or, held_reply, items_at}
use Rattle.run_model.specs.Due.{due}
use Rattle.run_model.specs.Lists.{Along}
use Rattle.run_model.specs.Shape.{is_test}
use Rattle.run_model.specs.Views.{Next, View, moment_of, view_of}
use Rattle.picked_runs.specs.declared.turn.Pick.TheVariants.{First}
use Rattle.picked_runs.specs.Picks.{picked_answer, picked_event, picked_places}
use Rattle.picked_runs.specs.Picked.{ArePicked}
use Rattle.picked_runs.specs.PickLaws.{FirstPicksAreChosen}

first_places : (mode : TakeMode) (flags : List Bool) → picked_places mode flags First ≡ chosen_places mode flags
first_places All flags = refl
first_places TestAll flags = refl
first_places Several flags = refl
first_places TestSeveral flags = refl
first_places AnyOne flags = refl
first_places TestAny flags = refl

pub first_answer : (n : ℕ) (before : List Event) (me : ℕ) (own : View) (call : Call) → picked_answer n before me own call First ≡ chosen_answer n before me own call
first_answer n before me own (Take starts mode) =
    let flags : List Bool = flags_of (moment_of n before me own) starts in
    let R : List ℕ → Reply = λ places. (
    let items : List Item = items_at (moment_of n before me own) starts places in
    let taken : Reply = taken_reply me (first_long own starts items) items in
    if mode_holds mode flags then taken else held_reply (is_test mode)) in
    ap R (first_places mode flags)
first_answer n before me own (Peek comm source tag wait) = refl
first_answer n before me own (Send comm dest tag ints sync) = refl
first_answer n before me own (Post comm source tag room) = refl
first_answer n before me own (Enter comm kind root op count ints) = refl
first_answer n before me own (Abort code) = refl
first_answer n before me own (Trap fault) = refl
first_answer n before me own End = refl

pub first_event : (n : ℕ) (before : List Event) (me : ℕ) (call : Call) → picked_event n before me call First ≡ chosen_event n before me call
first_event n before me call =
    let E : Reply → Event = λ r. record { rank = me; call = call; reply = r; mate = chosen_mate before me call r; met = [] } in
    ap (λ a. E (halt_or (due n before me (view_of before me) call) a)) (first_answer n before me (view_of before me) call)

chosen_along : (n : ℕ) (before events : List Event) → ArePicked n before [] events → Along (IsChosenEvent n) before events
chosen_along n before [] picked = tt
chosen_along n before (event ∷ events) picked =
    (picked.0.event_is ∙ first_event n before event.rank event.call, chosen_along n (before ++ event ∷ []) events picked.1)

picked_along : (n : ℕ) (before events : List Event) → Along (IsChosenEvent n) before events → ArePicked n before [] events
picked_along n before [] chosen = tt
picked_along n before (event ∷ events) chosen =
    (record { offered = refl; event_is = chosen.0 ∙ sym (first_event n before event.rank event.call) }, picked_along n (before ++ event ∷ []) events chosen.1)

pub first_picks_are_chosen : (next : Next) (n : ℕ) → FirstPicksAreChosen next n
first_picks_are_chosen next n run = (
  λ p. record { run = p.run; along = chosen_along n [] run p.along },
  λ c. record { run = c.run; along = picked_along n [] run c.along },
)
