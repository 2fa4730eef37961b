-- Other picks of small histories, worked by hand.
use Rattle.std.proofs.Common.{◌≡◌, ◌∷◌, ℕ, List, [], Some, None, false, refl}
use Rattle.mpi_call.specs.declared.call.Call.TheVariants.{Post, Send}
use Rattle.mpi_call.specs.declared.call.Source.TheVariants.{Any, From}
use Rattle.mpi_call.specs.declared.call.Tag.TheVariants.{Any as AnyTag, Is}
use Rattle.mpi_call.specs.declared.reply.Reply.TheVariants.{Done}
use Rattle.run_model.specs.declared.event.Event.{Event}
use Rattle.picked_runs.specs.declared.turn.Pick.TheVariants.{First, Sender}
use Rattle.other_picks.specs.declared.other.OtherPick.{OtherPick}
use Rattle.other_picks.specs.OtherLaws.{turns_to}
use Rattle.other_picks.specs.Others.{others_of}

abbrev send : ℕ → ℕ → Event
send rank tag = record { rank = rank; call = Send 0 3 tag [] false; reply = Done; mate = None; met = [] }

abbrev pick : ℕ → ℕ → ℕ → OtherPick
pick at start sender = record { at = at; rank = 3; start = start; sender = sender }

-- three ranks send to rank 3, and it receives twice from any source
abbrev twice : List Event
twice =
    send 0 1 ∷ send 1 1 ∷ send 2 1 ∷ (record { rank = 3; call = Post 0 Any AnyTag 1; reply = Done; mate = Some 0; met = [] })
    ∷ (record { rank = 3; call = Post 0 Any AnyTag 1; reply = Done; mate = Some 2; met = [] }) ∷ []

-- the first receive could have taken the message of 1 or of 2, and the second one that of 1, which is there still
both_told : others_of 4 twice ≡ pick 3 0 1 ∷ pick 3 0 2 ∷ pick 4 1 1 ∷ []
both_told = refl

-- the turns of the last of them
its_turns : turns_to twice (First ∷ []) (pick 4 1 1)
    ≡ (record { rank = 0; pick = First }) ∷ (record { rank = 1; pick = First }) ∷ (record { rank = 2; pick = First }) ∷ (record { rank = 3; pick = First })
    ∷ (record { rank = 3; pick = Sender 1 }) ∷ []
its_turns = refl

-- a message with another tag, and a second one of the sender that was taken, are no others
abbrev by_tag : List Event
by_tag = send 0 1 ∷ send 0 1 ∷ send 1 2 ∷ (record { rank = 3; call = Post 0 Any (Is 1) 1; reply = Done; mate = Some 0; met = [] }) ∷ []

none_by_tag : others_of 4 by_tag ≡ []
none_by_tag = refl

-- nor is there another pick where a receive names its source, or came before its message
abbrev named : List Event
named = send 0 1 ∷ send 1 1 ∷ (record { rank = 3; call = Post 0 (From 1) AnyTag 1; reply = Done; mate = Some 1; met = [] }) ∷ []

none_named : others_of 4 named ≡ []
none_named = refl

abbrev early : List Event
early =
    (record { rank = 3; call = Post 0 Any AnyTag 1; reply = Done; mate = None; met = [] }) ∷ (record { rank = 0; call = Send 0 3 1 [] false; reply = Done; mate = Some 0; met = [] })
    ∷ send 1 1 ∷ []

none_early : others_of 4 early ≡ []
none_early = refl
