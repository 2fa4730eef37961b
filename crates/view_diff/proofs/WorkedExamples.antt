-- Worked examples, by computing.
use Rattle.std.proofs.Common.{◌≡◌, ℕ, [], ◌∷◌, Option, Some, None, true, false, ap, arith, refl, pos}
use Rattle.mpi_call.specs.declared.call.Call.{Call}
use Rattle.mpi_call.specs.declared.call.Call.TheVariants.{Send, Post, Take, End}
use Rattle.mpi_call.specs.declared.call.Halt.TheVariants.{Aborted, Stuck}
use Rattle.mpi_call.specs.declared.call.Source.TheVariants.{Any, From}
use Rattle.mpi_call.specs.declared.call.Tag.TheVariants.{Is}
use Rattle.mpi_call.specs.declared.call.TakeMode.TheVariants.{All, Any as AnyOne}
use Rattle.mpi_call.specs.declared.reply.Got.{Got}
use Rattle.mpi_call.specs.declared.reply.Got.TheVariants.{Message, Made}
use Rattle.mpi_call.specs.declared.reply.Reply.{Reply}
use Rattle.mpi_call.specs.declared.reply.Reply.TheVariants.{Done, Took, Stopped}
use Rattle.run_model.specs.Views.{View}
use Rattle.view_diff.specs.Bare.{bare}
use Rattle.view_diff.specs.Firsts.{is_told}
use Rattle.view_diff.specs.Opens.{got_from, open_receives_before}
use Rattle.view_diff.specs.Partings.{AreAlike, IsParting}

-- one start is completed
abbrev one : ℕ → Got → Reply
one index got = Took ((record { index = index; got = got }) ∷ [])

abbrev message : ℕ → ℕ → Got
message source start = Message source start 1 []

abbrev any_source : Call
any_source = Post 0 Any (Is 1) 0

abbrev take_first : Call
take_first = Take (0 ∷ []) All

-- the number of a new communicator is left out, its members are not
bare_made : bare (one 2 (Made 5 (1 ∷ 3 ∷ []))) ≡ one 2 (Made 0 (1 ∷ 3 ∷ []))
bare_made = refl

alike : AreAlike ((take_first, one 0 (Made 5 (1 ∷ 3 ∷ []))) ∷ []) ((take_first, one 0 (Made 7 (1 ∷ 3 ∷ []))) ∷ [])
alike = refl

-- a receive from any source takes another message
abbrev early : View
early = (any_source, Done) ∷ (take_first, one 0 (message 0 2)) ∷ (End, Done) ∷ []

abbrev late : View
late = (any_source, Done) ∷ (take_first, one 0 (message 1 0)) ∷ (End, Done) ∷ []

abbrev sender_in : Got → ℕ
sender_in (Message source start tag ints) = source
sender_in got = 64

abbrev first_sender : Option Reply → ℕ
first_sender (Some (Took (item ∷ items))) = sender_in item.got
first_sender reply = 64

parts_at_a_reply : IsParting early late 1
parts_at_a_reply = record { alike = refl; differ = λ same. (let senders : 0 ≡ 1 = ap first_sender same in absurd (omega (arith, senders))) }

-- one view has no call more
parts_at_an_end : IsParting early ((any_source, Done) ∷ []) 1
parts_at_an_end = record { alike = refl; differ = λ same. absurd (cc) }

-- rank 1 brought its own halt, and is told of others
own_halt : is_told 1 (Some (End, Stopped (Aborted 1 (pos 3)))) ≡ false
own_halt = refl

other_halt : is_told 0 (Some (End, Stopped (Aborted 1 (pos 3)))) ≡ true
other_halt = refl

stuck : is_told 1 (Some (End, Stopped Stuck)) ≡ true
stuck = refl

no_call : is_told 1 None ≡ false
no_call = refl

-- two receives from any source, with a send between them, and one from rank 1
abbrev server : View
server =
    (any_source, Done) ∷ (take_first, one 0 (message 0 2)) ∷ (Send 0 0 2 [] false, Done)
    ∷ (Post 0 Any (Is 3) 0, Done) ∷ (Post 0 (From 1) (Is 3) 0, Done)
    ∷ (Take (3 ∷ 2 ∷ []) AnyOne, one 1 (message 1 0)) ∷ (Take (3 ∷ []) All, one 0 (message 1 1)) ∷ []

open0 : open_receives_before server 0 ≡ []
open0 = refl

open1 : open_receives_before server 1 ≡ (0, any_source) ∷ []
open1 = refl

open2 : open_receives_before server 2 ≡ []
open2 = refl

open5 : open_receives_before server 5 ≡ (2, Post 0 Any (Is 3) 0) ∷ []
open5 = refl

open7 : open_receives_before server 7 ≡ []
open7 = refl

got0 : got_from server 0 ≡ (record { rank = 0; start = 2 }) ∷ (record { rank = 1; start = 0 }) ∷ []
got0 = refl

got2 : got_from server 2 ≡ (record { rank = 1; start = 0 }) ∷ []
got2 = refl

got6 : got_from server 6 ≡ []
got6 = refl

-- no run has it: the receive is completed before it is made
abbrev forged : View
forged = (take_first, one 0 (message 0 2)) ∷ (any_source, Done) ∷ []

open_forged : open_receives_before forged 2 ≡ []
open_forged = refl

got_forged : got_from forged 0 ≡ (record { rank = 0; start = 2 }) ∷ []
got_forged = refl
