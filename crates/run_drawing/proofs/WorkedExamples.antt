-- Drawings of small runs, worked by hand.
use Rattle.std.proofs.Common.{◌≡◌, ◌+◌, List, [], ◌∷◌, ℕ, Bool, Option, None, Some, true, false, refl}
use Rattle.mpi_call.specs.declared.call.Call.{Call}
use Rattle.mpi_call.specs.declared.call.Call.TheVariants.{End, Enter, Peek, Post, Send, Take}
use Rattle.mpi_call.specs.declared.call.Halt.TheVariants.{Stuck}
use Rattle.mpi_call.specs.declared.call.Kind.TheVariants.{Barrier}
use Rattle.mpi_call.specs.declared.call.Source.TheVariants.{Any, From, Null}
use Rattle.mpi_call.specs.declared.call.Tag.TheVariants.{Any as AnyTag, Is}
use Rattle.mpi_call.specs.declared.call.TakeMode.TheVariants.{All}
use Rattle.mpi_call.specs.declared.reply.Got.TheVariants.{Joined, Message as GotMessage, Sent}
use Rattle.mpi_call.specs.declared.reply.Reply.{Reply}
use Rattle.mpi_call.specs.declared.reply.Reply.TheVariants.{Done, Peeked, Stopped, Took}
use Rattle.run_model.specs.declared.event.Event.{Event}
use Rattle.run_model.specs.Pairs.{pairs_of, partner_of}
use Rattle.run_model.specs.Views.{view_of}
use Rattle.run_drawing.specs.declared.drawing.DrawnMark.{DrawnMark}
use Rattle.run_drawing.specs.declared.drawing.Point.{Point}
use Rattle.run_drawing.specs.Basis.{Basis}
use Rattle.run_drawing.specs.Drawings.{drawn}

abbrev event_of : ℕ → Call → Reply → Option ℕ → Event
event_of rank call reply mate = record { rank = rank; call = call; reply = reply; mate = mate; met = [] }

abbrev mark : ℕ → ℕ → ℕ → Bool → DrawnMark
mark rank number column is_wild = record { rank = rank; number = number; column = column; is_wild = is_wild }

abbrev at : ℕ → ℕ → Point
at rank column = record { rank = rank; column = column }

-- no event of these is before a message that could have come instead
abbrev basis_of : ℕ → List Event → List ℕ → Basis
basis_of n events depths = record { ranks = n; events = events; depths = depths; before = λ t u. false }

-- 1. the first program: rank 0 sends to rank 1, each in a group of its own

abbrev first : List Event
first =
    event_of 0 (Send 0 1 5 [] false) Done None
    ∷ event_of 0 End Done None
    ∷ event_of 1 (Post 0 (From 0) (Is 5) 1) Done (Some 0)
    ∷ event_of 1 (Take (0 ∷ []) All) (Took (record { index = 0; got = GotMessage 0 0 5 [] } ∷ [])) None
    ∷ event_of 1 End Done None
    ∷ []

first_drawn : drawn ((0 ∷ []) ∷ (1 ∷ []) ∷ []) (basis_of 2 first (0 ∷ 1 ∷ 0 ∷ 1 ∷ 2 ∷ [])) ≡ record {
  groups = 0 ∷ 1 ∷ [];
  columns = 3;
  marks = mark 0 0 0 false ∷ mark 0 1 1 false ∷ mark 1 0 0 false ∷ mark 1 1 1 false ∷ mark 1 2 2 false ∷ [];
  receives = record { rank = 1; from = 0; to = 1; is_wild = false; message = Some (record { sender = at 0 0; choices = [] }) } ∷ [];
  collectives = [];
  probes = [];
  unreceived = [];
}
first_drawn = refl

-- 2. rank 0 takes the message of rank 1 and then that of rank 2, each from any source: the first time that of rank 2 could have come
-- instead; the second time the message of rank 1 was taken before

abbrev took : ℕ → Reply
took rank = Took (record { index = 0; got = GotMessage rank 0 9 [] } ∷ [])

abbrev raced : List Event
raced =
    event_of 1 (Send 0 0 9 [] false) Done None
    ∷ event_of 2 (Send 0 0 9 [] false) Done None
    ∷ event_of 0 (Post 0 Any AnyTag 1) Done (Some 0)
    ∷ event_of 0 (Take (0 ∷ []) All) (took 1) None
    ∷ event_of 0 (Post 0 Any (Is 9) 1) Done (Some 1)
    ∷ event_of 0 (Take (1 ∷ []) All) (took 2) None
    ∷ []

raced_drawn : drawn ((0 ∷ 1 ∷ 2 ∷ []) ∷ []) (basis_of 3 raced (0 ∷ 0 ∷ 0 ∷ 1 ∷ 2 ∷ 3 ∷ [])) ≡ record {
  groups = 0 ∷ 0 ∷ 0 ∷ [];
  columns = 4;
  marks = mark 0 0 0 false ∷ mark 0 1 1 true ∷ mark 0 2 2 false ∷ mark 0 3 3 true ∷ mark 1 0 0 false ∷ mark 2 0 0 false ∷ [];
  receives =
      record { rank = 0; from = 0; to = 1; is_wild = true; message = Some (record { sender = at 1 0; choices = at 2 0 ∷ [] }) }
      ∷ record { rank = 0; from = 2; to = 3; is_wild = true; message = Some (record { sender = at 2 0; choices = [] }) }
      ∷ [];
  collectives = [];
  probes = [];
  unreceived = [];
}
raced_drawn = refl

-- 3. rank 1 sends, and then enters the barrier: rank 0 had to wait for it; nobody takes the message

abbrev barrier : Call
barrier = Enter 0 Barrier None None 0 []

abbrev met : List Event
met =
    event_of 0 barrier Done None
    ∷ event_of 1 (Send 0 0 9 [] false) Done None
    ∷ event_of 1 barrier Done None
    ∷ event_of 0 (Take (0 ∷ []) All) (Took (record { index = 0; got = Joined [] } ∷ [])) None
    ∷ event_of 1 (Take (1 ∷ []) All) (Took (record { index = 0; got = Joined [] } ∷ [])) None
    ∷ []

met_drawn : drawn ((0 ∷ 1 ∷ []) ∷ []) (basis_of 2 met (0 ∷ 0 ∷ 1 ∷ 2 ∷ 2 ∷ [])) ≡ record {
  groups = 0 ∷ 0 ∷ [];
  columns = 3;
  marks = mark 0 0 0 false ∷ mark 0 1 2 false ∷ mark 1 0 0 false ∷ mark 1 1 1 false ∷ mark 1 2 2 false ∷ [];
  receives = [];
  collectives =
      record { rank = 0; from = 0; to = 2; latest = Some (at 1 1) }
      ∷ record { rank = 1; from = 1; to = 2; latest = None }
      ∷ [];
  probes = [];
  unreceived = record { rank = 1; column = 0; receiver = 0 } ∷ [];
}
met_drawn = refl

-- 4. rank 1 finds a message and waits for another one: both ranks are stuck, behind all others

abbrev stuck : List Event
stuck =
    event_of 0 (Send 0 1 9 [] false) Done None
    ∷ event_of 1 (Peek 0 Any AnyTag true) (Peeked 0 0 9 0) None
    ∷ event_of 1 (Post 0 (From 0) (Is 8) 0) Done None
    ∷ event_of 1 (Post 0 Null (Is 8) 0) Done None
    ∷ event_of 1 (Take (0 ∷ []) All) (Stopped Stuck) None
    ∷ event_of 0 (Peek 0 Any AnyTag true) (Stopped Stuck) None
    ∷ []

stuck_drawn : drawn ((0 ∷ 1 ∷ []) ∷ []) (basis_of 2 stuck (0 ∷ 1 ∷ 2 ∷ 3 ∷ 4 ∷ 1 ∷ [])) ≡ record {
  groups = 0 ∷ 0 ∷ [];
  columns = 5;
  marks = mark 0 0 0 false ∷ mark 0 1 4 false ∷ mark 1 0 1 false ∷ mark 1 1 2 false ∷ mark 1 2 3 false ∷ mark 1 3 4 false ∷ [];
  receives = record { rank = 1; from = 2; to = 4; is_wild = false; message = None } ∷ [];
  collectives = [];
  probes = record { from = at 0 0; to = at 1 1 } ∷ [];
  unreceived = record { rank = 0; column = 0; receiver = 1 } ∷ [];
}
stuck_drawn = refl

-- 5. views alone do not tell a drawing: ranks 0 and 2 each send to rank 1 and wait until they are matched, and rank 1 completes neither of its
-- two receives from any source. Who sent first has the first receive, and so the other one's wait stands to the right

abbrev crossed : ℕ → ℕ → List Event
crossed one other =
    event_of 1 (Post 0 Any AnyTag 1) Done None
    ∷ event_of 1 (Post 0 Any AnyTag 1) Done None
    ∷ event_of one (Send 0 1 9 [] true) Done (Some 0)
    ∷ event_of other (Send 0 1 9 [] true) Done (Some 1)
    ∷ event_of 0 (Take (0 ∷ []) All) (Took (record { index = 0; got = Sent } ∷ [])) None
    ∷ event_of 2 (Take (0 ∷ []) All) (Took (record { index = 0; got = Sent } ∷ [])) None
    ∷ event_of 0 End Done None
    ∷ event_of 1 End Done None
    ∷ event_of 2 End Done None
    ∷ []

same_views_0 : view_of (crossed 0 2) 0 ≡ view_of (crossed 2 0) 0
same_views_0 = refl

same_views_1 : view_of (crossed 0 2) 1 ≡ view_of (crossed 2 0) 1
same_views_1 = refl

same_views_2 : view_of (crossed 0 2) 2 ≡ view_of (crossed 2 0) 2
same_views_2 = refl

first_of_0 : partner_of (pairs_of (crossed 0 2)) (0, 0) ≡ Some (1, 0)
first_of_0 = refl

second_of_0 : partner_of (pairs_of (crossed 2 0)) (0, 0) ≡ Some (1, 1)
second_of_0 = refl

abbrev waits_at : ℕ → ℕ → List DrawnMark
waits_at one other =
    mark 0 0 0 false
    ∷ mark 0 1 one false
    ∷ mark 0 2 (one + 1) false
    ∷ mark 1 0 0 false
    ∷ mark 1 1 1 false
    ∷ mark 1 2 2 false
    ∷ mark 2 0 0 false
    ∷ mark 2 1 other false
    ∷ mark 2 2 (other + 1) false
    ∷ []

zero_first : (drawn ((0 ∷ 1 ∷ 2 ∷ []) ∷ []) (basis_of 3 (crossed 0 2) (0 ∷ 1 ∷ 0 ∷ 0 ∷ 1 ∷ 2 ∷ 2 ∷ 2 ∷ 3 ∷ []))).marks ≡ waits_at 1 2
zero_first = refl

two_first : (drawn ((0 ∷ 1 ∷ 2 ∷ []) ∷ []) (basis_of 3 (crossed 2 0) (0 ∷ 1 ∷ 0 ∷ 0 ∷ 2 ∷ 1 ∷ 3 ∷ 2 ∷ 2 ∷ []))).marks ≡ waits_at 2 1
two_first = refl
