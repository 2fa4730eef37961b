-- Worked examples, by computing.
use Rattle.std.proofs.Common.{◌≡◌, ℕ, ℤ, List, [], ◌∷◌, Option, Some, None, true, codes, length, pos, refl}
use Rattle.mpi_call.specs.declared.call.Call.{Call}
use Rattle.mpi_call.specs.declared.call.Call.TheVariants.{Send, Post, Take, Peek, End}
use Rattle.mpi_call.specs.declared.call.Source.TheVariants.{Any, From}
use Rattle.mpi_call.specs.declared.call.Tag.TheVariants.{Is}
use Rattle.mpi_call.specs.declared.call.TakeMode.TheVariants.{All}
use Rattle.mpi_call.specs.declared.reply.Got.TheVariants.{Message}
use Rattle.mpi_call.specs.declared.reply.Reply.{Reply}
use Rattle.mpi_call.specs.declared.reply.Reply.TheVariants.{Done, Took, Peeked}
use Rattle.msg_races.specs.declared.names.Name.{Name}
use Rattle.rank_watch.specs.Innermost.{innermost_values}
use Rattle.replay_model.specs.declared.replayed.Stand.TheVariants.{Ended, LogEnded, AtBreak}
use Rattle.run_model.specs.declared.event.Event.{Event}
use Rattle.run_model.specs.declared.lists.Variable.{Variable}
use Rattle.run_model.specs.Views.{Next, View}
use Rattle.replay_views.specs.declared.changes.Change.{Change}
use Rattle.replay_views.specs.declared.snapshot.Ahead.TheVariants.{Calls, Ended as HasEnded, LogEnded as HasLogEnded}
use Rattle.replay_views.specs.declared.role.Role.{Role}
use Rattle.replay_views.specs.declared.role.Role.TheVariants.{Sent, Found, Took as TookIt}
use Rattle.replay_views.specs.Places.{MessagePlace, places_of}
use Rattle.replay_views.specs.Snapshots.{snapshot_of}
use Rattle.replay_views.specs.Watching.{Values, Variables, changes_of}

-- ---- variables of a name

abbrev variable : ℕ → List ℕ → ℤ → Variable
variable depth name value = record { depth = depth; name = name; values = value ∷ [] }

abbrev standing : List Variable
standing = variable 0 (codes "n") (pos 1) ∷ variable 1 (codes "m") (pos 2) ∷ variable 1 (codes "n") (pos 3) ∷ variable 1 (codes "k") (pos 4) ∷ []

-- the last one of the name hides the one further out
inner_is_told : innermost_values (codes "n") standing ≡ Some (pos 3 ∷ [])
inner_is_told = refl

none_of_the_name : innermost_values (codes "x") standing ≡ None
none_of_the_name = refl

-- ---- changes

abbrev one_value : ℤ → Option (List ℤ)
one_value value = Some (value ∷ [])

-- 0 before calls 0 and 1, 1 before calls 2 and 3, 0 before call 4, and the rank has ended then
abbrev there_and_back : Values
there_and_back [] = one_value (pos 0)
there_and_back (a ∷ []) = one_value (pos 0)
there_and_back (a ∷ b ∷ []) = one_value (pos 1)
there_and_back (a ∷ b ∷ c ∷ []) = one_value (pos 1)
there_and_back (a ∷ b ∷ c ∷ d ∷ []) = one_value (pos 0)
there_and_back replies = None

abbrev post : Call
post = Post 0 Any (Is 1) 1

abbrev five : View
five = (post, Done) ∷ (post, Done) ∷ (post, Done) ∷ (post, Done) ∷ (End, Done) ∷ []

abbrev change : ℕ → Option (List ℤ) → Option (List ℤ) → Change
change number old new = record { number = number; old = old; new = new }

each_change_is_told : changes_of there_and_back five
    ≡ change 0 None (one_value (pos 0)) ∷ change 2 (one_value (pos 0)) (one_value (pos 1)) ∷ change 4 (one_value (pos 1)) (one_value (pos 0))
    ∷ change 5 (one_value (pos 0)) None ∷ []
each_change_is_told = refl

-- a rank that made no call yet shows what stands before its first one
before_the_first : changes_of there_and_back [] ≡ change 0 None (one_value (pos 0)) ∷ []
before_the_first = refl

never_there : changes_of (λ replies. None) five ≡ []
never_there = refl

-- ---- places

abbrev event : ℕ → Call → Reply → Event
event rank call reply = record { rank = rank; call = call; reply = reply; mate = None; met = [] }

abbrev send : Call
send = Send 0 0 2 (pos 1 ∷ []) true

abbrev probe : Call
probe = Peek 0 (From 1) (Is 2) true

abbrev take_first : Call
take_first = Take (0 ∷ []) All

abbrev found : ℕ → ℕ → Reply
found source start = Peeked source start 2 1

abbrev took : ℕ → ℕ → Reply
took source start = Took ((record { index = 0; got = Message source start 2 (pos 1 ∷ []) }) ∷ [])

-- rank 1 posts, and sends 1.1 and 1.2; rank 0 finds both and takes 1.1
abbrev events : List Event
events =
    event 1 post Done ∷ event 1 send Done ∷ event 0 post Done ∷ event 1 send Done ∷ event 0 probe (found 1 1) ∷ event 0 take_first (took 1 1)
    ∷ event 0 probe (found 1 2) ∷ []

abbrev name : ℕ → ℕ → Name
name rank start = record { rank = rank; start = start }

abbrev place : ℕ → ℕ → Role → Call → Reply → MessagePlace
place rank number role call reply = record { rank = rank; number = number; role = role; call = call; reply = reply }

sent_found_and_taken : places_of (name 1 1) events (0 ∷ 1 ∷ [])
    ≡ place 0 1 Found probe (found 1 1) ∷ place 0 2 TookIt take_first (took 1 1) ∷ place 1 1 Sent send Done ∷ []
sent_found_and_taken = refl

never_taken : places_of (name 1 2) events (0 ∷ 1 ∷ []) ≡ place 0 3 Found probe (found 1 2) ∷ place 1 2 Sent send Done ∷ []
never_taken = refl

-- of a part of the ranks
outside_the_group : places_of (name 1 1) events (0 ∷ []) ≡ place 0 1 Found probe (found 1 1) ∷ place 0 2 TookIt take_first (took 1 1) ∷ []
outside_the_group = refl

-- a receive has the number, and no message has the name
no_message : places_of (name 1 0) events (0 ∷ 1 ∷ []) ≡ []
no_message = refl

-- ---- where a rank stands

-- two calls, with one variable
abbrev next : Next
next n rank [] = Some post
next n rank (a ∷ []) = Some take_first
next n rank replies = None

abbrev variables : Variables
variables n rank replies = variable 0 (codes "n") (pos (length replies)) ∷ []

abbrev one_call : View
one_call = (post, Done) ∷ []

before_a_call : snapshot_of next variables 2 0 one_call (AtBreak []) ≡ record {
  rank = 0;
  number = 1;
  ahead = Calls take_first;
  last = Some Done;
  variables = variable 0 (codes "n") (pos 1) ∷ [];
}
before_a_call = refl

before_its_first : snapshot_of next variables 2 0 [] (AtBreak []) ≡ record {
  rank = 0;
  number = 0;
  ahead = Calls post;
  last = None;
  variables = variable 0 (codes "n") (pos 0) ∷ [];
}
before_its_first = refl

at_its_logs_end : snapshot_of next variables 2 0 one_call LogEnded ≡ record {
  rank = 0;
  number = 1;
  ahead = HasLogEnded;
  last = Some Done;
  variables = variable 0 (codes "n") (pos 1) ∷ [];
}
at_its_logs_end = refl

at_its_end : snapshot_of next variables 2 0 ((post, Done) ∷ (take_first, took 1 1) ∷ []) Ended ≡ record {
  rank = 0;
  number = 2;
  ahead = HasEnded;
  last = Some (took 1 1);
  variables = [];
}
at_its_end = refl
