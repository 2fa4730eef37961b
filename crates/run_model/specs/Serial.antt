-- The run that ranks make one after the other: some turns in order, and then rounds over all ranks.
use Rattle.std.specs.Prelude.{◌≡◌, ◌<◌, ℕ, zero, suc, List, [], ◌∷◌, ◌++◌, Option, Some, None, Bool, false, not, ◌&&◌, ◌||◌, ◌==◌, if◌then◌else◌, is_some, filter}
use Rattle.std.specs.List.{list_all}
use Rattle.mpi_call.specs.declared.call.Call.{Call}
use Rattle.mpi_call.specs.Members.{is_member}
use Rattle.run_model.specs.declared.event.Event.{Event}
use Rattle.run_model.specs.Lists.{world}
use Rattle.run_model.specs.Views.{Next, view_of, replies_in}
use Rattle.run_model.specs.Allowed.{can_go}
use Rattle.run_model.specs.Chosen.{chosen_event}

-- the events so far, and the ranks that wait since their last attempt
pub record Stage : Type 0 where
  pub events : List Event
  pub waiting : List ℕ

-- a rank's next call; a rank is live where it has one
abbrev pub call_after : Next → ℕ → List Event → ℕ → Option Call
call_after next n events rank = next n rank (replies_in (view_of events rank))

-- a live rank's next call can go
abbrev pub next_can_go : ℕ → List Event → ℕ → Option Call → Bool
next_can_go n events rank None = false
next_can_go n events rank (Some call) = can_go n events rank (view_of events rank) call

-- no live rank's next call can go
abbrev pub is_stuck : Next → ℕ → List Event → Bool
is_stuck next n events = list_all (λ rank. not (next_can_go n events rank (call_after next n events rank))) (world n 0)

-- all other live ranks wait
abbrev pub others_wait : Next → ℕ → Stage → ℕ → Bool
others_wait next n stage rank =
    list_all (λ other. (other == rank) || (not (is_some (call_after next n stage.events other)) || is_member stage.waiting other)) (world n 0)

-- a rank attempts, and its call is answered
abbrev pub with_chosen_event : ℕ → Stage → ℕ → Call → Stage
with_chosen_event n stage rank call =
    record { events = stage.events ++ chosen_event n stage.events rank call ∷ []; waiting = filter (λ other. not (other == rank)) stage.waiting }

-- an attempt: a rank that is not live makes none; a call that can go is answered; a call that cannot is stuck where no
-- call can go and all others wait; else the rank waits
abbrev pub attempt_with : Next → ℕ → Stage → ℕ → Option Call → Stage
attempt_with next n stage rank None = stage
attempt_with next n stage rank (Some call) =
    if can_go n stage.events rank (view_of stage.events rank) call then with_chosen_event n stage rank call
    else if is_stuck next n stage.events && others_wait next n stage rank then with_chosen_event n stage rank call
    else record stage { waiting = rank ∷ stage.waiting }

-- a rank attempts with its next call
abbrev pub attempt : Next → ℕ → Stage → ℕ → Stage
attempt next n stage rank = attempt_with next n stage rank (call_after next n stage.events rank)

-- these ranks attempt in order
abbrev pub attempts : Next → ℕ → Stage → List ℕ → Stage
attempts next n stage [] = stage
attempts next n stage (rank ∷ ranks) = attempts next n (attempt next n stage rank) ranks

-- a number of rounds over all ranks, rising
abbrev pub rounds : Next → ℕ → ℕ → Stage → Stage
rounds next n zero stage = stage
rounds next n (suc more) stage = rounds next n more (attempts next n stage (world n 0))

-- no events, and no rank waits
abbrev pub first_stage : Stage
first_stage = record { events = []; waiting = [] }

-- the events of these turns and of as many rounds as it takes until no rank is live
pub record IsSerial (next : Next) (n : ℕ) (turns : List ℕ) (events : List Event) : Type 0 where
  pub count : ℕ
  pub made : (rounds next n count (attempts next n first_stage turns)).events ≡ events
  pub ended : (rank : ℕ) → rank < n → call_after next n events rank ≡ None
