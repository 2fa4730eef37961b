-- What a recording machine chooses where a run leaves a choice: the earliest partner and message, and the least index.
-- (MPI 3.1, Point-to-Point Communication, "Semantics of Point-to-Point Communication".)
use Rattle.std.specs.Prelude.{ℕ, zero, suc, List, Option, Some, None, Bool, false, not, ◌&&◌, ◌+◌, if◌then◌else◌, length, is_some, take}
use Rattle.mpi_call.specs.declared.call.Call.{Call}
use Rattle.mpi_call.specs.declared.call.Call.TheVariants.{Send, Peek}
use Rattle.mpi_call.specs.declared.call.TakeMode.{TakeMode}
use Rattle.mpi_call.specs.declared.call.TakeMode.TheVariants.{Any as AnyOne, TestAny}
use Rattle.mpi_call.specs.declared.reply.Reply.{Reply}
use Rattle.mpi_call.specs.Acceptance.{accepts}
use Rattle.run_model.specs.declared.event.Event.{Event}
use Rattle.run_model.specs.Views.{is_start}
use Rattle.run_model.specs.Pairs.{Name, name_at, named, pairs_of, partner_of, post_accepts}
use Rattle.run_model.specs.Allowed.{true_places}

-- a call of `rank` suits a start of `owner`: a Send a Post that accepts it, a Post or Peek a Send that it accepts
abbrev pub suits : ℕ → Call → ℕ → Call → Bool
suits rank (Send comm dest tag ints sync) owner start = post_accepts owner start rank (Send comm dest tag ints sync)
suits rank (Peek comm source tag wait) owner start = accepts rank comm source tag owner start
suits rank call owner start = post_accepts rank call owner start

-- the same, of a start that is there
abbrev pub suits_some : ℕ → Call → ℕ → Option Call → Bool
suits_some rank call owner None = false
suits_some rank call owner (Some start) = suits rank call owner start

-- the start of this name is unpaired, and the call of `rank` suits it
abbrev pub is_open_match : List Event → ℕ → Call → Option Name → Bool
is_open_match events rank call None = false
is_open_match events rank call (Some name) =
    not (is_some (partner_of (pairs_of events) name)) && suits_some rank call name.0 (named events name)

-- the least number that passes a test, of as many as are given from `at` on
abbrev pub least_passing : (ℕ → Bool) → ℕ → ℕ → Option ℕ
least_passing test at zero = None
least_passing test at (suc more) = if test at then Some at else least_passing test (at + 1) more

-- the position of the earliest unpaired start of the history that the call suits
abbrev pub choice : List Event → ℕ → Call → Option ℕ
choice events rank call = least_passing (λ at. is_open_match events rank call (name_at events at)) 0 (length events)

-- only a start gets a partner
abbrev pub chosen_mate : List Event → ℕ → Call → Reply → Option ℕ
chosen_mate events rank call reply = if is_start (call, reply) then choice events rank call else None

-- the places of the starts that a completion takes: of one start the least that is ready
abbrev pub chosen_places : TakeMode → List Bool → List ℕ
chosen_places AnyOne flags = take 1 (true_places 0 flags)
chosen_places TestAny flags = take 1 (true_places 0 flags)
chosen_places mode flags = true_places 0 flags
