-- The script: rank 0 sends a number of messages to rank 1, which completes each receive before it posts the next.
use Rattle.std.specs.Prelude.{◌*◌, ◌/◌, ◌%◌, ℕ, pos, List, [], ◌∷◌, Some, None, Bool, true, false, ◌==◌, ◌||◌, if◌then◌else◌, length, nat_lt}
use Rattle.std.specs.List.{list_any}
use Rattle.mpi_call.specs.declared.call.Call.{Call}
use Rattle.mpi_call.specs.declared.call.Call.TheVariants.{Send, Post, Take, End}
use Rattle.mpi_call.specs.declared.call.Source.TheVariants.{From}
use Rattle.mpi_call.specs.declared.call.Tag.TheVariants.{Is}
use Rattle.mpi_call.specs.declared.call.TakeMode.TheVariants.{All}
use Rattle.mpi_call.specs.declared.reply.Reply.{Reply}
use Rattle.mpi_call.specs.declared.reply.Reply.TheVariants.{Stopped}
use Rattle.run_model.specs.Views.{Next}

-- how many calls a rank makes before its End
abbrev pub calls_of : ℕ → ℕ → ℕ → ℕ
calls_of messages n rank =
    if nat_lt 1 n then (if rank == 0 then messages else (if rank == 1 then 2 * messages else 0)) else 0

-- the receiver's calls: it posts a receive and completes it, in turn
abbrev pub receive_at : ℕ → Call
receive_at k = if k % 2 == 0 then Post 0 (From 0) (Is 0) 1 else Take (k / 2 ∷ []) All

-- a rank's call with this number
abbrev pub call_at : ℕ → ℕ → ℕ → ℕ → Call
call_at messages n rank k =
    if nat_lt k (calls_of messages n rank) then (if rank == 0 then Send 0 1 0 (pos 7 ∷ []) false else receive_at k) else End

-- a reply that stops its rank
abbrev pub is_stopped : Reply → Bool
is_stopped (Stopped halt) = true
is_stopped reply = false

-- a rank has ended once it was stopped, or its End was answered
abbrev pub is_over : ℕ → ℕ → ℕ → List Reply → Bool
is_over messages n rank replies = list_any is_stopped replies || nat_lt (calls_of messages n rank) (length replies)

-- what a rank calls after these replies, or nothing where it is over
abbrev pub next_of : ℕ → Next
next_of messages n rank replies =
    if is_over messages n rank replies then None else Some (call_at messages n rank (length replies))
