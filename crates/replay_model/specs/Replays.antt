-- Replays of a group from its log: lists of events, each a step after those before it.
use Rattle.std.specs.Prelude.{◌≡◌, ℕ, List, [], ◌∷◌, ◌++◌, Option, Some, None, Bool, true, false, ◌&&◌, ◌==◌, if◌then◌else◌, length, slice_get, Result, Ok, Err}
use Rattle.mpi_call.specs.declared.call.Call.{Call}
use Rattle.mpi_call.specs.declared.reply.Reply.{Reply}
use Rattle.mpi_call.specs.Collectives.{is_member}
use Rattle.run_model.specs.declared.event.Event.{Event}
use Rattle.run_model.specs.Lists.{Along}
use Rattle.run_model.specs.Views.{View, Next, view_of, replies_in}
use Rattle.srr_entry.specs.declared.entry.Entry.{Entry}
use Rattle.srr_entry.specs.declared.log.Log.{Log}
use Rattle.srr_entry.specs.Entries.{entries_for}
use Rattle.replay_model.specs.declared.step.Found.{Found}
use Rattle.replay_model.specs.declared.step.Missing.{Missing}
use Rattle.replay_model.specs.declared.step.Step.{Step}
use Rattle.replay_model.specs.declared.step.Step.TheVariants.{Replied, Wait, LogEnded, AtBreak, Diverged}
use Rattle.replay_model.specs.Fits.{entry_fits}
use Rattle.replay_model.specs.Filling.{Asker, asker_of, filled_reply}
use Rattle.replay_model.specs.Breaks.{broken}

-- a rank and the number of the call that it stops before
abbrev pub Breakpoint : Type 0
Breakpoint = Option (ℕ × ℕ)

-- whether a breakpoint is at a call of a rank
abbrev pub is_break : Breakpoint → ℕ → ℕ → Bool
is_break None rank number = false
is_break (Some at) rank number = (at.0 == rank) && (at.1 == number)

-- a call that does not fit its entry, with the start that does not agree, where one is found
abbrev pub diverged : ℕ → View → Call → Entry → Option Found → Step
diverged me own call entry found =
    Diverged (record { rank = me; call_number = length own; entry = entry; call = call; found = found })

-- first what is missing, then a replayed start that disagrees, else the reply
abbrev pub judged : ℕ → View → Call → Entry → Result Reply Missing → Option Found → Step
judged me own call entry (Err missing) found = Wait missing
judged me own call entry (Ok reply) (Some found) = diverged me own call entry (Some found)
judged me own call entry (Ok reply) None = Replied reply

-- the answer to the asking rank's call by an entry, or at the log's end
abbrev pub entry_answer : List ℕ → (ℕ → View) → Asker → Call → Option Entry → Step
entry_answer group V asker call None = LogEnded
entry_answer group V asker call (Some entry) =
    if entry_fits asker.ranks group asker.me asker.own call entry
    then judged asker.me asker.own call entry (filled_reply asker.ranks V asker.me asker.own call entry)
    (broken asker.ranks V asker.me asker.own call entry)
    else diverged asker.me asker.own call entry None

-- the answer to rank `me`'s call: at its breakpoint, at its log's end, or by its next entry
abbrev pub replay_answer : Log → Breakpoint → (ℕ → View) → ℕ → View → Call → Step
replay_answer log stop V me own call =
    if is_break stop me (length own) then AtBreak
    else entry_answer log.group V (asker_of log.ranks me own) call (slice_get (entries_for log.group log.lists me) (length own))

-- an answer that makes no event and copies nothing
abbrev pub copies_nothing : Step → Bool
copies_nothing (Replied reply) = false
copies_nothing (Diverged divergence) = false
copies_nothing step = true

-- the event that a reply makes
abbrev pub replied_event : ℕ → Call → Reply → Event
replied_event rank call reply = record { rank = rank; call = call; reply = reply; mate = None; met = [] }

-- the events after an answer
abbrev pub events_after : List Event → ℕ → Call → Step → List Event
events_after events rank call (Replied reply) = events ++ replied_event rank call reply ∷ []
events_after events rank call step = events

-- an event of a rank of the group: its program's next call, answered by the log's next entry
pub record IsReplayStep (next : Next) (log : Log) (stop : Breakpoint) (before : List Event) (event : Event) : Type 0 where
  pub member : is_member log.group event.rank ≡ true
  pub call : next log.ranks event.rank (replies_in (view_of before event.rank)) ≡ Some event.call
  pub reply : replay_answer log stop (view_of before) event.rank (view_of before event.rank) event.call ≡ Replied event.reply
  pub mate : event.mate ≡ None
  pub alone : event.met ≡ []

-- events each of which is a step of the replay after those before it
abbrev pub Replays : Next → Log → Breakpoint → List Event → Type 0
Replays next log stop events = Along (IsReplayStep next log stop) [] events

-- no rank of the group has a step
abbrev pub IsExhausted : Next → Log → Breakpoint → List Event → Type 0
IsExhausted next log stop events = (event : Event) → IsReplayStep next log stop events event → ⊥

-- a replay that can go no further
pub record IsWholeReplay (next : Next) (log : Log) (stop : Breakpoint) (events : List Event) : Type 0 where
  pub replays : Replays next log stop events
  pub exhausted : IsExhausted next log stop events

-- what contracts see of a replay
pub record ReplayState (P : Type 0) : Type 0 where
  pub program : P
  pub log : Log
  pub stop : Breakpoint
  pub events : List Event
