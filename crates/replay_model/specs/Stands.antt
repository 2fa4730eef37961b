-- Where each rank stands in a replay, and what a whole replay gives.
use Rattle.std.specs.Prelude.{◌≡◌, ℕ, List, Option, Some, None, map}
use Rattle.mpi_call.specs.declared.call.Call.{Call}
use Rattle.mpi_call.specs.declared.reply.Reply.{Reply}
use Rattle.run_model.specs.declared.event.Event.{Event}
use Rattle.run_model.specs.declared.lists.Variable.{Variable}
use Rattle.run_model.specs.Views.{Next, view_of, replies_in}
use Rattle.srr_entry.specs.declared.log.Log.{Log}
use Rattle.srr_entry.specs.Outputs.{Output, printed_of}
use Rattle.replay_model.specs.declared.step.Step.{Step}
use Rattle.replay_model.specs.declared.step.Step.TheVariants.{Replied, Wait, LogEnded, AtBreak, Diverged}
use Rattle.replay_model.specs.declared.replayed.Stand.{Stand}
use Rattle.replay_model.specs.declared.replayed.Stand.TheVariants.{Ended, LogEnded as StandLogEnded, AtBreak as StandAtBreak, Diverged as StandDiverged, Starved}
use Rattle.replay_model.specs.declared.replayed.Replayed.{Replayed}
use Rattle.replay_model.specs.Replays.{Breakpoint, Replays, IsExhausted, replay_answer}

-- the stand of a live rank by the answer to its next call; none where it has a step
abbrev pub stand_by : List Variable → Step → Option Stand
stand_by variables AtBreak = Some (StandAtBreak variables)
stand_by variables LogEnded = Some StandLogEnded
stand_by variables (Diverged divergence) = Some (StandDiverged divergence)
stand_by variables (Wait missing) = Some (Starved missing)
stand_by variables (Replied reply) = None

-- the stand of a rank by its next call
abbrev pub stand_where : Option Call → List Variable → (Call → Step) → Option Stand
stand_where None variables answer = Some Ended
stand_where (Some call) variables answer = stand_by variables (answer call)

-- a rank's stand after some events
abbrev pub stand_of : Next → (ℕ → ℕ → List Reply → List Variable) → Log → Breakpoint → List Event → ℕ → Option Stand
stand_of next variables log stop events rank =
    stand_where (next log.ranks rank (replies_in (view_of events rank)))
    (variables log.ranks rank (replies_in (view_of events rank)))
    (replay_answer log stop (view_of events) rank (view_of events rank))

-- a whole replay: its events replay the log in order and can go no further; each rank's output and stand are the program's
pub record IsReplayed (next : Next) (output : Output) (variables : ℕ → ℕ → List Reply → List Variable) (log : Log) (stop : Breakpoint) (replayed : Replayed) : Type 0 where
  pub group : replayed.group ≡ log.group
  pub replays : Replays next log stop replayed.events.events
  pub exhausted : IsExhausted next log stop replayed.events.events
  pub outputs : replayed.outputs ≡ map (printed_of output log.ranks replayed.events.events) log.group
  pub ends : map Some replayed.ends ≡ map (stand_of next variables log stop replayed.events.events) log.group
