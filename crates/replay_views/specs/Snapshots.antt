-- Where the ranks of a replay stand.
use Rattle.std.specs.Prelude.{◌-◌, ℕ, List, [], ◌∷◌, Option, Some, None, length, slice_get}
use Rattle.mpi_call.specs.declared.call.Call.{Call}
use Rattle.mpi_call.specs.declared.reply.Reply.{Reply}
use Rattle.replay_model.specs.declared.replayed.Stand.{Stand}
use Rattle.replay_model.specs.declared.replayed.Stand.TheVariants.{LogEnded as StandLogEnded}
use Rattle.run_model.specs.declared.event.Event.{Event}
use Rattle.run_model.specs.declared.lists.Variable.{Variable}
use Rattle.run_model.specs.Views.{Next, View, replies_in, view_of}
use Rattle.replay_views.specs.declared.snapshot.Ahead.{Ahead}
use Rattle.replay_views.specs.declared.snapshot.Ahead.TheVariants.{Calls, Ended, LogEnded}
use Rattle.replay_views.specs.declared.snapshot.Snapshot.{Snapshot}
use Rattle.replay_views.specs.Watching.{Variables}

-- what is ahead of a rank by its stand: its next call, or that it has ended or its log has
abbrev pub ahead_of : Stand → Option Call → Ahead
ahead_of stand None = Ended
ahead_of StandLogEnded (Some call) = LogEnded
ahead_of stand (Some call) = Calls call

-- the last reply, if there is one
abbrev pub last_reply_in : List Reply → Option Reply
last_reply_in replies = slice_get replies (length replies - 1)

-- a rank that has ended has no variables
abbrev pub variables_by : Option Call → List Variable → List Variable
variables_by None variables = []
variables_by (Some call) variables = variables

-- where a rank stands that has seen this: what is ahead of it, by the number of its next call, its last reply, its variables
abbrev pub snapshot_of : Next → Variables → ℕ → ℕ → View → Stand → Snapshot
snapshot_of next variables n rank view stand =
    let replies = replies_in view in
    record {
      rank = rank;
      number = length view;
      ahead = ahead_of stand (next n rank replies);
      last = last_reply_in replies;
      variables = variables_by (next n rank replies) (variables n rank replies);
    }

-- where each rank of a group stands after some events, by the stand of each
abbrev pub snapshots_of : Next → Variables → ℕ → List Event → List ℕ → List Stand → List Snapshot
snapshots_of next variables n events [] stands = []
snapshots_of next variables n events (rank ∷ group) [] = []
snapshots_of next variables n events (rank ∷ group) (stand ∷ stands) =
    snapshot_of next variables n rank (view_of events rank) stand ∷ snapshots_of next variables n events group stands
