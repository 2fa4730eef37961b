-- The text of where the ranks of a replay stand.
use Rattle.std.specs.Prelude.{ℕ, List, [], ◌++◌, Option, Some, None, codes, flat_map}
use Rattle.mpi_call.specs.declared.reply.Reply.{Reply}
use Rattle.replay_views.specs.declared.snapshot.Ahead.{Ahead}
use Rattle.replay_views.specs.declared.snapshot.Ahead.TheVariants.{Calls, Ended, LogEnded}
use Rattle.replay_views.specs.declared.snapshot.Snapshot.{Snapshot}
use Rattle.run_text.specs.CallTexts.{call_text, reply_text}
use Rattle.wiz_base.specs.Decimals.{decimal_text}
use Rattle.wiz_trace.specs.TraceTexts.{variable_text}

-- call K CALL · ended · log ended
abbrev pub ahead_text : ℕ → Ahead → List ℕ
ahead_text number (Calls call) = codes " call " ++ decimal_text number ++ codes " " ++ call_text call ++ codes "\n"
ahead_text number Ended = codes " ended\n"
ahead_text number LogEnded = codes " log ended\n"

-- last REPLY, no line where no call was answered
abbrev pub last_text : Option Reply → List ℕ
last_text None = []
last_text (Some reply) = codes "last " ++ reply_text reply ++ codes "\n"

-- rank R and what is ahead of it, its last reply, and its variables
abbrev pub snapshot_text : Snapshot → List ℕ
snapshot_text snapshot =
    codes "rank " ++ decimal_text snapshot.rank ++ ahead_text snapshot.number snapshot.ahead ++ last_text snapshot.last
    ++ flat_map variable_text snapshot.variables

-- the part of each rank
abbrev pub snapshots_text : List Snapshot → List ℕ
snapshots_text snapshots = flat_map snapshot_text snapshots
