use Rattle.std.proofs.Common.{◌≡◌, drop}
use Rattle.c_program.specs.Performing.{put_empties}
use Rattle.c_run_replies.proofs.completion.put_empties.Given as goal

abbrev pub invariant-loop-index : goal.invariant-loop-index
invariant-loop-index l =
    put_empties l.answer.statuses l.starts 0 l.handles l.initial.state
    ≡ put_empties l.answer.statuses l.starts l.index (drop l.index l.handles) l.state
