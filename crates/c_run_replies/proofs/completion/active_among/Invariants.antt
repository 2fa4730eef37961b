use Rattle.std.proofs.Common.{◌≡◌, ◌++◌, drop}
use Rattle.c_program.specs.Performing.{active_from}
use Rattle.c_run_replies.proofs.completion.active_among.Given as goal

abbrev pub invariant-loop-place : goal.invariant-loop-place
invariant-loop-place l = active_from l.starts 0 l.handles ≡ l.active.items ++ active_from l.starts l.place (drop l.place l.handles)
