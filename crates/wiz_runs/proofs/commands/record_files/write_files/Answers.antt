use Rattle.std.proofs.Common.{[], ◌∷◌}
use Rattle.explanation_text.specs.OrderTexts.{order_text}
use Rattle.wiz_runs.specs.RecordFiles.{order_name}
use Rattle.wiz_tool.specs.LogFiles.{log_files}
use Rattle.wiz_tool.proofs.FileLemmas.{AreWritten-append, IsStopped-behind}
use Rattle.wiz_runs.proofs.OrderNames.{logs_apart}
use Rattle.wiz_tool.proofs.ResultLemmas.{if_err, on_ok}
use Rattle.wiz_runs.proofs.commands.record_files.write_files.Goals as goal

pub returns-clause-ok : goal.returns-clause-ok
returns-clause-ok g c =
    on_ok c.write_order.result _ _
    (λ second. AreWritten-append (g.S.Store.observed c.args.store.now).files (g.S.Store.observed c.write_logs.new.store).files (g.S.Store.observed c.write_order.new.store).files
    (log_files c.args.prefix.now 0 c.args.recording.now.logs)
    ((record { name = order_name c.args.prefix.now; bytes = order_text c.args.recording.now.history.events c.args.recording.now.picks.written }) ∷ []) []
    (rw c.as_slice.ensures at c.in_ok-write_logs.ensures.ok) second (logs_apart c.args.prefix.now 0 c.args.recording.now.logs))
    c.write_order.ensures.ok

pub returns-clause-stopped : goal.returns-clause-stopped
returns-clause-stopped g c =
    if_err c.write_order.result _ _
    (λ why stopped. IsStopped-behind (g.S.Store.observed c.args.store.now) (g.S.Store.observed c.write_logs.new.store) (g.S.Store.observed c.write_order.new.store)
    (log_files c.args.prefix.now 0 c.args.recording.now.logs)
    ((record { name = order_name c.args.prefix.now; bytes = order_text c.args.recording.now.history.events c.args.recording.now.picks.written }) ∷ []) why
    (rw c.as_slice.ensures at c.in_ok-write_logs.ensures.ok) stopped c.in_ok-write_logs.ensures.later (logs_apart c.args.prefix.now 0 c.args.recording.now.logs))
    c.write_order.ensures.stopped
