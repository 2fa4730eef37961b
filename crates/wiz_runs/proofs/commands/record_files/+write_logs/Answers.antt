use Rattle.std.proofs.lemmas.Result.{err_from_is_err_and}
use Rattle.wiz_runs.proofs.LogFiles.{first_stopped, logs_stopped, logs_written}
use Rattle.wiz_tool.proofs.ResultLemmas.{if_err, on_ok}
use Rattle.wiz_runs.proofs.commands.record_files.+write_logs.Goals as goal

pub returns-in_err-write_log_file-in-len1-up-clause-stopped : goal.returns-in_err-write_log_file-in-len1-up-clause-stopped
returns-in_err-write_log_file-in-len1-up-clause-stopped g n c =
    let p = err_from_is_err_and c.from_residual.result c.from_residual.ensures.1 in
    rw (p.1, p.2)
    (first_stopped c.args.prefix.now c.args.group c.args.logs.now c.log-item.result
    (g.S.Store.observed c.args.store.now) (g.S.Store.observed c.write_log_file.new.store) c.in_err-write_log_file-in-len1-up.field-0.0
    c.in-len1-up.len_at_least c.log-item.is c.in_err-write_log_file-in-len1-up.ensures.stopped)

pub returns-in_ok-write_log_file-in-len1-up-clause-ok : goal.returns-in_ok-write_log_file-in-len1-up-clause-ok
returns-in_ok-write_log_file-in-len1-up-clause-ok g n c =
    on_ok c.write_logs.result _ _
    (λ second. logs_written c.args.prefix.now c.args.group c.args.logs.now c.log-item.result
    (g.S.Store.observed c.args.store.now).files (g.S.Store.observed c.write_log_file.new.store).files (g.S.Store.observed c.write_logs.new.store).files
    c.in-len1-up.len_at_least c.log-item.is c.in_ok-write_log_file-in-len1-up.ensures.ok second)
    c.write_logs.ensures.ok

pub returns-in_ok-write_log_file-in-len1-up-clause-stopped : goal.returns-in_ok-write_log_file-in-len1-up-clause-stopped
returns-in_ok-write_log_file-in-len1-up-clause-stopped g n c =
    if_err c.write_logs.result _ _
    (λ why stopped. logs_stopped c.args.prefix.now c.args.group c.args.logs.now c.log-item.result
    (g.S.Store.observed c.args.store.now) (g.S.Store.observed c.write_log_file.new.store) (g.S.Store.observed c.write_logs.new.store) why
    c.in-len1-up.len_at_least c.log-item.is c.in_ok-write_log_file-in-len1-up.ensures.ok stopped c.in_ok-write_log_file-in-len1-up.ensures.later)
    c.write_logs.ensures.stopped
