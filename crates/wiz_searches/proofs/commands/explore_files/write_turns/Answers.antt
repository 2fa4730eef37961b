use Rattle.std.proofs.lemmas.Result.{err_from_is_err_and}
use Rattle.wiz_tool.proofs.FileLemmas.{ArePartlyWritten-none}
use Rattle.wiz_searches.proofs.commands.explore_files.write_turns.Goals as goal

pub returns-in_err-name-clause-stopped : goal.returns-in_err-name-clause-stopped
returns-in_err-name-clause-stopped g c =
    let p = err_from_is_err_and c.from_residual.result c.from_residual.ensures.1 in
    rw (p.1, p.2) (ArePartlyWritten-none (g.S.Store.observed c.args.store.now).files _)

pub returns-in_err-text-clause-stopped : goal.returns-in_err-text-clause-stopped
returns-in_err-text-clause-stopped g c =
    let p = err_from_is_err_and c.from_residual-in_err-text.result c.from_residual-in_err-text.ensures.1 in
    rw (p.1, p.2) (ArePartlyWritten-none (g.S.Store.observed c.args.store.now).files _)
