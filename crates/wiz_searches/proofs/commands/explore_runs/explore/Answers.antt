use Rattle.std.proofs.Common.{refl, Ok, Err}
use Rattle.std.proofs.lemmas.Result.{err_from_is_err_and}
use Rattle.wiz_words.specs.Texts.{run_with_texts}
use Rattle.wiz_runs.specs.Runs.{run_texts}
use Rattle.wiz_searches.specs.Explorations.{search_outcome, search_task}
use Rattle.wiz_tool.specs.Environment.{environment}
use Rattle.wiz_task.proofs.EndLemmas.{command_failed, command_short, done_short, done_told, told_from}
use Rattle.wiz_searches.proofs.SearchLemmas.{explore_done}
use Rattle.wiz_searches.proofs.commands.explore_runs.explore.Goals as goal

pub search-requires : goal.search-requires
search-requires g c = (run_texts c.in_ok-ready.ensures.ready.0, c.in_ok-ready.ensures.ready.2)

pub returns-in_err-ready : goal.returns-in_err-ready
returns-in_err-ready g c =
    let p = err_from_is_err_and c.from_residual.result c.from_residual.ensures.1 in
    rw (p.1, p.2)
    (command_failed (search_task (run_with_texts c.args.run.now) c.args.prefix.now c.args.bounds.most c.args.bounds.polls) (environment (g.S.Store.observed c.args.store.now) (g.K.Sink.observed c.args.out.now))
    (environment (g.S.Store.observed c.read_run.new.store) (g.K.Sink.observed c.args.out.now))
    c.in_err-ready.field-0.0 (record { files = c.in_err-ready.ensures.files; out = refl }) c.in_err-ready.ensures.refused)

pub returns-in_err-searched : goal.returns-in_err-searched
returns-in_err-searched g c =
    let p = err_from_is_err_and c.from_residual-in_err-searched.result c.from_residual-in_err-searched.ensures.1 in
    rw p.1
    (command_short (search_task (run_with_texts c.args.run.now) c.args.prefix.now c.args.bounds.most c.args.bounds.polls) (environment (g.S.Store.observed c.args.store.now) (g.K.Sink.observed c.args.out.now))
    (environment (g.S.Store.observed c.read_run.new.store) (g.K.Sink.observed c.args.out.now)) _ p.2 (record { files = c.in_ok-ready.ensures.files; out = refl }))

pub returns-in_err-report : goal.returns-in_err-report
returns-in_err-report g c =
    let p = err_from_is_err_and c.from_residual-in_err-report.result c.from_residual-in_err-report.ensures.1 in
    let run = run_with_texts c.args.run.now in
    let prefix = c.args.prefix.now in
    let before = environment (g.S.Store.observed c.args.store.now) (g.K.Sink.observed c.args.out.now) in
    let mid = environment (g.S.Store.observed c.read_run.new.store) (g.K.Sink.observed c.args.out.now) in
    let after = environment (g.S.Store.observed c.write.new.store) (g.K.Sink.observed c.write.new.out) in
    let ready = c.in_ok-ready.ensures.ready in
    let searched = c.in_ok-searched.searched in
    let outcome = search_outcome prefix c.args.bounds.most c.args.bounds.polls searched.explored searched.waits in
    let does = explore_done run prefix c.args.bounds.most c.args.bounds.polls before ready.0 c.in_ok-ready.ready searched ready.1 ready.2 c.in_ok-searched.ensures in
    rw p.1
    (done_short (search_task run prefix c.args.bounds.most c.args.bounds.polls) before after outcome c.in_err-report.field-0.0 _ p.2 does
    (told_from outcome before mid after (Err c.in_err-report.field-0.0) c.in_ok-ready.ensures.files c.in_ok-ready.ensures.writes refl c.in_err-report.ensures.told))

pub returns : goal.returns
returns g c =
    let run = run_with_texts c.args.run.now in
    let prefix = c.args.prefix.now in
    let before = environment (g.S.Store.observed c.args.store.now) (g.K.Sink.observed c.args.out.now) in
    let mid = environment (g.S.Store.observed c.read_run.new.store) (g.K.Sink.observed c.args.out.now) in
    let after = environment (g.S.Store.observed c.write.new.store) (g.K.Sink.observed c.write.new.out) in
    let ready = c.in_ok-ready.ensures.ready in
    let searched = c.in_ok-searched.searched in
    let outcome = search_outcome prefix c.args.bounds.most c.args.bounds.polls searched.explored searched.waits in
    let does = explore_done run prefix c.args.bounds.most c.args.bounds.polls before ready.0 c.in_ok-ready.ready searched ready.1 ready.2 c.in_ok-searched.ensures in
    done_told (search_task run prefix c.args.bounds.most c.args.bounds.polls) before after outcome c.in_ok-report.report does
    (told_from outcome before mid after (Ok c.in_ok-report.report) c.in_ok-ready.ensures.files c.in_ok-ready.ensures.writes refl c.in_ok-report.ensures.told)
