use Rattle.std.proofs.Common.{List, refl}
use Rattle.wiz_searches.specs.Explorations.{search_files, search_outcome}
use Rattle.wiz_tool.specs.Environment.{Environment, environment}
use Rattle.wiz_tool.specs.Files.{NamedFile}
use Rattle.wiz_tool.specs.inside.Told.{outcome_written}
use Rattle.wiz_tool.proofs.FinishLemmas.{told_same}
use Rattle.wiz_searches.proofs.SearchLemmas.{search_is_told}
use Rattle.wiz_searches.proofs.commands.explore_runs.write.Goals as goal

pub returns-clause-told : goal.returns-clause-told
returns-clause-told g c =
    let before : Environment = environment (g.S.Store.observed c.args.store.now) (g.K.Sink.observed c.args.out.now) in
    let prefix = c.args.prefix.now in
    let searched = c.args.searched.now in
    let files : List NamedFile = search_files prefix searched.explored in
    told_same (outcome_written files c.text_of_replays-done.result) (search_outcome prefix c.args.bounds.most c.args.bounds.polls searched.explored searched.waits) before
    (environment (g.S.Store.observed c.write_orders-written.new.store) (g.K.Sink.observed c.finish.new.out)) c.finish.result
    (search_is_told prefix c.args.bounds.most c.args.bounds.polls searched.explored searched.waits c.text_of_replays-done.result c.in_ok-text.text c.of_search-status.result
    c.new.result c.text_of_replays-done.ensures (rw c.as_slice.ensures at c.in_ok-text.ensures) c.of_search-status.ensures c.new.ensures)
    (c.finish.ensures files before (g.S.Store.observed c.write_orders-written.new.store) refl c.write_orders-written.ensures.ok c.write_orders-written.ensures.stopped)
