use Rattle.std.proofs.Common.{◌∙◌, List, refl}
use Rattle.std.specs.Prelude.{option_map}
use Rattle.group_plan.specs.Plans.{number_of_ranks}
use Rattle.wiz_runs.specs.Runs.{races_outcome}
use Rattle.wiz_runs.specs.RaceOrders.{order_files}
use Rattle.wiz_tool.specs.Environment.{Environment, environment}
use Rattle.wiz_tool.specs.Files.{NamedFile}
use Rattle.wiz_tool.specs.inside.Told.{outcome_written}
use Rattle.wiz_tool.proofs.FinishLemmas.{told_same}
use Rattle.wiz_runs.proofs.RaceLemmas.{picks_made, races_are_told}
use Rattle.wiz_runs.proofs.commands.races.write.Goals as goal

pub write_orders-written-requires : goal.write_orders-written-requires
write_orders-written-requires g c = picks_made c.args.ready.now c.args.recording c.n.result c.requires c.n.ensures.ranks

pub returns-clause-told : goal.returns-clause-told
returns-clause-told g c = λ receives told.
    let orders = option_map (λ text. text.now) c.args.orders in
    let ranks = number_of_ranks c.args.ready.now.plan in
    let files : List NamedFile = order_files orders ranks c.args.recording in
    let before : Environment = environment (g.S.Store.observed c.args.store.now) (g.K.Sink.observed c.args.out.now) in
    told_same (outcome_written files c.text_of_run-done.result) (races_outcome orders ranks receives c.args.recording) before
    (environment (g.S.Store.observed c.write_orders-written.new.store) (g.K.Sink.observed c.finish.new.out)) c.finish.result
    (races_are_told orders ranks receives c.args.recording c.text_of_run-done.result (c.text_of_run-done.ensures ∙ told))
    (c.finish.ensures files before (g.S.Store.observed c.write_orders-written.new.store) refl (rw c.n.ensures.ranks at c.write_orders-written.ensures.ok) (rw c.n.ensures.ranks at c.write_orders-written.ensures.stopped))
