use Rattle.std.proofs.Common.{◌∙◌, [], ◌∷◌, ap, refl, List}
use Rattle.std.proofs.lemmas.Result.{err_from_is_err_and}
use Rattle.replay_model.specs.declared.replayed.Replayed.{Replayed}
use Rattle.srr_regroup.specs.Regrouping.{refined}
use Rattle.wiz_trace.specs.RegroupTexts.{refined_text}
use Rattle.wiz_tool.specs.Files.{NamedFile}
use Rattle.wiz_logs.specs.Regroupings.{done_outcome, part_files}
use Rattle.wiz_tool.specs.Environment.{environment}
use Rattle.wiz_tool.specs.inside.Told.{outcome_written}
use Rattle.wiz_tool.proofs.FinishLemmas.{told_same}
use Rattle.wiz_logs.proofs.RegroupTold.{cut_told, refined_is_told}
use Rattle.wiz_logs.proofs.commands.refine.write_refined.Goals as goal

pub returns-in_err-replays-clause-told : goal.returns-in_err-replays-clause-told
returns-in_err-replays-clause-told g c =
    let log = c.args.refinement.now.log in
    let groups = c.args.refinement.now.plan in
    let files : List NamedFile = part_files c.args.prefix.now log.group (refined log c.args.replayed.events.events) 0 groups in
    let replays : List Replayed = c.args.replayed ∷ [] in
    let p = err_from_is_err_and c.from_residual-in_err-replays.result c.from_residual-in_err-replays.ensures.1 in
    rw p.1
    (cut_told (done_outcome files (refined_text log.group groups) replays) (environment (g.S.Store.observed c.args.store.now) (g.K.Sink.observed c.args.out.now)) (g.S.Store.observed c.write_parts-written.new.store) c.write_parts-written.result _
    c.write_parts-written.ensures.ok c.write_parts-written.ensures.stopped)

pub returns-clause-told : goal.returns-clause-told
returns-clause-told g c =
    let log = c.args.refinement.now.log in
    let groups = c.args.refinement.now.plan in
    let files : List NamedFile = part_files c.args.prefix.now log.group (refined log c.args.replayed.events.events) 0 groups in
    let replays : List Replayed = c.args.replayed ∷ [] in
    told_same (outcome_written files c.text_of_replays-done.result) (done_outcome files (refined_text log.group groups) replays)
    (environment (g.S.Store.observed c.args.store.now) (g.K.Sink.observed c.args.out.now)) (environment (g.S.Store.observed c.write_parts-written.new.store) (g.K.Sink.observed c.finish.new.out)) c.finish.result
    (ap (outcome_written files) c.text_of_replays-done.ensures
    ∙ refined_is_told files c.in_ok-text.text (refined_text log.group groups) c.in_ok-replays.replays replays c.in_ok-text.ensures c.in_ok-replays.ensures)
    (c.finish.ensures files (environment (g.S.Store.observed c.args.store.now) (g.K.Sink.observed c.args.out.now)) (g.S.Store.observed c.write_parts-written.new.store) refl c.write_parts-written.ensures.ok c.write_parts-written.ensures.stopped)
