use Rattle.std.proofs.Common.{refl, List}
use Rattle.wiz_runs.specs.Runs.{record_outcome}
use Rattle.wiz_tool.specs.Environment.{Environment, environment}
use Rattle.wiz_tool.specs.Files.{NamedFile}
use Rattle.wiz_runs.specs.RecordFiles.{recording_files}
use Rattle.wiz_tool.specs.inside.Told.{outcome_written}
use Rattle.wiz_tool.proofs.FinishLemmas.{told_same}
use Rattle.wiz_runs.proofs.RecordLemmas.{recording_is_told}
use Rattle.wiz_runs.proofs.commands.record.write.Goals as goal

pub returns-clause-told : goal.returns-clause-told
returns-clause-told g c =
    let before : Environment = environment (g.S.Store.observed c.args.store.now) (g.K.Sink.observed c.args.out.now) in
    let files : List NamedFile = recording_files c.args.prefix.now c.args.recording in
    told_same (outcome_written files c.text_of_run-done.result) (record_outcome c.args.prefix.now c.args.recording) before
    (environment (g.S.Store.observed c.write_files-written.new.store) (g.K.Sink.observed c.finish.new.out)) c.finish.result
    (recording_is_told c.args.prefix.now c.args.recording c.text_of_run-done.result c.in_ok-text.text c.of_ending-status.result
    c.text_of_run-done.ensures c.in_ok-text.ensures c.of_ending-status.ensures)
    (c.finish.ensures files before (g.S.Store.observed c.write_files-written.new.store) refl c.write_files-written.ensures.ok c.write_files-written.ensures.stopped)
