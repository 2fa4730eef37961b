use Rattle.std.proofs.Common.{refl, List, [], ◌∷◌, Some}
use Rattle.wiz_tool.specs.Environment.{Environment, environment}
use Rattle.wiz_tool.specs.Files.{NamedFile}
use Rattle.wiz_tool.specs.inside.Told.{outcome_written}
use Rattle.wiz_tool.proofs.FinishLemmas.{told_same}
use Rattle.wiz_runs.specs.Pictures.{picture_outcome}
use Rattle.wiz_runs.proofs.PictureLemmas.{picture_is_told}
use Rattle.wiz_runs.proofs.commands.picture.write_picture.Goals as goal

pub returns-clause-told : goal.returns-clause-told
returns-clause-told g c =
    let before : Environment = environment (g.S.Store.observed c.args.store.now) (g.K.Sink.observed c.args.out.now) in
    let files : List NamedFile = (record { name = c.args.file.now; bytes = c.args.text.now }) ∷ [] in
    told_same (outcome_written files c.text_of_run-done.result) (picture_outcome c.args.file.now c.args.recording (Some c.args.text.now)) before
    (environment (g.S.Store.observed c.write_file-written.new.store) (g.K.Sink.observed c.finish.new.out)) c.finish.result
    (picture_is_told c.args.file.now c.args.text.now c.new.result c.args.recording c.text_of_run-done.result c.of_ending-status.result
    c.text_of_run-done.ensures c.new.ensures c.of_ending-status.ensures)
    (c.finish.ensures files before (g.S.Store.observed c.write_file-written.new.store) refl c.write_file-written.ensures.ok c.write_file-written.ensures.stopped)
