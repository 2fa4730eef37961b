use Rattle.std.proofs.Common.{refl, List, [], ◌∷◌}
use Rattle.wiz_logs.specs.Logs.{convert_outcome}
use Rattle.wiz_tool.specs.Environment.{Environment, environment}
use Rattle.wiz_tool.specs.Files.{NamedFile}
use Rattle.wiz_tool.specs.inside.Told.{outcome_written}
use Rattle.wiz_logs.proofs.ConvertLemmas.{converted_is_told}
use Rattle.wiz_tool.proofs.FinishLemmas.{told_same}
use Rattle.wiz_logs.proofs.commands.convert.write.Goals as goal

pub returns-clause-told : goal.returns-clause-told
returns-clause-told g c =
    let before : Environment = environment (g.S.Store.observed c.args.store.now) (g.K.Sink.observed c.args.out.now) in
    let files : List NamedFile = (record { name = c.args.file.now; bytes = c.args.bytes.now }) ∷ [] in
    told_same (outcome_written files c.text_alone-done.result) (convert_outcome c.args.file.now c.args.bytes.now) before
    (environment (g.S.Store.observed c.write_file-written.new.store) (g.K.Sink.observed c.finish.new.out)) c.finish.result
    (converted_is_told c.args.file.now c.args.bytes.now c.new.result c.text_alone-done.result c.text_alone-done.ensures c.new.ensures)
    (c.finish.ensures files before (g.S.Store.observed c.write_file-written.new.store) refl c.write_file-written.ensures.ok c.write_file-written.ensures.stopped)
