use Rattle.std.proofs.Common.{◌≡◌, ◌∙◌, [], ◌∷◌, refl, List}
use Rattle.replay_model.specs.declared.replayed.Replayed.{Replayed}
use Rattle.srr_entry.specs.declared.log.Log.{Log}
use Rattle.srr_regroup.specs.Regrouping.{both_groups, joined_log}
use Rattle.wiz_trace.specs.RegroupTexts.{joined_text}
use Rattle.wiz_tool.specs.Files.{NamedFile}
use Rattle.wiz_logs.specs.Regroupings.{done_outcome, log_file}
use Rattle.wiz_tool.specs.Environment.{environment}
use Rattle.wiz_tool.specs.inside.Told.{outcome_written}
use Rattle.wiz_tool.proofs.FinishLemmas.{told_same}
use Rattle.wiz_logs.proofs.RegroupTold.{joined_is_told}
use Rattle.wiz_logs.proofs.commands.join.write_joined.Goals as goal

pub returns-clause-told : goal.returns-clause-told
returns-clause-told g c =
    let one = c.args.pair.now.one in
    let other = c.args.pair.now.other in
    let whole : Log = joined_log one c.args.first.events.events other c.args.second.events.events in
    let replays : List Replayed = c.args.first ∷ c.args.second ∷ [] in
    let files : List NamedFile = (record { name = c.args.file.now; bytes = c.as_slice.result.now }) ∷ [] in
    let is : outcome_written files c.text_of_replays-done.result ≡ done_outcome (log_file c.args.file.now whole) (joined_text (both_groups one other)) replays =
    rw c.text_of_replays-done.ensures (joined_is_told c.args.file.now c.as_slice.result.now c.in_ok-text.text whole c.in_ok-replays.replays replays
    (c.as_slice.ensures ∙ c.in_ok-text.ensures.bytes) c.in_ok-text.ensures.text c.in_ok-replays.ensures) in
    told_same (outcome_written files c.text_of_replays-done.result) (done_outcome (log_file c.args.file.now whole) (joined_text (both_groups one other)) replays)
    (environment (g.S.Store.observed c.args.store.now) (g.K.Sink.observed c.args.out.now)) (environment (g.S.Store.observed c.write_file-written.new.store) (g.K.Sink.observed c.finish.new.out)) c.finish.result
    is
    (c.finish.ensures files (environment (g.S.Store.observed c.args.store.now) (g.K.Sink.observed c.args.out.now)) (g.S.Store.observed c.write_file-written.new.store) refl c.write_file-written.ensures.ok c.write_file-written.ensures.stopped)
