use Rattle.std.proofs.Common.{[], ◌∷◌, refl, List}
use Rattle.replay_model.specs.declared.replayed.Replayed.{Replayed}
use Rattle.srr_regroup.specs.Regrouping.{both_groups, joined_log}
use Rattle.wiz_trace.specs.RegroupTexts.{joined_text}
use Rattle.wiz_tool.specs.Files.{NamedFile}
use Rattle.wiz_logs.specs.Regroupings.{log_file, stands_of}
use Rattle.wiz_tool.specs.Environment.{environment}
use Rattle.wiz_logs.proofs.RegroupTold.{by_stands, traces_of, two_status}
use Rattle.wiz_logs.proofs.commands.join.tell_replayed.Goals as goal

pub returns-in_ok-replays-in_default : goal.returns-in_ok-replays-in_default
returns-in_ok-replays-in_default g c =
    let one = c.args.pair.now.one in
    let other = c.args.pair.now.other in
    let files : List NamedFile = log_file c.args.file.now (joined_log one c.args.first.events.events other c.args.second.events.events) in
    let text = joined_text (both_groups one other) in
    let replays : List Replayed = c.args.first ∷ c.args.second ∷ [] in
    let after = environment (g.S.Store.observed c.args.store.now) (g.K.Sink.observed c.tell_traces.new.out) in
    record {
      told = by_stands c.of_both.result (stands_of replays) files text replays (environment (g.S.Store.observed c.args.store.now) (g.K.Sink.observed c.args.out.now)) after c.tell_traces.result
          (two_status c.args.first c.args.second c.as_slice.result.now c.as_slice-2.result.now c.of_both.result c.as_slice.ensures c.as_slice-2.ensures c.of_both.ensures)
          (traces_of c.of_both.result files text replays c.in_ok-replays-in_default.replays (environment (g.S.Store.observed c.args.store.now) (g.K.Sink.observed c.args.out.now)) after c.tell_traces.result
          c.in_default.not-Done refl c.in_ok-replays-in_default.ensures c.tell_traces.ensures.put c.tell_traces.ensures.err);
      reads = refl;
    }
