use Rattle.std.proofs.Common.{[], ◌∷◌, refl, List}
use Rattle.replay_model.specs.declared.replayed.Replayed.{Replayed}
use Rattle.srr_regroup.specs.Regrouping.{refined}
use Rattle.wiz_trace.specs.RegroupTexts.{refined_text}
use Rattle.wiz_tool.specs.Files.{NamedFile}
use Rattle.wiz_logs.specs.Regroupings.{part_files, stands_of}
use Rattle.wiz_tool.specs.Environment.{environment}
use Rattle.wiz_logs.proofs.RegroupTold.{by_stands, one_status, traces_of}
use Rattle.wiz_logs.proofs.commands.refine.tell_replayed.Goals as goal

pub returns-in_ok-replays-in_default : goal.returns-in_ok-replays-in_default
returns-in_ok-replays-in_default g c =
    let log = c.args.refinement.now.log in
    let groups = c.args.refinement.now.plan in
    let files : List NamedFile = part_files c.args.prefix.now log.group (refined log c.args.replayed.events.events) 0 groups in
    let text = refined_text log.group groups in
    let replays : List Replayed = c.args.replayed ∷ [] in
    let after = environment (g.S.Store.observed c.args.store.now) (g.K.Sink.observed c.tell_traces.new.out) in
    record {
      told = by_stands c.of_stands.result (stands_of replays) files text replays (environment (g.S.Store.observed c.args.store.now) (g.K.Sink.observed c.args.out.now)) after c.tell_traces.result
          (one_status c.args.replayed c.as_slice.result.now c.of_stands.result c.as_slice.ensures c.of_stands.ensures)
          (traces_of c.of_stands.result files text replays c.in_ok-replays-in_default.replays (environment (g.S.Store.observed c.args.store.now) (g.K.Sink.observed c.args.out.now)) after c.tell_traces.result
          c.in_default.not-Done refl c.in_ok-replays-in_default.ensures c.tell_traces.ensures.put c.tell_traces.ensures.err);
      reads = refl;
    }
