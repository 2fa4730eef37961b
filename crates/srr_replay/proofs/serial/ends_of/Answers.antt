use Rattle.std.proofs.Common.{◌<◌, ◌∙◌, ℕ, List, Option, arith, length, sym}
use Rattle.replay_model.specs.declared.replayed.Stand.{Stand}
use Rattle.replay_model.specs.Stands.{stand_of}
use Rattle.srr_entry.specs.Outputs.{printed_of}
use Rattle.srr_replay.proofs.RoundsLemmas.{RunAll-kept, map_take-more}
use Rattle.srr_replay.proofs.serial.ends_of.Goals as goal

pub loop-k-preserved : goal.loop-k-preserved
loop-k-preserved g c =
    let inv = c.loop-k.invariant in
    let ok = c.in_ok-add_end.ensures in
    let old = c.args.replay.now in
    let output : ℕ → List ℕ = printed_of (g.P.Program.output old.program) old.log.ranks old.events in
    let stand : ℕ → Option Stand = stand_of (g.P.Program.next old.program) (g.P.Program.variables old.program) old.log old.stop old.events in
    let lt : c.loop-k.k < length old.log.group = omega (arith, inv.runs.as_many) in
    record {
      replay = ok.replay ∙ inv.replay;
      runs = RunAll-kept _ _ _ _ _ _ _ inv.runs lt (rw (inv.replay, c.requires.group) at ok.run);
      outputs = (rw (inv.replay, c.requires.group, inv.outputs) at ok.outputs) ∙ sym (map_take-more output old.log.group c.loop-k.k lt);
      stands = (rw (inv.replay, c.requires.group, inv.stands) at ok.stands) ∙ sym (map_take-more stand old.log.group c.loop-k.k lt);
    }
