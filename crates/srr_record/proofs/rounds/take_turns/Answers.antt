use Rattle.std.proofs.Common.{sym, take, subst, List}
use Rattle.std.specs.List.{slice_index_or}
use Rattle.picked_runs.specs.declared.turn.Pick.TheVariants.{First}
use Rattle.std.proofs.lemmas.List.{take_more}
use Rattle.picked_runs.specs.declared.turn.Turn.{Turn}
use Rattle.srr_record.specs.Rounds.{GoesByTurns}
use Rattle.srr_record.proofs.Going.{turn_more}
use Rattle.srr_record.proofs.Running.{runs_more}
use Rattle.srr_record.proofs.rounds.take_turns.Goals as goal

pub loop-turn-preserved : goal.loop-turn-preserved
loop-turn-preserved g c =
    let inv = c.loop-turn.invariant in
    let ok = c.in_ok-try_turn.ensures in
    let k = c.loop-turn.turn-index in
    let turns : List Turn = c.args.turns.now in
    let d : Turn = record { rank = 0; pick = First } in
    let turn : Turn = slice_index_or turns k d in
    let F : List Turn → Type 0 = λ done. GoesByTurns (g.P.Program.next c.args.machine.now.program) done c.args.machine.now c.try_turn.new.machine in
    record {
      goes = subst F (sym (take_more turns k d c.loop-turn-test.true)) (turn_more g.P.Program.next (take k turns) turn c.args.machine.now c.loop-turn.machine c.try_turn.new.machine inv.goes ok.goes);
      runs = runs_more g.R.RankRun.standing c.args.machine.now c.loop-turn.machine c.try_turn.new.machine c.loop-turn.runs turn.rank c.try_turn.new.run inv.goes.program inv.goes.ranks inv.runs (c.requires.turns k d c.loop-turn-test.true) ok.others ok.run;
    }
