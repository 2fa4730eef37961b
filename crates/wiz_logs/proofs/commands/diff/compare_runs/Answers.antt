use Rattle.wiz_logs.proofs.DiffLemmas.{other_program}
use Rattle.c_program.specs.View.{pure_program}
use Rattle.wiz_logs.proofs.commands.diff.compare_runs.Goals as goal

pub replay_own-requires-2-clause-program : goal.replay_own-requires-2-clause-program
replay_own-requires-2-clause-program g c =
    let runs = c.args.runs.now in other_program runs.one runs.other (pure_program runs.program) c.requires.compared c.requires.program

pub compared-requires : goal.compared-requires
compared-requires g c = record {
  can_compare = c.requires.compared;
  is_program = c.requires.program;
  replayable = c.requires.one;
  first_replay = c.in_ok-first.ensures;
  second_replay = c.in_ok-second.ensures;
}
