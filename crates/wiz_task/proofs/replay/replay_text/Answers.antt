use Rattle.c_program.specs.View.{pure_program}
use Rattle.wiz_task.specs.Replayings.{IsReplayOf}
use Rattle.wiz_tool.proofs.ResultLemmas.{if_ok}
use Rattle.wiz_task.proofs.ShowLemmas.{shows_by}
use Rattle.wiz_task.proofs.replay.replay_text.Goals as goal

pub returns : goal.returns
returns g c =
    if_ok c.replay.result _ (IsReplayOf c.args.text.now c.args.log.now c.args.stop)
    (λ replayed by. shows_by c.args.text.now (pure_program c.args.program.now) c.args.log.now c.args.stop replayed c.requires.program by c.text_fixes_meaning.ensures c.every_order_shows_every_run.ensures.shows c.every_order_shows_every_run.ensures.replays)
    c.replay.ensures
