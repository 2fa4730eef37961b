use Rattle.std.proofs.Common.{[]}
use Rattle.wiz_tool.proofs.ResultLemmas.{if_ok}
use Rattle.wiz_logs.proofs.ReplayLemmas.{put_replay}
use Rattle.wiz_logs.proofs.commands.replay.tell_replay.Goals as goal

pub returns-clause-put : goal.returns-clause-put
returns-clause-put g c =
    if_ok c.tell.result _ _
    (λ report put. put_replay c.args.replayed c.in_ok-text.text c.of_stands-status.result c.in_ok-replays.replays _ _ report
    c.in_ok-text.ensures (rw c.as_slice.ensures at c.of_stands-status.ensures) c.in_ok-replays.ensures (rw c.text_of_replays.ensures at (put [])))
    c.tell.ensures.put
