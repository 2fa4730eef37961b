use Rattle.std.proofs.Common.{[]}
use Rattle.wiz_logs.proofs.RegroupTold.{put_traces}
use Rattle.wiz_tool.proofs.ResultLemmas.{if_ok}
use Rattle.wiz_logs.proofs.regrouping.tell.tell_traces.Goals as goal

pub returns-clause-put : goal.returns-clause-put
returns-clause-put g c =
    if_ok c.tell.result _ _ (λ report put. put_traces c.args.status c.args.replays c.in_ok-text.text _ _ report c.in_ok-text.ensures
    (rw c.text_of_replays.ensures at (put []))) c.tell.ensures.put
