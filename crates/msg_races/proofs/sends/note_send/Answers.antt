use Rattle.std.proofs.lemmas.Result.{on_ok_weaker}
use Rattle.msg_races.proofs.Tables.{sends_more}
use Rattle.msg_races.proofs.sends.note_send.Goals as goal

pub returns : goal.returns
returns c =
    on_ok_weaker c.push_send.result
    (λ adds. sends_more c.args.before.now c.args.event.now c.args.sends.now c.push_send.new.sends c.requires.sends adds)
    c.push_send.ensures
