use Rattle.std.proofs.lemmas.Result.{on_ok_weaker}
use Rattle.msg_races.proofs.Tables.{completions_more}
use Rattle.msg_races.proofs.completions.Completions.note.Goals as goal

pub returns : goal.returns
returns c =
    on_ok_weaker c.add_reply.result
    (λ adds. completions_more c.args.before.now c.args.event.now c.args.self.now c.add_reply.new.self c.requires.completions adds)
    c.add_reply.ensures
