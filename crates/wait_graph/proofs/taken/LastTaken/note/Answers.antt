use Rattle.std.proofs.lemmas.Result.{on_ok_weaker}
use Rattle.wait_graph.proofs.TakenLemmas.{taken_more}
use Rattle.wait_graph.proofs.taken.LastTaken.note.Goals as goal

pub returns : goal.returns
returns c =
    on_ok_weaker c.add_reply.result
    (λ adds n own is number are. taken_more own c.args.call.now c.args.reply.now c.args.number c.args.self.now c.add_reply.new.self number are (adds n own is))
    c.add_reply.ensures
