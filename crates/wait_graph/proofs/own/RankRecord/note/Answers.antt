use Rattle.std.proofs.Common.{◌+◌, ap, refl}
use Rattle.wait_graph.proofs.RegisterLemmas.{own_more}
use Rattle.wait_graph.proofs.own.RankRecord.note.Goals as goal

pub returns : goal.returns
returns c = λ n view is.
    own_more n view c.args.call.now c.args.reply.now c.args.self.now _ is (c.in_ok-note-2.ensures n view is.known) (c.in_ok-note.ensures n view is.known is.calls is.taken) refl
    (ap (λ k. c.args.self.now.starts + k) c.count_start.ensures) c.or_ends-self.ensures
