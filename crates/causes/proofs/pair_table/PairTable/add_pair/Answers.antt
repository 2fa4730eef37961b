use Rattle.std.proofs.lemmas.Result.{on_ok_weaker}
use Rattle.causes.proofs.PartnerLemmas.{pair_added}
use Rattle.causes.proofs.pair_table.PairTable.add_pair.Goals as goal

pub returns-clause-others : goal.returns-clause-others
returns-clause-others c =
    on_ok_weaker c.add_one-2.result
    (λ second. λ pairs are. pair_added c.args.pair pairs c.args.self.now.others.entries c.add_one.new.self.others.entries c.add_one-2.new.self.others.entries c.in_ok-add_one.ensures.others second are)
    c.add_one-2.ensures.others
