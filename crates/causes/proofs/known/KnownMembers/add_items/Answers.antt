use Rattle.causes.proofs.TableLemmas.{learns_more}
use Rattle.causes.proofs.known.KnownMembers.add_items.Goals as goal

pub loop-rest-preserved : goal.loop-rest-preserved
loop-rest-preserved c = λ new later. c.loop-rest.invariant new (learns_more c.args.rank c.loop-rest.rest.now c.loop-rest.self c.add_got.new.self new c.item-item.result c.in-len1-up.len_at_least c.item-item.is c.in_ok-add_got.ensures later)
