use Rattle.std.proofs.Common.{◌∙◌}
use Rattle.causes.proofs.JoinLemmas.{joins_end, joins_more}
use Rattle.causes.proofs.clock.join_all.Goals as goal

pub loop-rest-preserved : goal.loop-rest-preserved
loop-rest-preserved c = record {
  wide = c.join_at.ensures.as_many ∙ c.loop-rest.invariant.wide;
  joins = λ new later. c.loop-rest.invariant.joins new (joins_more c.loop-rest.clock c.join_at.new.clock new c.args.clocks.now c.loop-rest.rest.now c.in-len1-up.len_at_least c.join_at.ensures later);
}

pub returns : goal.returns
returns c = c.loop-rest.invariant.joins c.loop-rest.clock (joins_end c.loop-rest.clock c.args.clocks.now c.loop-rest.rest.now c.in_default.len_below)
