use Rattle.std.proofs.Common.{arith, refl}
use Rattle.std.specs.Prelude.{slice_index}
use Rattle.plan_advice.proofs.Steps.{ends_more}
use Rattle.plan_advice.proofs.ways.+push_ends.Goals as goal

pub returns : goal.returns
returns t c =
    ends_more c.args.begins.now (slice_index c.args.begins.now c.args.end) c.args.end c.push_ends.new.ends c.push.new.self
    (omega (arith, c.if-end-eq0.false)) refl c.in_ok-push_ends.ensures c.in_ok-push.ensures.ok
