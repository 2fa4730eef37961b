use Rattle.std.proofs.Common.{◌+◌, arith, refl, sym}
use Rattle.run_model.specs.Views.{starts_of, view_of}
use Rattle.wait_graph.proofs.RegisterLemmas.{counted_all, counted_more, one_at_most}
use Rattle.wait_graph.proofs.register.Register.count_enters.Goals as goal

pub returns-in_default : goal.returns-in_default
returns-in_default c = λ n events is.
    let low = c.loop-number-test.true in
    counted_all c.args.comm c.loop-number.number c.args.below c.loop-number.count (starts_of (view_of events c.args.rank)) (sym (c.in_default.ensures n events is)) (omega (arith, low)) (c.loop-number.invariant.counted n events is)

pub loop-number-preserved : goal.loop-number-preserved
loop-number-preserved c =
    let few = c.loop-number.invariant.few in
    let low = c.loop-number-test.true in
    let one = one_at_most c.args.comm c.in-Some.call.now in
    let is_one = c.count_one-count.ensures in
    record {
      few = omega (arith, few, one, is_one);
      within = omega (arith, low);
      counted = λ n events is.
          counted_more c.args.comm c.loop-number.number (c.loop-number.number + 1) c.loop-number.count c.count_one-count.result (starts_of (view_of events c.args.rank)) c.in-Some.call.now
          (sym (c.in-Some.ensures n events is)) refl is_one (c.loop-number.invariant.counted n events is);
    }
