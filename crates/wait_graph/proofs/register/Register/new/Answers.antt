use Rattle.std.proofs.Common.{◌≡◌, ◌+◌, ap, arith, length, refl, subst, ℕ}
use Rattle.wait_graph.proofs.RegisterLemmas.{AreFirst, register_first, first_more}
use Rattle.wait_graph.proofs.register.Register.new.Goals as goal

pub loop-init : goal.loop-init
loop-init c = record {
  most = omega arith;
  are = record {
    many = ap length c.new-ranks.ensures.items;
    each = λ rank d below. absurd (omega (arith, below));
  };
}

pub loop-preserved : goal.loop-preserved
loop-preserved c = record {
  most = (let low = c.loop-test.true in omega (arith, low));
  are =
      rw c.in_ok-push.ensures.items (
      first_more c.args.n c.loop.counter (c.loop.counter + 1) c.loop.ranks.items c.in_ok-new.field-0 c.loop.invariant.are c.in_ok-new.ensures refl);
}

pub returns : goal.returns
returns c =
    let most = c.loop.invariant.most in
    let past = c.loop-test.false in
    let last : c.loop.counter ≡ c.args.n = omega (arith, most, past) in
    let are : AreFirst c.args.n c.args.n c.loop.ranks.items = (let F : ℕ → Type 0 = λ k. AreFirst c.args.n k c.loop.ranks.items in subst F last c.loop.invariant.are) in
    register_first c.args.n _ are.many are.each c.new-2.ensures.items c.new-3.ensures
