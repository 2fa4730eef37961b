use Rattle.std.proofs.Common.{◌≡◌, ◌∙◌, ℤ, List, w32, FitsSigned, rules, refl, sym, ap, Ok}
use Rattle.std.proofs.lemmas.Int.{to_z-of_z}
use Rattle.std.proofs.lemmas.Result.{err_from_is_err_and}
use Rattle.c_program.specs.declared.expr.TypedExpr.{TypedExpr}
use Rattle.c_program.specs.declared.expr.TypedLink.{TypedLink}
use Rattle.c_program.specs.Values.{value_with_links, value}
use Rattle.c_program.specs.View.{pure_expr, pure_links}
use Rattle.c_program.proofs.Viewed.{pure-chain}
use Rattle.c_run_cells.proofs.ChainLaws.{chain-next, chain-fails, chain-ends}
use Rattle.c_run_cells.proofs.state.RankState.+value.Goals as goal

pub chained-loop-link-init : goal.chained-loop-link-init
chained-loop-link-init t c = refl

pub chained-returns-in_err-v : goal.chained-returns-in_err-v
chained-returns-in_err-v t c =
    let p = err_from_is_err_and c.from_residual.result c.from_residual.ensures.1 in
    let fits : FitsSigned w32 c.args.first = search rules in
    rw (p.1, p.2)
    (sym (chain-fails c.args.links.now c.loop-link.link-index c.link-item.result _ c.in_err-v.field-0.0 c.args.self.now c.loop-link-test.true c.link-item.is (sym c.in_err-v.was ∙ c.linked.ensures))
    ∙ c.loop-link.invariant
    ∙ ap (λ (v : ℤ). value_with_links (pure_links c.args.links.now) v c.args.self.now) (to_z-of_z w32 c.args.first fits))

pub chained-loop-link-preserved : goal.chained-loop-link-preserved
chained-loop-link-preserved t c =
    let fits : FitsSigned w32 c.in_ok-v.v = search rules in
    rw (to_z-of_z w32 c.in_ok-v.v fits)
    (sym (chain-next c.args.links.now c.loop-link.link-index c.link-item.result _ c.in_ok-v.v c.args.self.now c.loop-link-test.true c.link-item.is (sym c.in_ok-v.was ∙ c.linked.ensures))
    ∙ c.loop-link.invariant)

pub chained-returns : goal.chained-returns
chained-returns t c =
    let fits : FitsSigned w32 c.args.first = search rules in
    sym (chain-ends c.args.links.now c.loop-link.link-index _ c.args.self.now c.loop-link-test.false)
    ∙ c.loop-link.invariant
    ∙ ap (λ (v : ℤ). value_with_links (pure_links c.args.links.now) v c.args.self.now) (to_z-of_z w32 c.args.first fits)

pub value-returns-in_ok-v-in-Chain : goal.value-returns-in_ok-v-in-Chain
value-returns-in_ok-v-in-Chain t c =
    let e : value (pure_expr c.in-Chain.first.value) c.args.self.now ≡ Ok c.in_ok-v-in-Chain.v =
    ap (λ (x : TypedExpr). value (pure_expr x) c.args.self.now) (sym c.deref-in-Chain.ensures) ∙ sym c.value-in-Chain.ensures ∙ c.in_ok-v-in-Chain.was in
    let fits : FitsSigned w32 c.in_ok-v-in-Chain.v = search rules in
    rw (c.in-Chain.is, pure-chain c.in-Chain.first c.in-Chain.links, e)
    (c.chained.ensures
    ∙ ap (λ (v : ℤ). value_with_links (pure_links c.deref-in-Chain-2.result.now) v c.args.self.now) (to_z-of_z w32 c.in_ok-v-in-Chain.v fits)
    ∙ ap (λ (xs : List TypedLink). value_with_links (pure_links xs) c.in_ok-v-in-Chain.v c.args.self.now) c.deref-in-Chain-2.ensures.value)
