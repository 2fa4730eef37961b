use Rattle.std.proofs.Common.{◌≡◌, ◌<◌, ◌∙◌, ap, arith, get_or, length, refl, subst, sym}
use Rattle.run_model.specs.Communicators.{count_on}
use Rattle.run_model.specs.Views.{view_of}
use Rattle.wait_graph.specs.declared.own.RankRecord.{RankRecord}
use Rattle.wait_graph.specs.Register.{IsRankRecord}
use Rattle.wait_graph.proofs.RegisterLemmas.{start-all}
use Rattle.wait_graph.proofs.register.Register.count_all_enters.Goals as goal

pub returns-in-Some : goal.returns-in-Some
returns-in-Some c = λ n events is.
    let found = c.in-Some.ensures.lookup in
    let all = c.deref.ensures.value in
    let own : RankRecord = c.in-Some.own.now in
    let low : c.args.rank < length c.deref.result.now = found.3.0 in
    let many = is.as_many in
    let size = ap (λ l. length l) all in
    let here : own ≡ get_or c.args.self.now.ranks.items c.args.rank own = found.3.1 own ∙ ap (λ l. get_or l c.args.rank own) all in
    let is_own : IsRankRecord n (view_of events c.args.rank) own = subst (IsRankRecord n (view_of events c.args.rank)) (sym here) (is.ranks c.args.rank own (omega (arith, low, size, many))) in
    c.count_enters.ensures n events is ∙ ap (count_on c.args.comm) (start-all n events c.args.rank own.starts own is_own refl)
