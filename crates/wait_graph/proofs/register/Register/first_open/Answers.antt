use Rattle.std.proofs.Common.{◌≡◌, ◌<◌, ◌∙◌, ap, arith, get_or, length, refl, subst, sym}
use Rattle.run_model.specs.Views.{view_of}
use Rattle.wait_graph.specs.declared.own.RankRecord.{RankRecord}
use Rattle.wait_graph.specs.Opens.{open_send_from}
use Rattle.wait_graph.specs.Register.{IsRankRecord}
use Rattle.wait_graph.proofs.RegisterLemmas.{start-all}
use Rattle.wait_graph.proofs.register.Register.first_open.Goals as goal

pub returns-in-Some : goal.returns-in-Some
returns-in-Some c = λ n events is.
    let found = c.in-Some.ensures.lookup in
    let all = c.deref.ensures.value in
    let own : RankRecord = c.in-Some.own.now in
    let low : c.args.sender < length c.deref.result.now = found.3.0 in
    let many = is.as_many in
    let size = ap (λ l. length l) all in
    let here : own ≡ get_or c.args.self.now.ranks.items c.args.sender own = found.3.1 own ∙ ap (λ l. get_or l c.args.sender own) all in
    let is_own : IsRankRecord n (view_of events c.args.sender) own = subst (IsRankRecord n (view_of events c.args.sender)) (sym here) (is.ranks c.args.sender own (omega (arith, low, size, many))) in
    c.first_open_below.ensures n events is ∙ ap (open_send_from events c.args.sender c.args.receiver 0) (start-all n events c.args.sender own.starts own is_own refl)
