use Rattle.std.proofs.Common.{◌≡◌, ◌∙◌, IfOk, List, ap, drop, flat_map, map, subst, sym}
use Rattle.std.proofs.lemmas.List.{drop-map}
use Rattle.mpi_call.specs.declared.call.Call.{Call}
use Rattle.run_model.specs.Views.{View, starts_of}
use Rattle.view_diff.specs.Opens.{names_by}
use Rattle.view_diff.proofs.Bared.{seen_in}
use Rattle.view_diff.proofs.opens.got_from.Goals as goal

pub returns : goal.returns
returns c =
    let own : View = seen_in c.args.own.now in
    let calls : map (λ call. call.now) c.deref.result.now ≡ starts_of own = ap (λ l. map (λ call. call.now) l) c.deref.ensures.value ∙ c.in_ok-starts.ensures in
    let rest : seen_in c.from_on.result.now ≡ drop c.args.number own =
    ap seen_in c.from_on.ensures ∙ sym (drop-map (λ event. (event.now.call, event.now.reply)) c.args.number c.args.own.now) in
    let F : List Call → View → Type 0 = λ starts view. IfOk c.names_of.result (λ names. names ≡ flat_map (names_by starts) view) in
    subst (λ starts. F starts (drop c.args.number own)) calls
    (subst (λ view. F (map (λ call. call.now) c.deref.result.now) view) rest c.names_of.ensures)
