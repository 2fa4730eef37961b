use Rattle.std.proofs.Common.{◌∙◌, ◌++◌, ap, sym, List, ℕ}
use Rattle.std.proofs.lemmas.Result.{on_ok_weaker}
use Rattle.explanation_text.proofs.WaitsLemmas.{some_awaited}
use Rattle.explanation_text.proofs.waits.push_from.Goals as goal

pub returns-in-len1-up : goal.returns-in-len1-up
returns-in-len1-up c =
    on_ok_weaker c.push_from_ranks.result
    (λ grown n events is. grown n events is ∙ ap (λ (text : List ℕ). c.args.out.now ++ text) (sym (some_awaited n events c.args.awaited.now c.in-len1-up.len_at_least)))
    c.push_from_ranks.ensures
