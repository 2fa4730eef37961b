use Rattle.std.proofs.Common.{◌∙◌, ap, nat_lt, of_calls, rules}
use Rattle.std.proofs.lemmas.Fn.{always_returns_same}
use Rattle.std.proofs.lemmas.List.{map-id}
use Rattle.mpi_call.specs.Lists.{rises}
use Rattle.srr_entry.proofs.Rising.{rises_sorted}
use Rattle.srr_log.proofs.lists.rise.Goals as goal

pub returns : goal.returns
returns c =
    rises_sorted (λ rank. rank) c.args.ranks.now c.is_sorted_by.result
    (c.is_sorted_by.ensures.cases (λ one next. nat_lt one next) (always_returns_same _ _ _ (λ a r f k. search (rules, of_calls))))
    ∙ ap (λ ranks. rises 0 ranks) (map-id c.args.ranks.now)
