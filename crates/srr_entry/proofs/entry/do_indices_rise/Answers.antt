use Rattle.std.proofs.Common.{nat_lt, of_calls, rules}
use Rattle.std.proofs.lemmas.Fn.{always_returns_same}
use Rattle.srr_entry.specs.declared.entry.Marked.{Marked}
use Rattle.srr_entry.proofs.Rising.{rises_sorted}
use Rattle.srr_entry.proofs.entry.do_indices_rise.Goals as goal

pub returns : goal.returns
returns c =
    rises_sorted (λ (item : Marked). item.index) c.args.items.now c.is_sorted_by.result
    (c.is_sorted_by.ensures.cases (λ one next. nat_lt one.index next.index) (always_returns_same _ _ _ (λ a r f k. search (rules, of_calls))))
