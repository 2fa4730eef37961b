use Rattle.std.proofs.Common.{◌∙◌, ◌&&◌, ap, nat_lt, sym}
use Rattle.std.specs.List.{list_all}
use Rattle.srr_entry.specs.declared.entry.Marked.{Marked}
use Rattle.srr_replay.proofs.LogLemmas.{rise_below}
use Rattle.srr_replay.proofs.fit.do_rise.Goals as goal

pub returns-then-do_indices_rise : goal.returns-then-do_indices_rise
returns-then-do_indices_rise c =
    c.are_below.ensures
    ∙ (ap (λ rise. rise && list_all (λ (marked : Marked). nat_lt marked.index c.args.len) c.args.marks.now) (sym c.if-do_indices_rise.true ∙ c.do_indices_rise.ensures)
    ∙ rise_below 0 c.args.len c.args.marks.now)

pub returns-else-do_indices_rise : goal.returns-else-do_indices_rise
returns-else-do_indices_rise c =
    c.if-do_indices_rise.false
    ∙ (ap (λ rise. rise && list_all (λ (marked : Marked). nat_lt marked.index c.args.len) c.args.marks.now) (sym c.if-do_indices_rise.false ∙ c.do_indices_rise.ensures)
    ∙ rise_below 0 c.args.len c.args.marks.now)
