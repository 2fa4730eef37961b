use Rattle.std.proofs.Common.{◌∙◌, List, ap, subst, sym, ℕ}
use Rattle.run_model.specs.declared.event.Event.{Event}
use Rattle.srr_entry.specs.Entries.{log_of}
use Rattle.srr_entry.proofs.Making.{ifok_map}
use Rattle.srr_log.specs.Bounds.{IsInBounds}
use Rattle.log_bounds.specs.RunBounds.{RepliesFit32}
use Rattle.srr_regroup.proofs.LogBounds.{refined_bound}
use Rattle.srr_regroup.proofs.Made.{part_views}
use Rattle.srr_regroup.proofs.finer.refine.Goals as goal

pub log_of-requires : goal.log_of-requires
log_of-requires c = rw c.in_ok-by_rank.ensures (part_views c.args.log.now c.args.replayed.now.events.events c.args.part.now c.requires.log c.requires.replay c.requires.part)

pub returns-clause-in_bounds : goal.returns-clause-in_bounds
returns-clause-in_bounds c = λ bounds.
    let F : List Event → Type 0 = λ l. RepliesFit32 l in
    let words = subst F c.as_slice.ensures.events c.replies_fit.ensures in
    let fine = refined_bound c.args.log.now c.args.replayed.now.events.events c.args.part.now c.requires.log c.requires.replay c.requires.part bounds words in
    let text = ap (λ (t : List ℕ). log_of t c.args.log.now.ranks c.in_ok-by_rank.by_rank c.args.part.now) c.as_slice-2.ensures in
    let events = ap (λ (l : List Event). log_of c.args.log.now.program c.args.log.now.ranks l c.args.part.now) c.in_ok-by_rank.ensures in
    ifok_map c.log_of.result _ _ (λ made is. subst IsInBounds (sym (is ∙ text ∙ events)) fine) c.log_of.ensures
