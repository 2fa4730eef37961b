use Rattle.std.proofs.Common.{◌∙◌, List, subst}
use Rattle.run_model.specs.declared.event.Event.{Event}
use Rattle.log_bounds.specs.RunBounds.{RepliesFit32}
use Rattle.srr_regroup.proofs.LogBounds.{join_bound}
use Rattle.srr_regroup.proofs.Made.{none_made, one_made}
use Rattle.srr_regroup.proofs.coarser.join.Goals as goal

pub loop-rest-init : goal.loop-rest-init
loop-rest-init c =
    none_made c.args.one.now c.args.two.now c.args.first.now.events.events c.args.second.now.events.events c.new-lists.result c.as_slice-rest.result.now
    c.new-lists.ensures (c.as_slice-rest.ensures ∙ c.in_ok-group.ensures)

pub loop-rest-preserved : goal.loop-rest-preserved
loop-rest-preserved c =
    one_made c.args.one.now c.args.two.now c.args.first.now.events.events c.args.second.now.events.events c.loop-rest.lists c.push.new.self c.loop-rest.rest.now
    c.in_ok-group.group c.in_ok-entries.entries c.loop-rest.invariant c.in-len1-up.len_at_least c.in_ok-group.ensures (rw (c.in_ok-by_first.ensures, c.in_ok-by_second.ensures) at c.in_ok-entries.ensures) c.in_ok-push.ensures.ok

pub returns-clause-in_bounds : goal.returns-clause-in_bounds
returns-clause-in_bounds c = λ bounds other_bounds.
    let F : List Event → Type 0 = λ l. RepliesFit32 l in
    let words = subst F c.as_slice.ensures.events c.replies_fit.ensures in
    let other_words = subst F c.as_slice-2.ensures.events c.replies_fit-2.ensures in
    join_bound c.args.one.now c.args.first.now.events.events c.args.two.now c.args.second.now.events.events c.in_ok-group.group c.in_ok-program.program
    c.loop-rest.lists c.loop-rest.rest.now c.requires bounds other_bounds words other_words c.in_ok-group.ensures (c.in_ok-program.ensures ∙ c.as_slice-3.ensures)
    c.loop-rest.invariant c.in_default.len_below
