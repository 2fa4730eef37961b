use Rattle.std.proofs.lemmas.Result.{err_from_is_err_and}
use Rattle.srr_log.specs.inside.EntryReading.{item_in}
use Rattle.srr_log.proofs.ListLaws.{list_onward, list_shorter, list_stops, list_fails, list_ends}
use Rattle.srr_log.proofs.entry_line.all_items.Goals as goal

pub returns-in_err-add_item : goal.returns-in_err-add_item
returns-in_err-add_item c =
    let p = err_from_is_err_and c.from_residual.result c.from_residual.ensures.1 in
    rw (p.1, p.2) (list_stops (item_in c.args.ranks c.args.group.now) 32 c.loop-piece.found c.add_item.new.found c.loop-piece.rest.now c.in-Some.piece.now c.in-Some.after.now _ c.in_err-add_item.field-0.0 c.in-Some.ensures c.in_err-add_item.ensures c.loop-piece.invariant)

pub loop-piece-smaller : goal.loop-piece-smaller
loop-piece-smaller c = list_shorter 32 c.loop-piece.rest.now c.in-Some.piece.now c.in-Some.after.now c.in-Some.ensures

pub loop-piece-preserved : goal.loop-piece-preserved
loop-piece-preserved c =
    let added = c.in_ok-add_item.ensures in
    list_onward (item_in c.args.ranks c.args.group.now) 32 c.loop-piece.found c.add_item.new.found added.0 c.loop-piece.rest.now c.in-Some.piece.now c.in-Some.after.now _ c.in-Some.ensures added.1 added.2 c.loop-piece.invariant

pub returns-in_err-add_item-2 : goal.returns-in_err-add_item-2
returns-in_err-add_item-2 c =
    let p = err_from_is_err_and c.from_residual-in_err-add_item-2.result c.from_residual-in_err-add_item-2.ensures.1 in
    rw (p.1, p.2) (list_fails (item_in c.args.ranks c.args.group.now) 32 c.loop-piece.found c.add_item-2.new.found c.loop-piece.rest.now _ c.in_err-add_item-2.field-0.0 c.in_default.ensures c.in_err-add_item-2.ensures c.loop-piece.invariant)

pub returns : goal.returns
returns c = list_ends (item_in c.args.ranks c.args.group.now) 32 c.loop-piece.found c.add_item-2.new.found c.loop-piece.rest.now _ c.in_default.ensures c.in_ok-add_item-2.ensures c.loop-piece.invariant
