use Rattle.std.proofs.lemmas.Result.{err_from_is_err_and}
use Rattle.srr_log.specs.inside.Pieces.{int_in}
use Rattle.srr_log.proofs.ListLaws.{list_onward, list_shorter, list_stops, list_fails, list_ends}
use Rattle.srr_log.proofs.lists.ints.Goals as goal

pub returns-in_err-add_int : goal.returns-in_err-add_int
returns-in_err-add_int c =
    let p = err_from_is_err_and c.from_residual.result c.from_residual.ensures.1 in
    rw (p.1, p.2) (list_stops int_in 44 c.loop-piece.found c.add_int.new.found c.loop-piece.rest.now c.in-Some.piece.now c.in-Some.after.now _ c.in_err-add_int.field-0.0 c.in-Some.ensures c.in_err-add_int.ensures c.loop-piece.invariant)

pub loop-piece-smaller : goal.loop-piece-smaller
loop-piece-smaller c = list_shorter 44 c.loop-piece.rest.now c.in-Some.piece.now c.in-Some.after.now c.in-Some.ensures

pub loop-piece-preserved : goal.loop-piece-preserved
loop-piece-preserved c =
    let added = c.in_ok-add_int.ensures in
    list_onward int_in 44 c.loop-piece.found c.add_int.new.found added.0 c.loop-piece.rest.now c.in-Some.piece.now c.in-Some.after.now _ c.in-Some.ensures added.1 added.2 c.loop-piece.invariant

pub returns-in_err-add_int-2 : goal.returns-in_err-add_int-2
returns-in_err-add_int-2 c =
    let p = err_from_is_err_and c.from_residual-in_err-add_int-2.result c.from_residual-in_err-add_int-2.ensures.1 in
    rw (p.1, p.2) (list_fails int_in 44 c.loop-piece.found c.add_int-2.new.found c.loop-piece.rest.now _ c.in_err-add_int-2.field-0.0 c.in_default.ensures c.in_err-add_int-2.ensures c.loop-piece.invariant)

pub returns : goal.returns
returns c = list_ends int_in 44 c.loop-piece.found c.add_int-2.new.found c.loop-piece.rest.now _ c.in_default.ensures c.in_ok-add_int-2.ensures c.loop-piece.invariant
