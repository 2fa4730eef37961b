use Rattle.std.proofs.lemmas.Result.{err_from_is_err_and}
use Rattle.srr_log.specs.inside.Pieces.{rank_in}
use Rattle.srr_log.proofs.ListLaws.{list_onward, list_shorter, list_stops, list_fails, list_ends}
use Rattle.srr_log.proofs.lists.ranks.Goals as goal

pub returns-in_err-add_rank : goal.returns-in_err-add_rank
returns-in_err-add_rank c =
    let p = err_from_is_err_and c.from_residual.result c.from_residual.ensures.1 in
    rw (p.1, p.2) (list_stops (rank_in c.args.ranks) c.args.mark c.loop-piece.found c.add_rank.new.found c.loop-piece.rest.now c.in-Some.piece.now c.in-Some.after.now _ c.in_err-add_rank.field-0.0 c.in-Some.ensures c.in_err-add_rank.ensures c.loop-piece.invariant)

pub loop-piece-smaller : goal.loop-piece-smaller
loop-piece-smaller c = list_shorter c.args.mark c.loop-piece.rest.now c.in-Some.piece.now c.in-Some.after.now c.in-Some.ensures

pub loop-piece-preserved : goal.loop-piece-preserved
loop-piece-preserved c =
    let added = c.in_ok-add_rank.ensures in
    list_onward (rank_in c.args.ranks) c.args.mark c.loop-piece.found c.add_rank.new.found added.0 c.loop-piece.rest.now c.in-Some.piece.now c.in-Some.after.now _ c.in-Some.ensures added.1 added.2 c.loop-piece.invariant

pub returns-in_err-add_rank-2 : goal.returns-in_err-add_rank-2
returns-in_err-add_rank-2 c =
    let p = err_from_is_err_and c.from_residual-in_err-add_rank-2.result c.from_residual-in_err-add_rank-2.ensures.1 in
    rw (p.1, p.2) (list_fails (rank_in c.args.ranks) c.args.mark c.loop-piece.found c.add_rank-2.new.found c.loop-piece.rest.now _ c.in_err-add_rank-2.field-0.0 c.in_default.ensures c.in_err-add_rank-2.ensures c.loop-piece.invariant)

pub returns : goal.returns
returns c = list_ends (rank_in c.args.ranks) c.args.mark c.loop-piece.found c.add_rank-2.new.found c.loop-piece.rest.now _ c.in_default.ensures c.in_ok-add_rank-2.ensures c.loop-piece.invariant
