use Rattle.std.proofs.Common.{◌≤◌, arith, sym}
use Rattle.srr_log.proofs.PieceLaws.{number_said}
use Rattle.srr_log.proofs.line.ranks_line.Goals as goal

pub overflow_cast-result : goal.overflow_cast-result
overflow_cast-result c =
    let few : c.in_ok-ranks.ranks ≤ 64 = (number_said 64 _ c.in_ok-ranks.ranks (sym c.in_ok-ranks.ensures)).0 in
    omega arith
