use Rattle.srr_log.proofs.PieceLaws.{number_is}
use Rattle.srr_log.proofs.pieces.number.Goals as goal

pub returns-in_err-number : goal.returns-in_err-number
returns-in_err-number c = rw c.from_residual.ensures (number_is c.args.most c.args.text.now _ c.in_err-number.ensures)

pub returns : goal.returns
returns c = number_is c.args.most c.args.text.now _ c.in_ok-number.ensures
