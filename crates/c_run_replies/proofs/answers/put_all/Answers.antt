use Rattle.std.proofs.Common.{sym, arith}
use Rattle.c_run_replies.proofs.CellLaws.{put_all-beyond}
use Rattle.c_run_replies.proofs.answers.put_all.Goals as goal

pub returns-else-cell-height : goal.returns-else-cell-height
returns-else-cell-height c = sym (put_all-beyond c.args.cell c.args.values.now c.args.state.now (omega arith))
