use Rattle.std.proofs.Common.{arith}
use Rattle.c_program.specs.Performing.{completed}
use Rattle.c_run_replies.specs.Left.{IsChanged}
use Rattle.c_run_replies.proofs.CellLaws.{completed-left}
use Rattle.c_run_replies.proofs.reply.put_message.Goals as goal

pub returns-then-branch-clause-left : goal.returns-then-branch-clause-left
returns-then-branch-clause-left c =
    let h : IsChanged (completed c.args.rank.ranks c.args.start c.args.status c.in-Some.got.now c.args.state.now) c.args.state.now c.completed.new.state c.in_ok-completed.field-0 = rw c.status_cell.ensures at c.in_ok-completed.ensures in
    let same = completed-left c.args.rank.ranks c.args.start c.args.status c.in-Some.got.now c.args.state.now c.completed.new.state c.in_ok-completed.field-0 h in
    omega arith
