use Rattle.std.proofs.lemmas.Result.{err_from_is_err_and}
use Rattle.wiz_tool.proofs.report.tell_unwritten.Goals as goal

pub returns-clause-said : goal.returns-clause-said
returns-clause-said g c = (rw (c.as_slice.ensures, c.in_ok-push_about_file.ensures, c.new-text.ensures) at c.in_ok-put_message.ensures.said, c.new.ensures)

pub returns-in_err-put_message-clause-err : goal.returns-in_err-put_message-clause-err
returns-in_err-put_message-clause-err g c =
    let p = err_from_is_err_and c.from_residual-in_err-put_message.result c.from_residual-in_err-put_message.ensures.1 in
    rw p.1 (rw (c.as_slice.ensures, c.in_ok-push_about_file.ensures, c.new-text.ensures) at c.in_err-put_message.ensures.err)
