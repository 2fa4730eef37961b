use Rattle.std.specs.String.{string_bytes}
use Rattle.wiz_tool.proofs.FinishLemmas.{failed_finish, written_finish}
use Rattle.wiz_tool.proofs.finish.finish.Goals as goal

pub returns-in-Ok : goal.returns-in-Ok
returns-in-Ok g c = λ files before store out ok stopped.
    written_finish files c.args.done before store (g.K.Sink.observed c.args.out.now) (g.K.Sink.observed c.tell.new.out) c.tell.result out
    (rw c.in-Ok.is at ok) c.tell.ensures.put c.tell.ensures.err

pub returns-in-Err-Failed : goal.returns-in-Err-Failed
returns-in-Err-Failed g c = λ files before store out ok stopped.
    let whole = rw c.in-Err-Failed.is at stopped in
    let at = rw c.in-Err-Failed.field-0-is at whole in
    failed_finish files c.args.done before store (g.K.Sink.observed c.args.out.now) (g.K.Sink.observed c.tell_unwritten.new.out) c.tell_unwritten.result
    (string_bytes c.in-Err-Failed.name) out at.0 at.1 (rw c.deref.ensures at c.tell_unwritten.ensures.said)
    (rw c.deref.ensures at c.tell_unwritten.ensures.err)
