use Rattle.wiz_runs.proofs.PictureLemmas.{over_is_told}
use Rattle.wiz_runs.proofs.commands.picture.tell_over.Goals as goal

pub returns : goal.returns
returns g c = λ file store.
    over_is_told file c.in_ok-text.text c.args.recording c.text_of_run-done.result store (g.K.Sink.observed c.args.out.now) (g.K.Sink.observed c.tell.new.out) c.tell.result
    c.text_of_run-done.ensures c.in_ok-text.ensures c.tell.ensures.put c.tell.ensures.err
