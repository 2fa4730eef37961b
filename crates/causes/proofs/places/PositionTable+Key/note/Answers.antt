use Rattle.std.proofs.lemmas.Result.{on_ok_weaker}
use Rattle.causes.proofs.TableLemmas.{placed_at}
use Rattle.causes.proofs.places.PositionTable+Key.note.Goals as goal

pub returns : goal.returns
returns c =
    on_ok_weaker c.push_enter.result
    (λ adds. λ before at is. placed_at before c.args.event.now c.args.at c.events_key.result c.args.self.now c.push.new.self c.push_start.new.self c.push_enter.new.self c.events_key.ensures at c.in_ok-push.ensures c.in_ok-push_start.ensures adds is)
    c.push_enter.ensures
