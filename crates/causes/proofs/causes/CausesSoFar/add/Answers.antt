use Rattle.std.proofs.Common.{refl}
use Rattle.std.proofs.lemmas.Result.{on_ok_weaker}
use Rattle.causes.proofs.Deciding.{seen_more}
use Rattle.causes.proofs.causes.CausesSoFar.add.Goals as goal

pub returns : goal.returns
returns c = record {
  seen = on_ok_weaker c.note.result
      (λ tables. seen_more c.args.self.now.tables.ranks c.args.before.now c.args.event.now c.args.self.now (record { tables = c.note.new.self; clocks = c.push.new.self; numbers = c.push-2.new.self }) c.in_ok-clock.clock c.number_of-number.result c.requires.seen (tables c.args.before.now refl c.requires.seen.tables) c.note.ensures.ranks c.in_ok-push.ensures.items c.in_ok-clock.ensures c.in_ok-push-2.ensures.items c.number_of-number.ensures)
      c.note.ensures.tables;
}
