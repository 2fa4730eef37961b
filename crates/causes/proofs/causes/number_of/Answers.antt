use Rattle.std.proofs.Common.{ap, length, ◌∙◌, arith}
use Rattle.causes.specs.Positions.{is_event_of}
use Rattle.causes.specs.Tables.{positions_of_key}
use Rattle.causes.proofs.PositionLemmas.{few-positions}
use Rattle.causes.proofs.causes.number_of.Goals as goal

pub overflow_cast-result : goal.overflow_cast-result
overflow_cast-result c =
    let is = c.get.ensures ∙ ap (λ key. positions_of_key c.args.tables.now.places key) c.events_key.ensures ∙ c.requires.tables.places.own c.args.rank in
    let same = ap length is in
    let few = few-positions (is_event_of c.args.rank) 0 c.args.before.now in
    omega (arith, same, few)
